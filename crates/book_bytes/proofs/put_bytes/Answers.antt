use mathlib.Core.Path.{◌≡◌, refl, ◌∙◌}
use Prim.Native.Nat.{◌+◌, ◌*◌, ◌<◌}
use native.Mathlib.Omega.{arith}
use native.Mathlib.Numerals.{add-one}
use lib.ListN.{length, take, get_or}
use lib.Seq.{take-suc, length-take-le}
use Rattle.model.specs.Book.{bytes_of}
use Rattle.book_bytes.proofs.NumberBytes.{bytes_more}
use Rattle.book_bytes.proofs.put_bytes.Goals as goal

pub loop-i-init : goal.loop-i-init
unfolding bytes_of
loop-i-init c = refl

pub loop-i-preserved : goal.loop-i-preserved
loop-i-preserved c =
    let s = c.args.s.now in
    let old = c.args.out.now in
    let i = c.loop-i.i in
    let within : i < length s = omega arith in
    let two : 2 * (i + 1) ≡ 2 * i + 2 = omega arith in
    c.put_word.ensures
    ∙ rw (c.from.ensures, two, add-one i, take-suc s i 0)
    (bytes_more (take i s) old (get_or s i 0) (omega (arith, length-take-le i s (omega arith))) (omega arith) c.loop-i.invariant)
