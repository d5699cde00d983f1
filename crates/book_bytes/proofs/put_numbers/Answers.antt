use mathlib.Core.Path.{refl}
use Prim.Native.Nat.{◌+◌, ◌*◌}
use native.Mathlib.Omega.{arith}
use Rattle.model.specs.Book.{word, words}
use Rattle.theory_formats.specs.Bytes.{length_words}
use Rattle.common_lists.proofs.Starts.{start_more}
use Rattle.book_bytes.proofs.ReadNumbers.{words_more}
use Rattle.book_bytes.proofs.put_numbers.Goals as goal

pub loop-i-init : goal.loop-i-init
unfolding words
loop-i-init c = refl

pub loop-i-preserved : goal.loop-i-preserved
loop-i-preserved c =
    let s = c.args.s.now in
    let old = c.args.out.now in
    let i = c.loop-i.i in
    rw c.number_at.ensures
    (start_more (words i s) (words (i + 1) s) old (word s (2 * i)) (words_more i s) (length_words i s) (omega arith) c.loop-i.invariant)
