use mathlib.Core.List.{flatten}
use mathlib.Core.Path.{◌≡◌, refl}
use Prim.Native.Nat.{◌*◌}
use native.Mathlib.Omega.{arith}
use borrow.Author.Rules.{part_to_end}
use lib.ListN.{length-drop}
use Rattle.model.specs.Limits.{code_length}
use Rattle.model.specs.Propagation.{count_from}
use Rattle.texts.specs.ClauseBook.{codes_to}
use Rattle.import_codes.proofs.CodeBytes.{codes_more}
use Rattle.import_codes.proofs.put_codes.Goals as goal

pub loop-i-init : goal.loop-i-init
unfolding codes_to count_from flatten
loop-i-init c = (refl, refl)

pub put_code-requires : goal.put_code-requires
put_code-requires c =
    let n = c in
    let at = code_length * n.loop-i.i in
    (omega arith, rw (part_to_end n.loop-i.out at) (omega (arith, length-drop at n.loop-i.out)))

pub loop-i-preserved : goal.loop-i-preserved
loop-i-preserved c =
    let n = c in
    let old = n.args.out.now in
    let call = c.put_code in
    (omega arith, codes_more n.loop-i.i old (omega arith) n.loop-i.invariant.1 (omega arith) call.ensures)

pub returns : goal.returns
returns c =
    let e : c.loop-i.i ≡ c.args.n = omega arith in cc
