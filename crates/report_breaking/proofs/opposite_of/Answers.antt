-- `report_breaking::opposite_of` meets its contract, by the remainder.
use Prim.Native.Nat.{◌+◌, ◌-◌, ◌%◌}
use mathlib.Core.Path.{sym}
use borrow.Author.Tests.{eq-eqb, ne_eqb}
use lib.Dec.{eqb}
use Rattle.theory_forms.specs.Logic.{pick_true, pick_false}
use Rattle.report_breaking.specs.Breaking.{opposite}
use Rattle.report_breaking.proofs.opposite_of.Goals as goal

pub returns-then-place-eq0 : goal.returns-then-place-eq0
unfolding opposite
returns-then-place-eq0 c =
    let p = c.args.place in
    sym (pick_true (eqb (p % 2) 0) (p + 1) (p - 1) (eq-eqb (p % 2) 0 c.if-place-eq0.true))

pub returns-else-place-eq0 : goal.returns-else-place-eq0
unfolding opposite
returns-else-place-eq0 c =
    let p = c.args.place in
    sym (pick_false (eqb (p % 2) 0) (p + 1) (p - 1) (ne_eqb (p % 2) 0 c.if-place-eq0.false))
