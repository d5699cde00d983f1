-- `report_marks::mark_of` meets its contract, by the definition.
use mathlib.Core.Path.{refl}
use Prim.Native.Nat.{◌+◌, ◌*◌}
use borrow.Author.Tests.{eq-eqb, ne_eqb}
use lib.ListN.{get_or}
use Rattle.model.specs.Base.{pick}
use Rattle.theory_meaning.specs.FailedLiterals.{place_of, set_of, mark_in}
use Rattle.report_marks.proofs.mark_of.Goals as goal

pub returns-then-failed-v-eq1 : goal.returns-then-failed-v-eq1
unfolding mark_in set_of place_of pick
returns-then-failed-v-eq1 c = let a = c.args in rw (eq-eqb (get_or a.failed.now (2 * a.v + 1) 0) 1 c.if-failed-v-eq1.true) refl

pub returns-then-failed-v-eq1-2 : goal.returns-then-failed-v-eq1-2
unfolding mark_in set_of place_of pick
returns-then-failed-v-eq1-2 c =
    let a = c.args in
    let t = a.failed.now in
    rw (ne_eqb (get_or t (2 * a.v + 1) 0) 1 c.if-failed-v-eq1.false, eq-eqb (get_or t (2 * a.v) 0) 1 c.if-failed-v-eq1-2.true)

pub returns-else-failed-v-eq1-2 : goal.returns-else-failed-v-eq1-2
unfolding mark_in set_of place_of pick
returns-else-failed-v-eq1-2 c =
    let a = c.args in
    let t = a.failed.now in
    rw (ne_eqb (get_or t (2 * a.v + 1) 0) 1 c.if-failed-v-eq1.false, ne_eqb (get_or t (2 * a.v) 0) 1 c.if-failed-v-eq1-2.false)
