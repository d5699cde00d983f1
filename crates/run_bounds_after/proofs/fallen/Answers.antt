-- `run_bounds_after::fallen` meets its contract, test by test.
use mathlib.Core.Path.{sym}
use Prim.Native.Nat.{◌+◌, ◌-◌}
use borrow.Author.Tests.{lt-ltb, le-ltb}
use lib.Dec.{ltb}
use Rattle.theory_forms.specs.Logic.{pick_true, pick_false}
use Rattle.run_bounds_after.proofs.fallen.Goals as goal

pub returns-then-place-q : goal.returns-then-place-q
returns-then-place-q c =
    let a = c.args in
    sym (pick_true (ltb a.place (a.q + a.n)) (a.n - a.by) a.n (lt-ltb a.place (a.q + a.n) c.if-place-q.true))

pub returns-else-place-q : goal.returns-else-place-q
returns-else-place-q c =
    let a = c.args in
    sym (pick_false (ltb a.place (a.q + a.n)) (a.n - a.by) a.n (le-ltb a.place (a.q + a.n) c.if-place-q.false))
