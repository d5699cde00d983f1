-- `sheet_shifts::replacement` meets its contract: the tests are those of the definition, in its order.
use borrow.Author.Tests.{eq-eqb, ne_eqb}
use Rattle.model.specs.Base.{pick}
use Rattle.sheet_shifts.specs.Replaced.{replaced}
use Rattle.sheet_shifts.proofs.replacement.Goals as goal

pub returns-then-n-same : goal.returns-then-n-same
unfolding replaced pick
returns-then-n-same c =
    let a = c.args in
    rw (eq-eqb a.n a.same c.if-n-same.true)

pub returns-then-n-opposite : goal.returns-then-n-opposite
unfolding replaced pick
returns-then-n-opposite c =
    let a = c.args in
    rw (ne_eqb a.n a.same c.if-n-same.false, eq-eqb a.n a.opposite c.if-n-opposite.true)

pub returns-else-n-opposite : goal.returns-else-n-opposite
unfolding replaced pick
returns-else-n-opposite c =
    let a = c.args in
    rw (ne_eqb a.n a.same c.if-n-same.false, ne_eqb a.n a.opposite c.if-n-opposite.false)
