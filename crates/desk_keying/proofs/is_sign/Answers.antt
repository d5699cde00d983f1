-- `desk_keying::is_sign` meets its contract.
use borrow.Author.Tests.{eq-eqb, ne_eqb}
use Rattle.desk_keying.proofs.is_sign.Goals as goal

pub returns-then-x-eq43 : goal.returns-then-x-eq43
returns-then-x-eq43 c = rw (eq-eqb _ 43 c.if-x-eq43.true)

pub returns-else-x-eq43 : goal.returns-else-x-eq43
returns-else-x-eq43 c = rw (ne_eqb _ 43 c.if-x-eq43.false)
