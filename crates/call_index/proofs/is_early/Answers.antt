-- `call_index::is_early` meets its contract, by the refusal's number.
use borrow.Author.Tests.{le-leb, lt-leb}
use Rattle.calls.specs.Chains.{is_early}
use Rattle.call_index.proofs.is_early.Goals as goal

pub returns-then-n-le6 : goal.returns-then-n-le6
unfolding is_early
returns-then-n-le6 c = rw (← c.number-n.ensures, le-leb c.number-n.result 6 c.if-n-le6.true)

pub returns-else-n-le6 : goal.returns-else-n-le6
unfolding is_early
returns-else-n-le6 c = rw (← c.number-n.ensures, lt-leb c.number-n.result 6 c.if-n-le6.false)
