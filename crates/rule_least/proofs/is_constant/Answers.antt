-- `rule_least::is_constant` meets its contract.
use borrow.Author.Tests.{eq-eqb, ne_eqb}
use Rattle.rule_least.specs.LeastHeads.{is_constant}
use Rattle.rule_least.proofs.is_constant.Goals as goal

pub returns-then-x-eq-FALSE : goal.returns-then-x-eq-FALSE
unfolding is_constant
returns-then-x-eq-FALSE c = rw (eq-eqb c.args.x 16384 c.if-x-eq-FALSE.true)

pub returns-else-x-eq-FALSE : goal.returns-else-x-eq-FALSE
unfolding is_constant
returns-else-x-eq-FALSE c = rw (ne_eqb c.args.x 16384 c.if-x-eq-FALSE.false)
