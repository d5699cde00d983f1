-- `rule_spread::empty_group` meets its contract.
use Rattle.model.specs.Base.{pick}
use Rattle.rule_spread.specs.Assigning.{empty}
use Rattle.rule_spread.proofs.empty_group.Goals as goal

pub returns-then-disjunction : goal.returns-then-disjunction
unfolding empty pick
returns-then-disjunction c = rw c.if-disjunction.true

pub returns-else-disjunction : goal.returns-else-disjunction
unfolding empty pick
returns-else-disjunction c = rw c.if-disjunction.false
