-- `rule_spread::assign_around` meets its contract.
use Rattle.rule_spread.specs.Assigning.{assign}
use Rattle.rule_spread.proofs.Spreading.{twice_replaced}
use Rattle.rule_spread.proofs.assign_around.Goals as goal

pub returns : goal.returns
unfolding assign
returns c =
    let a = c.args in
    rw (← c.opposite_of-opposite.ensures, ← c.empty_group-neutral.ensures, ← c.empty_group-deciding.ensures)
    (twice_replaced _ a.at a.end a.part.now c.requires.0 c.requires.1 c.requires.2 c.assign.ensures c.assign-2.ensures)
