-- `rule_least::is_ended` meets its contract, by the rule and the first of the two tests.
use borrow.Author.Tests.{eq-eqb, ne_eqb}
use Prim.Native.Nat.{◌%◌}
use Rattle.model.specs.Base.{pick}
use Rattle.model.specs.Limits.{least_factor}
use Rattle.rule_least.specs.LeastHeads.{is_ended}
use Rattle.rule_least.proofs.is_ended.Goals as goal

pub returns-then-asked-eq0 : goal.returns-then-asked-eq0
unfolding is_ended pick
returns-then-asked-eq0 c =
    let a = c.args in
    rw (eq-eqb a.rule 16 c.if-rule-eq16.true, eq-eqb (a.head % least_factor) 0 c.if-asked-eq0.true)

pub returns-else-asked-eq0 : goal.returns-else-asked-eq0
unfolding is_ended pick
returns-else-asked-eq0 c =
    let a = c.args in
    rw (eq-eqb a.rule 16 c.if-rule-eq16.true, ne_eqb (a.head % least_factor) 0 c.if-asked-eq0.false, c.children_of-members.ensures)

pub returns-then-asked-eq1 : goal.returns-then-asked-eq1
unfolding is_ended pick
returns-then-asked-eq1 c =
    let a = c.args in
    rw (ne_eqb a.rule 16 c.if-rule-eq16.false, eq-eqb (a.head % least_factor) 1 c.if-asked-eq1.true)

pub returns-else-asked-eq1 : goal.returns-else-asked-eq1
unfolding is_ended pick
returns-else-asked-eq1 c =
    let a = c.args in
    rw (ne_eqb a.rule 16 c.if-rule-eq16.false, ne_eqb (a.head % least_factor) 1 c.if-asked-eq1.false, c.children_of-members.ensures)
