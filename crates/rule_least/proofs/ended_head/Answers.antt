-- `rule_least::ended_head` meets its contract, by the rule and how many are asked for.
use Prim.Native.Nat.{◌%◌, ◌<◌}
use native.Mathlib.Omega.{arith}
use borrow.Author.Tests.{eq-eqb, ne_eqb}
use Rattle.model.specs.Base.{pick}
use Rattle.model.specs.Limits.{least_factor, kind_factor}
use Rattle.theory_forms.specs.Numbers.{children_small}
use Rattle.rule_least.specs.LeastHeads.{ended_head}
use Rattle.rule_least.proofs.ended_head.Goals as goal
use Rattle.rule_least.proofs.ended_head.Goals.{After-children_of-members}

few : (c : goal.After-children_of-members) → c.children_of-members.result < kind_factor
few c = omega (arith, c.children_of-members.ensures, children_small c.args.head)

pub returns-then-asked-eq0 : goal.returns-then-asked-eq0
unfolding ended_head pick
returns-then-asked-eq0 c =
    let a = c.args in
    rw (eq-eqb a.rule 16 c.if-rule-eq16.true, eq-eqb (a.head % least_factor) 0 c.if-asked-eq0.true)

pub returns-else-asked-eq0 : goal.returns-else-asked-eq0
unfolding ended_head pick
returns-else-asked-eq0 c =
    let a = c.args in
    rw (eq-eqb a.rule 16 c.if-rule-eq16.true, ne_eqb (a.head % least_factor) 0 c.if-asked-eq0.false)

pub overflow_cast-result : goal.overflow_cast-result
overflow_cast-result c = let n = few (goal.at.overflow_cast-result c).After-children_of-members in record { fits = omega arith }

pub overflow_add-result : goal.overflow_add-result
overflow_add-result c = let n = few (goal.at.overflow_add-result c).After-children_of-members in record { fits = omega arith }

pub returns-then-asked-eq1 : goal.returns-then-asked-eq1
unfolding ended_head pick
returns-then-asked-eq1 c =
    let a = c.args in
    rw (ne_eqb a.rule 16 c.if-rule-eq16.false, eq-eqb (a.head % least_factor) 1 c.if-asked-eq1.true, c.children_of-members.ensures)

pub overflow_cast-result-else-asked-eq1 : goal.overflow_cast-result-else-asked-eq1
overflow_cast-result-else-asked-eq1 c = let n = few (goal.at.overflow_cast-result-else-asked-eq1 c).After-children_of-members in record { fits = omega arith }

pub overflow_add-result-else-asked-eq1 : goal.overflow_add-result-else-asked-eq1
overflow_add-result-else-asked-eq1 c = let n = few (goal.at.overflow_add-result-else-asked-eq1 c).After-children_of-members in record { fits = omega arith }

pub returns-else-asked-eq1 : goal.returns-else-asked-eq1
unfolding ended_head pick
returns-else-asked-eq1 c =
    let a = c.args in
    rw (ne_eqb a.rule 16 c.if-rule-eq16.false, ne_eqb (a.head % least_factor) 1 c.if-asked-eq1.false, c.children_of-members.ensures)
