-- `rule_spread::turn` meets its contract: the literal is assigned in the numbers of the other children.
use mathlib.Core.Path.{◌≡◌, ap, ap₂, ◌∙◌}
use native.Mathlib.Omega.{arith}
use lib.Dec.{eqb}
use lib.ListN.{get_or}
use Rattle.model.specs.Code.{children}
use Rattle.model.specs.Forest.{size}
use Rattle.theory_reading.specs.Spans.{child_at}
use Rattle.theory_rewriting.specs.Children.{Child, applied_child}
use Rattle.rule_spread.specs.Assigning.{assign, around}
use Rattle.rule_spread.proofs.Spreading.{turns_spread}
use Rattle.rule_spread.proofs.turn.Goals as goal
use Rattle.rule_spread.proofs.turn.Goals.{After-child_at-end, After-children_of-k, Start}

child : (c : goal.Start) → let l = c.args.part.now in Child l c.requires.headed.children c.args.i (child_at c.args.i l)
child c = applied_child c.requires.stretch c.requires.headed c.args.j (omega (arith, c.requires.le_rule.1)) c.requires.part_value

-- The number of the children, and where the last one ends.
counted : (c : goal.After-children_of-k) → c.children_of-k.result ≡ size c.requires.headed.children
counted c =
    c.children_of-k.ensures ∙ ap children c.from.ensures
    ∙ (applied_child c.requires.stretch c.requires.headed c.args.j (omega (arith, c.requires.le_rule.1)) c.requires.part_value).counted

ended : (c : goal.After-child_at-end) → c.child_at-end.result ≡ child_at (size c.requires.headed.children) c.args.part.now
ended c =
    c.child_at-end.ensures.0 ∙ ap (λ n. child_at n c.args.part.now)
    (c.children_of-k.ensures ∙ ap children c.from.ensures
    ∙ (applied_child c.requires.stretch c.requires.headed c.args.j (omega (arith, c.requires.le_rule.1)) c.requires.part_value).counted)

pub bounds-part-0 : goal.bounds-part-0
bounds-part-0 c = let k = child (goal.at.bounds-part-0 c).Start in omega arith

pub child_at-at-requires : goal.child_at-at-requires
child_at-at-requires c = let k = child (goal.at.child_at-at-requires c).Start in omega arith

pub child_at-end-requires : goal.child_at-end-requires
child_at-end-requires c =
    let k = child (goal.at.child_at-end-requires c).Start in
    omega (arith, counted (goal.at.child_at-end-requires c).After-children_of-k)

pub assign_around-requires : goal.assign_around-requires
assign_around-requires c =
    let k = child (goal.at.assign_around-requires c).Start in
    omega (arith, ended (goal.at.assign_around-requires c).After-child_at-end, c.child_at-at.ensures.0)

pub returns : goal.returns
returns c =
    let a = c.args in
    let l = a.part.now in
    turns_spread c.requires.stretch c.requires.headed a.i a.j c.requires.le_rule.0 c.requires.le_rule.1 c.requires.part_value
    c.assign_around.auto.part
    (c.assign_around.ensures ∙ ap₂ (λ p q. around (assign (eqb a.rule 9) (get_or l p 0)) p q l)
    c.child_at-at.ensures.0 (ended (goal.at.returns c).After-child_at-end))
