-- `rule_spread::applies` meets its contract: what stands at the child, and around it, is read off the numbers.
use mathlib.Core.Path.{◌≡◌, ap, ap₂, ◌∙◌}
use native.Mathlib.Omega.{arith}
use Rattle.model.specs.Code.{children}
use Rattle.model.specs.Forest.{size}
use Rattle.theory_reading.specs.Spans.{child_at}
use Rattle.theory_rewriting.specs.Children.{Child, asked_child}
use Rattle.rule_spread.specs.Assigning.{spreads_from}
use Rattle.rule_spread.proofs.Spreading.{applies_none, applies_around}
use Rattle.rule_spread.proofs.applies.Goals as goal
use Rattle.rule_spread.proofs.applies.Goals.{After-child_at-end, After-children_of-k, Start}

child : (c : goal.Start) → Child c.args.part.now c.requires.headed.children c.args.i c.args.at
child c = asked_child c.requires.stretch c.requires.headed c.requires.i_bound

-- The number of the children, and where the last one ends.
counted : (c : goal.After-children_of-k) → c.children_of-k.result ≡ size c.requires.headed.children
counted c = c.children_of-k.ensures ∙ ap children c.from.ensures ∙ (asked_child c.requires.stretch c.requires.headed c.requires.i_bound).counted

ended : (c : goal.After-child_at-end) → c.child_at-end.result ≡ child_at (size c.requires.headed.children) c.args.part.now
ended c =
    c.child_at-end.ensures.0 ∙ ap (λ n. child_at n c.args.part.now)
    (c.children_of-k.ensures ∙ ap children c.from.ensures ∙ (asked_child c.requires.stretch c.requires.headed c.requires.i_bound).counted)

pub returns-then-j-ne0 : goal.returns-then-j-ne0
returns-then-j-ne0 c =
    applies_none c.requires.stretch c.requires.headed c.args.i c.args.j c.requires.le_rule.0 c.requires.le_rule.1 c.if-j-ne0.true

pub bounds-part-0 : goal.bounds-part-0
bounds-part-0 c = let k = child (goal.at.bounds-part-0 c).Start in omega arith

pub child_at-end-requires : goal.child_at-end-requires
child_at-end-requires c =
    let k = child (goal.at.child_at-end-requires c).Start in omega (arith, counted (goal.at.child_at-end-requires c).After-children_of-k)

pub occurs_around-requires : goal.occurs_around-requires
occurs_around-requires c =
    let k = child (goal.at.occurs_around-requires c).Start in omega (arith, ended (goal.at.occurs_around-requires c).After-child_at-end)

pub returns : goal.returns
returns c =
    c.occurs_around.ensures
    ∙ ap₂ (λ p q. spreads_from p q c.args.part.now) c.requires.i_bound.1 (ended (goal.at.returns c).After-child_at-end)
    ∙ applies_around c.requires.stretch c.requires.headed c.args.i c.args.j c.requires.le_rule.0 c.requires.le_rule.1 (omega arith)
    (child (goal.at.returns c).Start).there
