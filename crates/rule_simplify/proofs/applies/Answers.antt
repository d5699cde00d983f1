-- `rule_simplify::applies` meets its contract: the number of child i is the constant that the rule looks for, or the head counts one child.
use mathlib.Core.Path.{ap, ◌∙◌}
use Prim.Native.Nat.{◌≤◌}
use native.Mathlib.Omega.{arith}
use borrow.Author.Tests.{ne_eqb}
use Rattle.model.specs.Code.{children}
use Rattle.theory_rewriting.specs.Children.{Child, asked_child}
use Rattle.rule_simplify.proofs.Simplifying.{applies_nothing, applies_single, applies_constant}
use Rattle.rule_simplify.proofs.applies.Goals as goal
use Rattle.rule_simplify.proofs.applies.Goals.{Start}

child : (c : goal.Start) → Child c.args.part.now c.requires.headed.children c.args.i c.args.at
child c = asked_child c.requires.stretch c.requires.headed c.requires.i_bound

pub returns-else-j-eq0 : goal.returns-else-j-eq0
returns-else-j-eq0 c =
    ne_eqb c.args.j 0 c.if-j-eq0.false ∙ applies_nothing c.requires.stretch c.requires.headed c.args.i c.args.j c.requires.le_rule.1 c.if-j-eq0.false

pub offset_bounds-part-at : goal.offset_bounds-part-at
offset_bounds-part-at c = let k = child (goal.at.offset_bounds-part-at c).Start in omega arith

pub bounds-part-at : goal.bounds-part-at
bounds-part-at c = let k = child (goal.at.bounds-part-at c).Start in omega arith

pub bounds-part-0 : goal.bounds-part-0
bounds-part-0 c = let k = child (goal.at.bounds-part-0 c).Start in omega arith

pub returns-in-1-to-6 : goal.returns-in-1-to-6
returns-in-1-to-6 c =
    rw (c.requires.i_bound.1, c.constant_for.ensures)
    (applies_constant c.requires.stretch c.requires.headed c.args.i c.args.j (omega arith) (omega arith)
    (child (goal.at.returns-in-1-to-6 c).Start).there)

pub returns-in_default : goal.returns-in_default
returns-in_default c =
    let late : 7 ≤ c.args.rule = omega arith in
    rw (c.children_of.ensures ∙ ap children c.from.ensures ∙ (child (goal.at.returns-in_default c).Start).counted)
    (applies_single c.requires.stretch c.requires.headed c.args.i c.args.j late c.requires.le_rule.1 (omega arith)
    (child (goal.at.returns-in_default c).Start).there)
