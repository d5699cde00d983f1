-- `rule_simplify::turn` meets its contract: what goes are the numbers between the constant and the end of the children, child i, or the head.
use mathlib.Core.Path.{◌≡◌, ap, ◌∙◌}
use Prim.Native.Nat.{◌≤◌}
use native.Mathlib.Omega.{arith}
use lib.ListN.{length-set}
use Rattle.model.specs.Code.{value, children}
use Rattle.model.specs.Forest.{size}
use Rattle.theory_reading.specs.Spans.{child_at}
use Rattle.theory_rewriting.specs.Children.{Child, applied_child}
use Rattle.rule_simplify.proofs.Simplifying.{turns_single, turns_omit, turns_absorb}
use Rattle.rule_simplify.proofs.turn.Goals as goal
use Rattle.rule_simplify.proofs.turn.Goals.{in_default-via-then-rule-lt1, in_default-via-else-rule-lt1+else-rule-lt4+else-rule-lt7}
use Rattle.rule_simplify.proofs.turn.Goals.{After-child_at-end, After-children_of-k, Start}

child : (c : goal.Start) → let l = c.args.part.now in Child l c.requires.headed.children c.args.i (child_at c.args.i l)
child c = applied_child c.requires.stretch c.requires.headed c.args.j (omega (arith, c.requires.le_rule.1)) c.requires.part_value

-- The number of the children, where the last one ends, and that it ends past the place of the constant.
counted : (c : goal.After-children_of-k) → c.children_of-k.result ≡ size c.requires.headed.children
counted c =
    c.children_of-k.ensures ∙ ap children c.from.ensures
    ∙ (applied_child c.requires.stretch c.requires.headed c.args.j (omega (arith, c.requires.le_rule.1)) c.requires.part_value).counted

ended : (c : goal.After-child_at-end) → c.child_at-end.result ≡ child_at (size c.requires.headed.children) c.args.part.now
ended c =
    let l = c.args.part.now in
    c.child_at-end.ensures.0 ∙ ap (λ m. child_at m l)
    (c.children_of-k.ensures ∙ ap children c.from.ensures
    ∙ (applied_child c.requires.stretch c.requires.headed c.args.j (omega (arith, c.requires.le_rule.1)) c.requires.part_value).counted)

late : (c : goal.After-child_at-end) → 2 ≤ c.child_at-end.result
late c =
    let k = (applied_child c.requires.stretch c.requires.headed c.args.j (omega (arith, c.requires.le_rule.1)) c.requires.part_value) in
    omega (arith, ended c)

pub bounds-part-0 : goal.bounds-part-0
bounds-part-0 c = let k = child (goal.at.bounds-part-0 c).Start in omega arith

pub child_at-end-requires : goal.child_at-end-requires
child_at-end-requires c =
    let k = child (goal.at.child_at-end-requires c).Start in omega (arith, counted (goal.at.child_at-end-requires c).After-children_of-k)

pub bounds-part-1 : goal.bounds-part-1
bounds-part-1 c = simp length-set (omega (arith, late (goal.at.bounds-part-1 c).After-child_at-end, c.child_at-end.ensures.1))

pub overflow_sub-end : goal.overflow_sub-end
overflow_sub-end c = late (goal.at.overflow_sub-end c).After-child_at-end

pub remove-requires : goal.remove-requires
remove-requires c =
    simp length-set (omega (arith, late (goal.at.remove-requires c).After-child_at-end, c.child_at-end.ensures.1))

pub child_at-at-requires : goal.child_at-at-requires
child_at-at-requires c = let k = child (goal.at.child_at-at-requires c).Start in omega arith

pub overflow_sub-part-in-4-to-6 : goal.overflow_sub-part-in-4-to-6
overflow_sub-part-in-4-to-6 c = let k = child (goal.at.overflow_sub-part-in-4-to-6 c).Start in omega arith

pub remove-requires-in-4-to-6 : goal.remove-requires-in-4-to-6
remove-requires-in-4-to-6 c =
    let k = child (goal.at.remove-requires-in-4-to-6 c).Start in
    simp length-set (omega (arith, c.child_at-at.ensures.0))

pub remove-requires-in_default : goal.remove-requires-in_default
remove-requires-in_default c = let k = child (goal.at.remove-requires-in_default c).Start in omega arith

pub returns-in-1-to-3 : goal.returns-in-1-to-3
unfolding value
returns-in-1-to-3 c =
    turns_absorb c.requires.stretch c.requires.headed c.args.i c.args.j c.requires.part_value (c.remove.auto.s ∙ simp length-set) (omega arith)
    (rw (ended (goal.at.returns-in-1-to-3 c).After-child_at-end, c.constant_for.ensures) at c.remove.ensures)

pub returns-in-4-to-6 : goal.returns-in-4-to-6
returns-in-4-to-6 c =
    let k = child (goal.at.returns-in-4-to-6 c).Start in
    turns_omit c.requires.stretch c.requires.headed c.args.i c.args.j c.requires.part_value (c.remove-in-4-to-6.auto.s ∙ simp length-set)
    (omega arith)
    (omega arith) _ (omega arith)
    (rw c.child_at-at.ensures.0 at c.remove-in-4-to-6.ensures)

pub returns-in_default : goal.returns-in_default
returns-in_default c =
    let late : 7 ≤ c.args.rule = elim c.in_default.branch [
      | in_default-via-then-rule-lt1 w ↦ omega arith
      | in_default-via-else-rule-lt1+else-rule-lt4+else-rule-lt7 w ↦ omega arith
    ] in
    turns_single c.requires.stretch c.requires.headed c.args.i c.args.j c.requires.part_value c.remove-in_default.auto.s late (omega arith)
    c.remove-in_default.ensures
