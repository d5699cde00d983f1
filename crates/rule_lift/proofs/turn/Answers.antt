-- `rule_lift::turn` meets its contract: one number moves to before the conjunction, or the conjunction's head goes and its children stay.
use mathlib.Core.Option.{some}
use mathlib.Core.Path.{◌≡◌, ap, ◌∙◌}
use Prim.Native.Nat.{ℕ, suc, ◌+◌, ◌<◌}
use native.Mathlib.Omega.{arith}
use lib.ListN.{length, get_or, drop, set, length-set, length-drop}
use lib.Seq.{get_or-set_other}
use Rattle.common_lists.proofs.Lent.{lent_at}
use Rattle.model.specs.Code.{children}
use Rattle.model.specs.Forest.{and, Forest, ◌⊕◌, size, after, conjunction_at}
use Rattle.theory_forms.specs.Numbers.{children_small}
use Rattle.theory_reading.specs.Spans.{child_at}
use Rattle.theory_rewriting.specs.Children.{first_left, Group, group_bounds, group_few, group_long, child_room, Child, applied_child, conjunction_group}
use Rattle.rule_lift.proofs.Lifting.{conjunction_there, inner_within, turns_merge, turns_lift}
use Rattle.rule_lift.proofs.turn.Goals as goal
use Rattle.rule_lift.proofs.turn.Goals.{in_default-via-then-rule-lt11, in_default-via-else-rule-lt11+else-rule-lt13}
use Rattle.rule_lift.proofs.turn.Goals.{After-child_at, After-child_at-at, After-children_of-more, In-11-to-12, In_default, Start}

-- Child i of the group that the stretch begins with, and the conjunction that it is.
child : (c : goal.Start) → let l = c.args.part.now in Child l c.requires.headed.children c.args.i (child_at c.args.i l)
child c = applied_child c.requires.stretch c.requires.headed c.args.j (omega (arith, c.requires.le_rule.1)) c.requires.part_value

abbrev conjunction : (c : goal.Start) → (m : Forest) × (conjunction_at (after c.args.i c.requires.headed.children) ≡ some m)
conjunction c =
    conjunction_there c.requires.stretch c.requires.headed c.args.i c.args.j c.requires.part_value c.requires.le_rule.0 c.requires.le_rule.1

inner : (c : goal.Start) → let h = c.requires.headed in
    Group (drop (child_at c.args.i c.args.part.now) c.args.part.now) and (conjunction c).0
    (after (suc c.args.i) h.children ⊕ h.rest) h.zeros
inner c = conjunction_group c.requires.stretch c.requires.headed c.args.i (conjunction c).1

-- Where it begins, and the number that stands there.
inside : (c : goal.After-child_at-at) → c.child_at-at.result < length c.args.part.now
inside c =
    let k = (applied_child c.requires.stretch c.requires.headed c.args.j (omega (arith, c.requires.le_rule.1)) c.requires.part_value) in omega arith

read : (c : goal.After-child_at-at) (v : ℕ) → let l = c.args.part.now in
    get_or (set l 0 v) c.child_at-at.result 0 ≡ get_or l (child_at c.args.i l) 0
read c v =
    let l = c.args.part.now in
    get_or-set_other l 0 c.child_at-at.result v 0 (λ e. omega arith) ∙ ap (λ n. get_or l n 0) c.child_at-at.ensures.0

-- Where its literal stands.
literal : (c : goal.In-11-to-12) →
    c.args.j < size (conjunction_there c.requires.stretch c.requires.headed c.args.i c.args.j c.requires.part_value c.requires.le_rule.0
    c.requires.le_rule.1).0
literal c =
    inner_within c.requires.stretch c.requires.headed c.args.i c.args.j c.requires.part_value c.requires.le_rule.0 (omega arith)
    (conjunction_there c.requires.stretch c.requires.headed c.args.i c.args.j c.requires.part_value c.requires.le_rule.0 c.requires.le_rule.1).1

found : (c : goal.After-child_at) → let l = c.args.part.now in
    c.child_at.result ≡ child_at c.args.j (drop (child_at c.args.i l) l)
found c = rw (lent_at c.child_at-at.result c.args.part.now c.child_at-at.ensures.0) at c.child_at.ensures.0

ended : (c : goal.After-child_at) → c.child_at-at.result + c.child_at.result < length c.args.part.now
ended c =
    let l = c.args.part.now in
    let m = conjunction_there c.requires.stretch c.requires.headed c.args.i c.args.j c.requires.part_value c.requires.le_rule.0
    c.requires.le_rule.1 in
    let n : c.args.j < size m.0 = inner_within c.requires.stretch c.requires.headed c.args.i c.args.j c.requires.part_value c.requires.le_rule.0
    (omega arith) m.1 in
    let k = applied_child c.requires.stretch c.requires.headed c.args.j (omega (arith, c.requires.le_rule.1)) c.requires.part_value in
    let room = child_room (conjunction_group c.requires.stretch c.requires.headed c.args.i m.1) c.args.j (omega arith) in
    omega (arith, found c, length-drop (child_at c.args.i l) l)

-- The number of children of the conjunction, and that the head has room for them.
counted : (c : goal.After-children_of-more) → let l = c.args.part.now in
    c.children_of-more.result ≡ children (get_or l (child_at c.args.i l) 0)
counted c =
    let l = c.args.part.now in
    c.children_of-more.ensures ∙ ap children (c.from.ensures ∙ ap (λ n. get_or l n 0) c.child_at-at.ensures.0)

pub child_at-at-requires : goal.child_at-at-requires
child_at-at-requires c = let k = child (goal.at.child_at-at-requires c).Start in omega arith

pub slice_bounds-child_at-count : goal.slice_bounds-child_at-count
slice_bounds-child_at-count c = omega (arith, inside (goal.at.slice_bounds-child_at-count c).After-child_at-at)

pub slice_bounds-child_at-start : goal.slice_bounds-child_at-start
slice_bounds-child_at-start c = omega (arith, inside (goal.at.slice_bounds-child_at-start c).After-child_at-at)

pub child_at-requires : goal.child_at-requires
child_at-requires c =
    let l = c.args.part.now in
    let g = inner (goal.at.child_at-requires c).Start in
    let short = c.requires.stretch.short in
    let long = group_long g in
    rw (lent_at c.child_at-at.result l c.child_at-at.ensures.0)
    (omega (arith, length-drop (child_at c.args.i l) l, literal (goal.at.child_at-requires c).In-11-to-12, group_few g))

pub overflow_add-from : goal.overflow_add-from
overflow_add-from c = omega (arith, ended (goal.at.overflow_add-from c).After-child_at)

pub bounds-part-0 : goal.bounds-part-0
bounds-part-0 c = omega (arith, inside (goal.at.bounds-part-0 c).After-child_at-at)

pub overflow_add-part : goal.overflow_add-part
overflow_add-part c = let k = child (goal.at.overflow_add-part c).Start in omega arith

pub bounds-part-0-in-11-to-12 : goal.bounds-part-0-in-11-to-12
bounds-part-0-in-11-to-12 c = omega (arith, inside (goal.at.bounds-part-0-in-11-to-12 c).After-child_at-at)

pub bounds-part-at : goal.bounds-part-at
bounds-part-at c = simp length-set (inside (goal.at.bounds-part-at c).After-child_at-at)

pub overflow_sub-part : goal.overflow_sub-part
overflow_sub-part c =
    let l = c.args.part.now in
    omega (
      arith,
      read (goal.at.overflow_sub-part c).After-child_at-at (get_or l 0 0 + 1),
      first_left (child_at c.args.i l) l,
      group_bounds (inner (goal.at.overflow_sub-part c).Start),
    )

pub bounds-part-at-in-11-to-12 : goal.bounds-part-at-in-11-to-12
bounds-part-at-in-11-to-12 c = simp length-set (inside (goal.at.bounds-part-at-in-11-to-12 c).After-child_at-at)

pub move_before-requires : goal.move_before-requires
move_before-requires c = simp length-set (omega arith, ended (goal.at.move_before-requires c).After-child_at)

pub bounds-part-at-in_default : goal.bounds-part-at-in_default
bounds-part-at-in_default c = inside (goal.at.bounds-part-at-in_default c).After-child_at-at

pub overflow_add-part-in_default : goal.overflow_add-part-in_default
overflow_add-part-in_default c = let k = child (goal.at.overflow_add-part-in_default c).Start in omega (arith, children_small c.from.result)

pub overflow_sub-part-in_default : goal.overflow_sub-part-in_default
overflow_sub-part-in_default c = let k = child (goal.at.overflow_sub-part-in_default c).Start in omega arith

pub overflow_cast-part : goal.overflow_cast-part
overflow_cast-part c = let k = child (goal.at.overflow_cast-part c).Start in omega (arith, children_small c.from.result)

pub remove-requires : goal.remove-requires
remove-requires c = simp length-set (omega (arith, inside (goal.at.remove-requires c).After-child_at-at))

pub returns-in-11-to-12 : goal.returns-in-11-to-12
returns-in-11-to-12 c =
    turns_lift c.requires.stretch c.requires.headed c.args.i c.args.j c.requires.part_value c.requires.le_rule.0 (omega arith)
    (c.move_before.auto.s ∙ simp length-set)
    c.child_at-at.ensures.0 (found (goal.at.returns-in-11-to-12 c).After-child_at)
    (read (goal.at.returns-in-11-to-12 c).After-child_at-at (get_or c.args.part.now 0 0 + 1)) c.move_before.ensures

pub returns-in_default : goal.returns-in_default
returns-in_default c =
    let last : c.args.rule ≡ 13 = elim c.in_default.branch [
      | in_default-via-then-rule-lt11 w ↦ omega arith
      | in_default-via-else-rule-lt11+else-rule-lt13 w ↦ omega arith
    ] in
    turns_merge c.requires.stretch c.requires.headed c.args.i c.args.j c.requires.part_value last (c.remove.auto.s ∙ simp length-set)
    c.child_at-at.ensures.0 c.from-head.ensures (counted (goal.at.returns-in_default c).After-children_of-more) c.remove.ensures
