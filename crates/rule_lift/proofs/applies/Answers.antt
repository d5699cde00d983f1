-- `rule_lift::applies` meets its contract: the number of child i says whether it is a conjunction, and the others what the rule asks besides.
use mathlib.Core.Option.{some}
use mathlib.Core.Path.{◌≡◌, sym, ap, ◌∙◌}
use Prim.Native.Nat.{◌+◌}
use native.Mathlib.Omega.{arith}
use borrow.Author.Tests.{eq-eqb, ne_eqb}
use lib.Dec.{eqb}
use lib.ListN.{get_or, length-drop}
use Rattle.common_lists.proofs.Lent.{lent_at}
use Rattle.model.specs.Base.{is_some}
use Rattle.model.specs.Code.{kind, children}
use Rattle.model.specs.Forest.{Forest, size, after, conjunction_at}
use Rattle.theory_forms.specs.Logic.{is_some_of}
use Rattle.theory_reading.specs.Spans.{child_at}
use Rattle.theory_rewriting.specs.Children.{Child, asked_child, headed_group, conjunction_group, group_children, group_long, child_room, child_conjunction}
use Rattle.rule_lift.proofs.Lifting.{applies_nothing, applies_literal, applies_others_none, applies_others}
use Rattle.rule_lift.proofs.applies.Goals as goal
use Rattle.rule_lift.proofs.applies.Goals.{in_default-via-then-rule-lt11, in_default-via-else-rule-lt11+else-rule-lt13}
use Rattle.rule_lift.proofs.applies.Goals.{After-children_of-k, After-kind_of, Else-kind_of-ne3, In_default, Start}

-- Child i of the group that the stretch begins with.
child : (c : goal.Start) → Child c.args.part.now c.requires.headed.children c.args.i c.args.at
child c = asked_child c.requires.stretch c.requires.headed c.requires.i_bound

-- Whether it is a conjunction.
is_conjunction : (c : goal.After-kind_of) → eqb c.kind_of.result 3 ≡ is_some (conjunction_at (after c.args.i c.requires.headed.children))
is_conjunction c =
    let l = c.args.part.now in
    let read : c.kind_of.result ≡ kind (get_or l (child_at c.args.i l) 0) =
    c.kind_of.ensures ∙ ap kind (c.from.ensures ∙ ap (λ n. get_or l n 0) c.requires.i_bound.1) in
    rw read (child_conjunction (headed_group c.requires.stretch c.requires.headed) c.args.i
    (asked_child c.requires.stretch c.requires.headed c.requires.i_bound).there)

-- Past the first test it is one.
conjunction : (c : goal.Else-kind_of-ne3) → (m : Forest) × (conjunction_at (after c.args.i c.requires.headed.children) ≡ some m)
conjunction c =
    is_some_of _ (sym (let l = c.args.part.now in
    let read : c.kind_of.result ≡ kind (get_or l (child_at c.args.i l) 0) =
    c.kind_of.ensures ∙ ap kind (c.from.ensures ∙ ap (λ n. get_or l n 0) c.requires.i_bound.1) in
    rw read (child_conjunction (headed_group c.requires.stretch c.requires.headed) c.args.i
    (asked_child c.requires.stretch c.requires.headed c.requires.i_bound).there)) ∙ eq-eqb c.kind_of.result 3 c.if-kind_of-ne3.false)

-- Past the range the rule is the last one.
last : (c : goal.In_default) → c.args.rule ≡ 13
last c =
    elim c.in_default.branch [
      | in_default-via-then-rule-lt11 w ↦ omega arith
      | in_default-via-else-rule-lt11+else-rule-lt13 w ↦ omega arith
    ]

-- The number of the children.
counted : (c : goal.After-children_of-k) → c.children_of-k.result ≡ size c.requires.headed.children
counted c =
    c.children_of-k.ensures ∙ ap children c.from-in_default.ensures
    ∙ (asked_child c.requires.stretch c.requires.headed c.requires.i_bound).counted

pub offset_bounds-part-at : goal.offset_bounds-part-at
offset_bounds-part-at c = let k = child (goal.at.offset_bounds-part-at c).Start in omega arith

pub bounds-part-at : goal.bounds-part-at
bounds-part-at c = let k = child (goal.at.bounds-part-at c).Start in omega arith

pub returns-then-kind_of-ne3 : goal.returns-then-kind_of-ne3
returns-then-kind_of-ne3 c =
    applies_nothing c.requires.stretch c.requires.headed c.args.i c.args.j c.requires.le_rule.0 c.requires.le_rule.1
    (sym (is_conjunction (goal.at.returns-then-kind_of-ne3 c).After-kind_of) ∙ ne_eqb c.kind_of.result 3 c.if-kind_of-ne3.true)

pub offset_bounds-part-at-in-11-to-12 : goal.offset_bounds-part-at-in-11-to-12
offset_bounds-part-at-in-11-to-12 c = let k = child (goal.at.offset_bounds-part-at-in-11-to-12 c).Start in omega arith

pub slice_bounds-is_literal_child-count : goal.slice_bounds-is_literal_child-count
slice_bounds-is_literal_child-count c = let k = child (goal.at.slice_bounds-is_literal_child-count c).Start in omega arith

pub slice_bounds-is_literal_child-start : goal.slice_bounds-is_literal_child-start
slice_bounds-is_literal_child-start c = let k = child (goal.at.slice_bounds-is_literal_child-start c).Start in omega arith

pub is_literal_child-requires : goal.is_literal_child-requires
is_literal_child-requires c =
    let l = c.args.part.now in
    let g = conjunction_group c.requires.stretch c.requires.headed c.args.i (conjunction (goal.at.is_literal_child-requires c).Else-kind_of-ne3).1 in
    let short = c.requires.stretch.short in
    rw (lent_at c.args.at l c.requires.i_bound.1) (record {
      in_bounds = (group_long g, omega (arith, length-drop (child_at c.args.i l) l));
      part_in_bounds = λ n. omega (arith, group_children g, child_room g c.args.j (omega (arith, group_children g)));
    })

pub bounds-part-0 : goal.bounds-part-0
bounds-part-0 c = let k = child (goal.at.bounds-part-0 c).Start in omega arith

pub are_others_literals-requires : goal.are_others_literals-requires
are_others_literals-requires c =
    let g = headed_group c.requires.stretch c.requires.headed in
    let k = child (goal.at.are_others_literals-requires c).Start in
    let n = counted (goal.at.are_others_literals-requires c).After-children_of-k in
    record {
      i_lt_k = (omega arith, omega (arith, child_room g 0 (omega arith)), omega arith);
      i_in_bounds = omega (arith, child_room g (c.args.i + 1) (omega arith));
    }

pub returns-in-11-to-12 : goal.returns-in-11-to-12
returns-in-11-to-12 c =
    c.is_literal_child.ensures
    ∙ rw (lent_at c.args.at c.args.part.now c.requires.i_bound.1)
    (applies_literal c.requires.stretch c.requires.headed c.args.i c.args.j (conjunction (goal.at.returns-in-11-to-12 c).Else-kind_of-ne3).1
    (omega arith) (omega arith))

pub returns-then-j-eq0 : goal.returns-then-j-eq0
returns-then-j-eq0 c =
    c.are_others_literals.ensures
    ∙ rw (counted (goal.at.returns-then-j-eq0 c).After-children_of-k)
    (applies_others c.requires.stretch c.requires.headed c.args.i c.args.j (conjunction (goal.at.returns-then-j-eq0 c).Else-kind_of-ne3).1
    (last (goal.at.returns-then-j-eq0 c).In_default) (omega arith)
    (child (goal.at.returns-then-j-eq0 c).Start).there)

pub returns-else-j-eq0 : goal.returns-else-j-eq0
returns-else-j-eq0 c =
    ne_eqb c.args.j 0 c.if-j-eq0.false
    ∙ applies_others_none c.requires.stretch c.requires.headed c.args.i c.args.j (conjunction (goal.at.returns-else-j-eq0 c).Else-kind_of-ne3).1
    (last (goal.at.returns-else-j-eq0 c).In_default) c.if-j-eq0.false
