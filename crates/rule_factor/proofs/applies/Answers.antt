-- `rule_factor::applies` meets its contract, test by test.
use mathlib.Core.Path.{◌≡◌, sym, ap, ◌∙◌}
use native.Mathlib.Omega.{arith}
use lib.Dec.{leb}
use lib.ListN.{get_or, drop, length-drop}
use Rattle.common_lists.specs.Given.{given}
use Rattle.common_lists.proofs.Lent.{lent_part, lent_at}
use Rattle.model.specs.Code.{kind, children}
use Rattle.theory_reading.specs.Spans.{child_at}
use Rattle.theory_rewriting.specs.Children.{asked_child}
use Rattle.rule_factor.specs.Walks.{unit_at, sharing}
use Rattle.rule_factor.proofs.Here.{unit_as_none, unit_as_some, unit_not_0}
use Rattle.rule_factor.proofs.Walk.{sharing_none, sharing_some}
use Rattle.rule_factor.proofs.Asking.{conjunction_room, conjunction_there, applies_late, applies_other, applies_nothing, applies_shared}
use Rattle.rule_factor.proofs.applies.Goals as goal
use Rattle.rule_factor.proofs.applies.Goals.{then-at-i-via-then-at-i, then-at-i-via-else-at-i+then-kind_of-ne3}
use Rattle.rule_factor.proofs.applies.Goals.{After-children_of-k, After-unit_of, Else-kind_of-ne3, Start}

-- What is read there.
conjunction : (c : goal.Else-kind_of-ne3) → let a = c.args in kind (get_or a.part.now (child_at a.i a.part.now) 0) ≡ 3
conjunction c =
    sym (c.kind_of.ensures ∙ ap kind (c.from.ensures ∙ ap (λ n. get_or c.args.part.now n 0) c.requires.i_bound.1)) ∙ c.if-kind_of-ne3.false

-- What is found of child j, and the number of children.
found : (c : goal.After-unit_of) → let a = c.args in
    given c.unit_of.result ≡ unit_at a.j (drop (child_at a.i a.part.now) a.part.now)
found c = rw (lent_at c.args.at c.args.part.now c.requires.i_bound.1) at c.unit_of.ensures

counted : (c : goal.After-children_of-k) → c.children_of-k.result ≡ children (get_or c.args.part.now 0 0)
counted c = c.children_of-k.ensures ∙ ap children c.from-2.ensures

pub overflow_add-i : goal.overflow_add-i
overflow_add-i c = let k = asked_child c.requires.stretch c.requires.headed c.requires.i_bound in omega arith

pub returns-then-at-i : goal.returns-then-at-i
returns-then-at-i c =
    let a = c.args in
    let q = c.requires in
    elim c.then-at-i.branch [
      | then-at-i-via-then-at-i w ↦ applies_late q.stretch q.headed a.i a.j q.i_bound.0 (λ e. w.if-at-i.true (q.i_bound.1 ∙ e))
      | then-at-i-via-else-at-i+then-kind_of-ne3 w ↦
          let read = w.kind_of.ensures ∙ ap kind (w.from.ensures ∙ ap (λ n. get_or a.part.now n 0) q.i_bound.1) in
          applies_other q.stretch q.headed a.i a.j q.i_bound.0 (λ e. w.if-kind_of-ne3.true (read ∙ e))
    ]

pub offset_bounds-part-at : goal.offset_bounds-part-at
offset_bounds-part-at c = let k = asked_child c.requires.stretch c.requires.headed c.requires.i_bound in omega arith

pub bounds-part-at : goal.bounds-part-at
bounds-part-at c = let k = asked_child c.requires.stretch c.requires.headed c.requires.i_bound in omega arith

pub offset_bounds-part-at-2 : goal.offset_bounds-part-at-2
offset_bounds-part-at-2 c = let k = asked_child c.requires.stretch c.requires.headed c.requires.i_bound in omega arith

pub slice_bounds-unit_of-count : goal.slice_bounds-unit_of-count
slice_bounds-unit_of-count c = let k = asked_child c.requires.stretch c.requires.headed c.requires.i_bound in omega arith

pub slice_bounds-unit_of-start : goal.slice_bounds-unit_of-start
slice_bounds-unit_of-start c = let k = asked_child c.requires.stretch c.requires.headed c.requires.i_bound in omega arith

pub unit_of-requires : goal.unit_of-requires
unit_of-requires c =
    let l = c.args.part.now in
    let there = conjunction_there c.requires.stretch c.requires.headed c.args.i c.args.j c.requires.i_bound.0
    (conjunction (goal.at.unit_of-requires c).Else-kind_of-ne3) in
    let room = conjunction_room c.requires.stretch c.requires.headed c.args.i c.args.j there.1 in
    let k = asked_child c.requires.stretch c.requires.headed c.requires.i_bound in
    rw (lent_at c.args.at l c.requires.i_bound.1)
    (record { in_bounds = (room.0, omega (arith, length-drop (child_at c.args.i l) l)); part_in_bounds = room.1 })

pub returns-in_default : goal.returns-in_default
returns-in_default c =
    let a = c.args in
    let e = sym (ap given c.in_default.is) ∙ found (goal.at.returns-in_default c).After-unit_of in
    applies_nothing c.requires.stretch c.requires.headed a.i a.j (unit_as_none a.j (drop (child_at a.i a.part.now) a.part.now) e)

pub bounds-part-0 : goal.bounds-part-0
bounds-part-0 c = let k = asked_child c.requires.stretch c.requires.headed c.requires.i_bound in omega arith

pub slice_bounds-sharing_groups-count : goal.slice_bounds-sharing_groups-count
slice_bounds-sharing_groups-count c = let k = asked_child c.requires.stretch c.requires.headed c.requires.i_bound in omega arith

pub slice_bounds-sharing_groups-start : goal.slice_bounds-sharing_groups-start
slice_bounds-sharing_groups-start c = let k = asked_child c.requires.stretch c.requires.headed c.requires.i_bound in omega arith

pub sharing_groups-requires : goal.sharing_groups-requires
sharing_groups-requires c =
    let l = c.args.part.now in
    let k = asked_child c.requires.stretch c.requires.headed c.requires.i_bound in
    rw (lent_part 1 l) (omega (arith, length-drop 1 l), omega (arith, counted (goal.at.sharing_groups-requires c).After-children_of-k))

pub returns-in-None : goal.returns-in-None
returns-in-None c =
    let a = c.args in
    let l = a.part.now in
    let e = sym (ap given c.in-Some.is) ∙ found (goal.at.returns-in-None c).After-unit_of in
    let t = rw (counted (goal.at.returns-in-None c).After-children_of-k, lent_part 1 l) at (sym (ap given c.in-None.is) ∙ c.sharing_groups.ensures) in
    let not_shared = ap (λ x. sharing x (children (get_or l 0 0)) (drop 1 l)) (unit_as_some _ _ e) ∙ sharing_none _ _ _ t in
    ap (leb 2) (sym not_shared)
    ∙ applies_shared c.requires.stretch c.requires.headed a.i a.j c.requires.i_bound.0 (conjunction (goal.at.returns-in-None c).Else-kind_of-ne3)
    (sym c.requires.i_bound.1 ∙ c.if-at-i.false)
    (unit_not_0 _ _ e)

pub returns-in-Some-sharing_groups : goal.returns-in-Some-sharing_groups
returns-in-Some-sharing_groups c =
    let a = c.args in
    let l = a.part.now in
    let e = sym (ap given c.in-Some.is) ∙ found (goal.at.returns-in-Some-sharing_groups c).After-unit_of in
    let t = rw (counted (goal.at.returns-in-Some-sharing_groups c).After-children_of-k, lent_part 1 l)
    at (sym (ap given c.in-Some-sharing_groups.is) ∙ c.sharing_groups.ensures) in
    let count = ap (λ x. sharing x (children (get_or l 0 0)) (drop 1 l)) (unit_as_some _ _ e) ∙ sharing_some _ _ _ t in
    ap (leb 2) (sym count)
    ∙ applies_shared c.requires.stretch c.requires.headed a.i a.j c.requires.i_bound.0
    (conjunction (goal.at.returns-in-Some-sharing_groups c).Else-kind_of-ne3)
    (sym c.requires.i_bound.1 ∙ c.if-at-i.false)
    (unit_not_0 _ _ e)
