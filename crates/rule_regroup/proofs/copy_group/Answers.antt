-- `rule_regroup::copy_group` meets its contract: the head with one child fewer, and the numbers before the literal and after it.
use Rattle.std.specs.Prelude.{is_ok}
use mathlib.Core.List.{List, ◌∷◌, ◌++◌}
use mathlib.Core.Path.{◌≡◌, sym, ap, ◌∙◌}
use Prim.Native.Nat.{ℕ, ◌+◌, ◌-◌, ◌≤◌, ◌<◌}
use native.Mathlib.Omega.{arith}
use borrow.Author.Tests.{ltb-true}
use lib.ListN.{length, get_or, take, drop, length-set, length-append, length-drop}
use Rattle.common_lists.proofs.Lent.{lent_part}
use Rattle.model.specs.Code.{kind, children}
use Rattle.theory_forms.specs.Numbers.{children_small}
use Rattle.theory_reading.specs.Spans.{span, span_within, child_at}
use Rattle.rule_factor.specs.Walks.{unit_place, among}
use Rattle.rule_regroup.specs.Regrouped.{less_unit}
use Rattle.rule_regroup.proofs.Append.{appended_one, appended_both, appended_as}
use Rattle.rule_regroup.proofs.KeptTrees.{less_unit_parts}
use Rattle.rule_regroup.proofs.copy_group.Goals as goal
use Rattle.rule_regroup.proofs.copy_group.Goals.{After-child_at-end, After-children_of-m, After-unit_place, After-unwrap-p, Start}

-- The number of children.
counted : (c : goal.After-children_of-m) →
    c.children_of-m.result ≡ children (get_or c.args.part.now 0 0)
counted c = c.children_of-m.ensures ∙ ap children c.from.ensures

-- The numbers before the literal, and after it.
abbrev before_it : goal.After-child_at-end → List ℕ
before_it c = take (1 + c.unwrap-p.result - 1) (drop 1 c.args.part.now)

abbrev after_it : goal.After-child_at-end → List ℕ
after_it c =
    let p = 1 + c.unwrap-p.result + 1 in
    take (c.child_at-end.result - p) (drop p c.args.part.now)

-- It is among the children, at the place that was found.
told : (c : goal.After-unit_place) → let a = c.args in
    is_ok c.unit_place.result ≡ among a.literal c.children_of-m.result (drop 1 a.part.now)
told c = rw (lent_part 1 c.args.part.now) at c.unit_place.ensures.found

found : (c : goal.After-unwrap-p) → let a = c.args in
    c.unwrap-p.result ≡ unit_place a.literal c.children_of-m.result (drop 1 a.part.now)
found c = rw (c.unwrap-p.ensures, lent_part 1 c.args.part.now) at c.unit_place.ensures.place

-- It stands within the part.
near : (c : goal.After-unwrap-p) → 1 + c.unwrap-p.result ≤ length c.args.part.now
near c =
    let l = c.args.part.now in
    omega (arith, c.requires.in_bounds, found c, (rw (lent_part 1 l) at c.unit_place.ensures.near), length-drop 1 l)

parts : (c : goal.After-child_at-end) → let a = c.args in
    less_unit a.literal a.part.now ≡ (get_or a.part.now 0 0 - 1) ∷ (before_it c ++ after_it c)
parts c =
    let a = c.args in
    less_unit_parts a.literal a.part.now (c.children_of-m.ensures ∙ ap children c.from.ensures)
    (rw (c.unwrap-p.ensures, lent_part 1 c.args.part.now) at c.unit_place.ensures.place) c.child_at-end.ensures.0

-- There is room for them, and the literal stands before the end.
room : (c : goal.After-child_at-end) → let a = c.args in a.at + (1 + (length (before_it c) + length (after_it c))) ≤ length a.out.now
room c = omega (arith, ap length (parts c), length-append (before_it c) (after_it c), c.requires.part_in_bounds)

inside : (c : goal.After-child_at-end) → 1 + c.unwrap-p.result < c.child_at-end.result
unfolding among
inside c =
    let l = c.args.part.now in
    let m = children (get_or l 0 0) in
    let u : c.unwrap-p.result ≡ unit_place c.args.literal m (drop 1 l) =
    rw (c.children_of-m.ensures ∙ ap children c.from.ensures) at (rw (c.unwrap-p.ensures, lent_part 1 c.args.part.now) at c.unit_place.ensures.place) in
    let e : c.child_at-end.result ≡ child_at m l = rw (c.children_of-m.ensures ∙ ap children c.from.ensures) at c.child_at-end.ensures.0 in
    omega (arith, ltb-true (unit_place c.args.literal m (drop 1 l)) (span m (drop 1 l)) c.requires.part_value_2)

pub child_at-end-requires : goal.child_at-end-requires
child_at-end-requires c = (
  c.requires.in_bounds.0,
  c.requires.in_bounds.1,
  omega (arith, counted (goal.at.child_at-end-requires c).After-children_of-m, children_small (get_or c.args.part.now 0 0)),
)

pub unwrap-p-requires : goal.unwrap-p-requires
unwrap-p-requires c =
    told (goal.at.unwrap-p-requires c).After-unit_place
    ∙ rw (counted (goal.at.unwrap-p-requires c).After-children_of-m) c.requires.part_value_2

pub overflow_add-p : goal.overflow_add-p
overflow_add-p c = omega (arith, c.requires.in_bounds, near (goal.at.overflow_add-p c).After-unwrap-p)

pub slice_bounds-copy-end : goal.slice_bounds-copy-end
slice_bounds-copy-end c = omega (arith, near (goal.at.slice_bounds-copy-end c).After-unwrap-p)

pub overflow_sub-out : goal.overflow_sub-out
unfolding kind
overflow_sub-out c = omega (arith, c.requires.part_value)

pub bounds-out-at : goal.bounds-out-at
bounds-out-at c = omega (arith, room (goal.at.bounds-out-at c).After-child_at-end)

pub copy-next-requires : goal.copy-next-requires
copy-next-requires c = simp length-set (omega (arith, room (goal.at.copy-next-requires c).After-child_at-end))

pub slice_bounds-copy-count-2 : goal.slice_bounds-copy-count-2
slice_bounds-copy-count-2 c = omega (arith, inside (goal.at.slice_bounds-copy-count-2 c).After-child_at-end)

pub slice_bounds-copy-start-2 : goal.slice_bounds-copy-start-2
slice_bounds-copy-start-2 c = omega (arith, inside (goal.at.slice_bounds-copy-start-2 c).After-child_at-end, c.child_at-end.ensures.1)

pub copy-requires : goal.copy-requires
copy-requires c =
    let a = c.args in
    omega (
      arith,
      room (goal.at.copy-requires c).After-child_at-end,
      c.copy-next.ensures.end,
      c.copy-next.auto.out,
      length-set a.out.now a.at (get_or a.part.now 0 0 - 1),
    )

pub returns : goal.returns
returns c =
    let a = c.args in
    appended_as (sym (parts (goal.at.returns c).After-child_at-end))
    (appended_both (appended_one _ a.at a.out.now (omega (arith, room (goal.at.returns c).After-child_at-end)))
    (appended_both c.copy-next.ensures c.copy.ensures))
