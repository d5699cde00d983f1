-- `rule_regroup::write_tree` meets its contract: the literal and the number of groups are found, and the tree is built of them.
use Rattle.std.specs.Prelude as P
use Rattle.std.specs.Option.{IsSome}
use mathlib.Core.List.{List}
use mathlib.Core.Path.{◌≡◌, refl, sym, ap, ◌∙◌}
use Prim.Native.Nat.{ℕ}
use native.Mathlib.Omega.{arith}
use lib.ListN.{get_or, drop, length-drop}
use Rattle.common_lists.specs.Given.{given}
use Rattle.common_lists.proofs.Lent.{lent_part, lent_at}
use Rattle.model.specs.Base.{only_if}
use Rattle.model.specs.Code.{children}
use Rattle.theory_reading.specs.Spans.{child_at}
use Rattle.theory_rewriting.specs.Children.{Child, applied_child}
use Rattle.rule_factor.specs.Walks.{unit_at, unit_of, all_share, groups_in, sharing}
use Rattle.rule_factor.proofs.Here.{tells, unit_as_none, unit_as_some}
use Rattle.rule_factor.proofs.Walk.{sharing_some}
use Rattle.rule_factor.proofs.Asking.{Applied, conjunction_room}
use Rattle.rule_regroup.specs.Regrouped.{tree_after}
use Rattle.rule_regroup.proofs.Turning.{rule_found, unit_there, all_shared, groups_few, tree_room, step_room}
use Rattle.rule_regroup.proofs.write_tree.Goals as goal
use Rattle.rule_regroup.proofs.write_tree.Goals.{After-children_of-k, After-sharing_groups, After-unit_of, After-unwrap-groups, After-unwrap-literal, Start}

-- What the rule asks of the children holds, and child i is there.
applies : (c : goal.Start) → Applied c.args.i c.args.j c.requires.headed.children
applies c = rule_found c.requires.stretch c.requires.headed c.args.i c.args.j c.requires.part_value

child : (c : goal.Start) → let l = c.args.part.now in Child l c.requires.headed.children c.args.i (child_at c.args.i l)
child c = applied_child c.requires.stretch c.requires.headed c.args.j (omega arith) c.requires.part_value

-- The number of children, the literal, and the number of groups.
counted : (c : goal.After-children_of-k) →
    c.children_of-k.result ≡ children (get_or c.args.part.now 0 0)
counted c = c.children_of-k.ensures ∙ ap children c.from.ensures

met : (c : goal.After-unit_of) → let a = c.args in
    given c.unit_of.result ≡ unit_at a.j (drop (child_at a.i a.part.now) a.part.now)
met c =
    let l = c.args.part.now in
    rw (lent_at c.child_at-at.result l c.child_at-at.ensures.0) at c.unit_of.ensures

found : (c : goal.After-unwrap-literal) → let a = c.args in
    c.unwrap-literal.result ≡ unit_of a.j (drop (child_at a.i a.part.now) a.part.now)
found c =
    let l = c.args.part.now in
    sym (unit_as_some _ _
    (sym (ap given c.unwrap-literal.ensures) ∙ rw (lent_at c.child_at-at.result l c.child_at-at.ensures.0) at c.unit_of.ensures))

told : (c : goal.After-sharing_groups) → let l = drop 1 c.args.part.now in let a = c.unwrap-literal.result in let n = c.children_of-k.result in
    given c.sharing_groups.result ≡ only_if (all_share a n l) (groups_in n l)
told c = rw (lent_part 1 c.args.part.now) at c.sharing_groups.ensures

grouped : (c : goal.After-unwrap-groups) → let a = c.args in
    c.unwrap-groups.result ≡ sharing c.unwrap-literal.result c.children_of-k.result (drop 1 a.part.now)
grouped c =
    sym (sharing_some _ _ _ (sym (ap given c.unwrap-groups.ensures) ∙ rw (lent_part 1 c.args.part.now) at c.sharing_groups.ensures))

-- The literal is there, where the rule applies.
some_unit : (o : P.Option ℕ) (j : ℕ) (l : List ℕ) → given o ≡ unit_at j l → (unit_of j l ≡ 0 → ⊥) → IsSome o
some_unit P.None j l e h = absurd (h (unit_as_none j l e))
some_unit (P.Some x) j l e h = refl

pub bounds-part-0 : goal.bounds-part-0
bounds-part-0 c = let k = child (goal.at.bounds-part-0 c).Start in omega arith

pub child_at-at-requires : goal.child_at-at-requires
child_at-at-requires c = let k = child (goal.at.child_at-at-requires c).Start in omega arith

pub unit_of-requires : goal.unit_of-requires
unit_of-requires c =
    let l = c.args.part.now in
    let room = conjunction_room c.requires.stretch c.requires.headed c.args.i c.args.j
    (applies (goal.at.unit_of-requires c).Start).conjunction in
    let child_there = c.child_at-at in
    rw (lent_at child_there.result l child_there.ensures.0) (record {
      in_bounds = (room.0, omega (arith, length-drop (child_at c.args.i l) l, c.requires.stretch.short));
      part_in_bounds = room.1;
    })

pub unwrap-literal-requires : goal.unwrap-literal-requires
unwrap-literal-requires c =
    some_unit c.unit_of.result _ _ (met (goal.at.unwrap-literal-requires c).After-unit_of)
    (unit_there c.requires.stretch c.requires.headed (applies (goal.at.unwrap-literal-requires c).Start))

pub unwrap-groups-requires : goal.unwrap-groups-requires
unwrap-groups-requires c =
    let l = c.args.part.now in
    tells c.sharing_groups.result _ _ (told (goal.at.unwrap-groups-requires c).After-sharing_groups)
    ∙ rw (found (goal.at.unwrap-groups-requires c).After-unwrap-literal, counted (goal.at.unwrap-groups-requires c).After-children_of-k)
    (all_shared c.requires.stretch c.requires.headed (applies (goal.at.unwrap-groups-requires c).Start))

pub sharing_groups-requires : goal.sharing_groups-requires
sharing_groups-requires c =
    let l = c.args.part.now in
    let k = child (goal.at.sharing_groups-requires c).Start in
    rw (lent_part 1 l) (omega (arith, length-drop 1 l), omega (arith, counted (goal.at.sharing_groups-requires c).After-children_of-k))

pub build-requires : goal.build-requires
unfolding tree_after
build-requires c =
    let p = applies (goal.at.build-requires c).Start in
    let k = child (goal.at.build-requires c).Start in
    let h = c.requires.headed in
    let tree = tree_room c.requires.stretch h p in
    let whole = step_room c.requires.stretch h p in
    rw (
      grouped (goal.at.build-requires c).After-unwrap-groups,
      found (goal.at.build-requires c).After-unwrap-literal,
      counted (goal.at.build-requires c).After-children_of-k,
    )
    (record {
      in_bounds = (omega arith, omega arith);
      groups_lt_kind_factor = groups_few c.requires.stretch h p;
      part_value = all_shared c.requires.stretch h p;
      part_in_bounds = omega (arith, c.requires.part_in_bounds);
    })

pub returns : goal.returns
unfolding tree_after
returns c =
    rw (
      grouped (goal.at.returns c).After-unwrap-groups,
      found (goal.at.returns c).After-unwrap-literal,
      counted (goal.at.returns c).After-children_of-k,
    ) at c.build.ensures
