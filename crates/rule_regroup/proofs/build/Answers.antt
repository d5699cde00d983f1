-- `rule_regroup::build` meets its contract: the head, the literals, three numbers, and the groups.
use mathlib.Core.Bool.{true, false}
use mathlib.Core.List.{◌∷◌}
use mathlib.Core.Path.{◌≡◌, ◌∙◌}
use Prim.Native.Nat.{◌+◌, ◌-◌, ◌≤◌}
use native.Mathlib.Omega.{arith}
use lib.ListN.{length, get_or, drop, length-set, length-append, length-drop}
use Rattle.common_lists.proofs.Lent.{lent_part}
use Rattle.rule_regroup.specs.Regrouped.{gathered, factored}
use Rattle.rule_regroup.proofs.Append.{appended_one, appended_three, appended_both}
use Rattle.rule_regroup.proofs.build.Goals as goal
use Rattle.rule_regroup.proofs.build.Goals.{After-copy_trees-to, Start}

-- There is room for all of it, and the list that is written keeps its length.
room : (c : goal.Start) → let l = drop 1 c.args.part.now in
    4 + length (gathered false c.args.literal c.args.trees l) + length (gathered true c.args.literal c.args.trees l) ≤ length c.args.out.now
unfolding factored
room c =
    let a = c.args in
    let l = drop 1 a.part.now in
    omega (
      arith,
      c.requires.part_in_bounds,
      length-append (gathered false a.literal a.trees l) (12290 ∷ a.literal ∷ (16384 + a.groups) ∷ gathered true a.literal a.trees l),
    )

written : (c : goal.After-copy_trees-to) →
    length c.copy_trees-to.new.out ≡ length c.args.out.now
written c = c.copy_trees-to.auto.out ∙ simp length-set

-- The room that is left after the literals.
left : (c : goal.After-copy_trees-to) → let a = c.args in
    c.copy_trees-to.result + 3 + length (gathered true a.literal a.trees (drop 1 a.part.now)) ≤ length c.copy_trees-to.new.out
unfolding factored
left c =
    let a = c.args in
    let l = drop 1 a.part.now in
    let end = rw (lent_part 1 a.part.now) at c.copy_trees-to.ensures.end in
    let parts = length-append (gathered false a.literal a.trees l) (12290 ∷ a.literal ∷ (16384 + a.groups) ∷ gathered true a.literal a.trees l) in
    omega (arith, c.requires.part_in_bounds, written c)

pub bounds-out-0 : goal.bounds-out-0
bounds-out-0 c = omega (arith, room (goal.at.bounds-out-0 c).Start)

pub copy_trees-to-requires : goal.copy_trees-to-requires
copy_trees-to-requires c =
    let l = c.args.part.now in
    rw (lent_part 1 l) (record {
      part_len_bound = omega (arith, length-drop 1 l, c.requires.in_bounds);
      part_value = c.requires.part_value;
      part_in_bounds = simp length-set (omega (arith, room (goal.at.copy_trees-to-requires c).Start));
    })

pub offset_bounds-out-to : goal.offset_bounds-out-to
offset_bounds-out-to c =
    omega (arith, left (goal.at.offset_bounds-out-to c).After-copy_trees-to, written (goal.at.offset_bounds-out-to c).After-copy_trees-to)

pub bounds-out-to : goal.bounds-out-to
bounds-out-to c = omega (arith, left (goal.at.bounds-out-to c).After-copy_trees-to, written (goal.at.bounds-out-to c).After-copy_trees-to)

pub overflow_add-out-2 : goal.overflow_add-out-2
overflow_add-out-2 c =
    omega (arith, left (goal.at.overflow_add-out-2 c).After-copy_trees-to, written (goal.at.overflow_add-out-2 c).After-copy_trees-to)

pub offset_bounds-out-to-2 : goal.offset_bounds-out-to-2
offset_bounds-out-to-2 c =
    omega (arith, left (goal.at.offset_bounds-out-to-2 c).After-copy_trees-to, written (goal.at.offset_bounds-out-to-2 c).After-copy_trees-to)

pub bounds-out-to-2 : goal.bounds-out-to-2
bounds-out-to-2 c =
    simp length-set (omega (arith, left (goal.at.bounds-out-to-2 c).After-copy_trees-to, written (goal.at.bounds-out-to-2 c).After-copy_trees-to))

pub overflow_add-out-4 : goal.overflow_add-out-4
overflow_add-out-4 c =
    omega (arith, left (goal.at.overflow_add-out-4 c).After-copy_trees-to, written (goal.at.overflow_add-out-4 c).After-copy_trees-to)

pub offset_bounds-out-to-3 : goal.offset_bounds-out-to-3
offset_bounds-out-to-3 c =
    omega (arith, left (goal.at.offset_bounds-out-to-3 c).After-copy_trees-to, written (goal.at.offset_bounds-out-to-3 c).After-copy_trees-to)

pub bounds-out-to-3 : goal.bounds-out-to-3
bounds-out-to-3 c =
    simp length-set (omega (arith, left (goal.at.bounds-out-to-3 c).After-copy_trees-to, written (goal.at.bounds-out-to-3 c).After-copy_trees-to))

pub overflow_add-to : goal.overflow_add-to
overflow_add-to c = omega (arith, left (goal.at.overflow_add-to c).After-copy_trees-to, written (goal.at.overflow_add-to c).After-copy_trees-to)

pub copy_trees-requires : goal.copy_trees-requires
copy_trees-requires c =
    let l = c.args.part.now in
    rw (lent_part 1 l) (record {
      part_len_bound = omega (arith, length-drop 1 l, c.requires.in_bounds);
      part_value = c.requires.part_value;
      part_in_bounds = simp length-set (
          omega (arith, left (goal.at.copy_trees-requires c).After-copy_trees-to, written (goal.at.copy_trees-requires c).After-copy_trees-to)
          );
    })

pub returns : goal.returns
unfolding factored
returns c =
    let l = c.args.part.now in
    let first = appended_one (get_or l 0 0 + 1 - c.args.groups) 0 c.args.out.now (omega (arith, room (goal.at.returns c).Start)) in
    let units = rw (lent_part 1 l) at c.copy_trees-to.ensures in
    let three = appended_three 12290 c.args.literal (16384 + c.args.groups) c.copy_trees-to.result c.copy_trees-to.new.out
    (omega (arith, left (goal.at.returns c).After-copy_trees-to)) in
    appended_both first (appended_both units (appended_both three (rw (lent_part 1 l) at c.copy_trees.ensures)))
