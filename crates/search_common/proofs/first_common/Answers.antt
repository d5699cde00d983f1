-- `search_common::first_common` meets its contract: both ways find the first.
use Prim.Native.Nat.{◌+◌, ◌≤◌, ◌<◌}
use native.Mathlib.Omega.{arith}
use lib.ListN.{length}
use Rattle.model.specs.Limits.{sheet_room}
use Rattle.theory_rewriting.specs.Children.{counted_child}
use Rattle.search_common.proofs.first_common.Goals as goal
use Rattle.search_common.proofs.first_common.Goals.{Start}

-- The table of sizes has an entry for child i.
child : (c : goal.Start) → (1 + c.args.i < length c.args.sizes.now) × (length c.args.sizes.now ≤ sheet_room)
child c =
    let w = counted_child c.requires.stretch c.requires.headed c.requires.i_bound in
    (omega (arith, w.1, c.requires.sizes_of.long), omega (arith, w.2, c.requires.sizes_of.long))

pub bounds-sizes-0 : goal.bounds-sizes-0
bounds-sizes-0 c = omega (arith, child (goal.at.bounds-sizes-0 c).Start)

pub overflow_add-i : goal.overflow_add-i
overflow_add-i c = omega (arith, child (goal.at.overflow_add-i c).Start)

pub offset_bounds-sizes-i : goal.offset_bounds-sizes-i
offset_bounds-sizes-i c = omega (arith, child (goal.at.offset_bounds-sizes-i c).Start)

pub bounds-sizes-i : goal.bounds-sizes-i
bounds-sizes-i c = (child (goal.at.bounds-sizes-i c).Start).0
