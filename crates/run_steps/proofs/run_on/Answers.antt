-- `run_steps::run_on` meets its contract: the run with tables made for it.
use mathlib.Core.Path.{◌≡◌, subst}
use native.Mathlib.Omega.{arith}
use lib.ListN.{length, length-drop}
use Rattle.common_lists.proofs.Lent.{lent_part}
use Rattle.model.specs.Limits.{sheet_length}
use Rattle.search_sizes.specs.SizeTables.{SizesFrom}
use Rattle.run_steps.proofs.StartAndEnd.{come_to_start}
use Rattle.run_steps.proofs.run_on.Goals as goal
use Rattle.run_steps.proofs.run_on.Goals.{Start}

whole : (c : goal.Start) → length c.args.sheet.now ≡ sheet_length
whole c = c.requires.whole

pub slice_bounds-fill-count : goal.slice_bounds-fill-count
slice_bounds-fill-count c = omega (arith, whole (goal.at.slice_bounds-fill-count c).Start)

pub slice_bounds-fill-start : goal.slice_bounds-fill-start
slice_bounds-fill-start c = omega (arith, whole (goal.at.slice_bounds-fill-start c).Start)

pub fill-requires : goal.fill-requires
fill-requires c =
    let s = c.args.sheet.now in
    rw (lent_part 2 s)
    (omega (arith, length-drop 2 s, whole (goal.at.fill-requires c).Start), omega (arith, length-drop 2 s, whole (goal.at.fill-requires c).Start))

pub run_by-requires : goal.run_by-requires
run_by-requires c =
    let s = c.args.sheet.now in
    let each = subst (λ l. SizesFrom 0 l c.fill.new.sizes) (lent_part 2 s) c.fill.ensures in
    come_to_start (record { sheet = c.requires; long = c.fill.auto.sizes; each = each })
