-- `search_sizes::refill` meets its contract. Invariant: from the present place on the table is right, and before the first place it is as it was.
use mathlib.Core.Path.{◌≡◌}
use Prim.Native.Nat.{ℕ, ◌<◌}
use lib.ListN.{length, get_or}
use Rattle.search_sizes.specs.SizeTables.{SizesFrom}
use Rattle.search_sizes.proofs.refill.Given as goal

abbrev pub invariant-loop-place : goal.invariant-loop-place
invariant-loop-place l =
    (length l.sizes ≡ length l.s)
    × SizesFrom l.place l.s l.sizes
    × ((q : ℕ) → q < l.from → get_or l.sizes q 0 ≡ get_or l.initial.sizes q 0)
