-- `search_sizes::some_reaching` meets its contract. Invariant: where none was met, none of the places before the present one reaches so far.
use mathlib.Core.Bool.{false}
use mathlib.Core.Path.{◌≡◌}
use Prim.Native.Nat.{◌+◌}
use Rattle.search_sizes.specs.SizeTables.{NonePast}
use Rattle.search_sizes.proofs.some_reaching.Given as goal

abbrev pub invariant-loop-k : goal.invariant-loop-k
invariant-loop-k l = l.some ≡ false → NonePast l.place l.from (l.from + l.k) l.sizes
