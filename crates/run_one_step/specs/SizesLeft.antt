-- What a step leaves of a table of sizes.
use Rattle.std.specs.Prelude.{List, ◌⊎◌, ◌≡◌, ℕ, ◌+◌, ◌-◌, ◌≤◌, ◌<◌, length, get_or, drop}
use Rattle.model.specs.Limits.{sheet_room, sheet_length}
use Rattle.theory_reading.specs.Spans.{span}
use Rattle.locality.specs.Locality.{Level}
use Rattle.search_sizes.specs.SizeTables.{SizesFrom}
use Rattle.run_bounds_after.specs.declared.Zone.{Zone}
use Rattle.run_bounds_after.specs.Resized.{Falls, Resized}

-- Rules 9 and 10 leave all sizes right, rules 11, 12 and 17 those outside the zone; every rule those past all nodes, old and new. After
-- any rule but 14 the sizes of the trees that hold the place can fall; once they have, and those behind the zone have moved, all are
-- right outside the zone. (`to` is where the zone begins or the place after the step's own, whichever is less.)
pub record SizesLeft (rule place most : ℕ) (z : Zone) (s t : List ℕ) : Type 0 where
  pub whole : length s ≡ sheet_length
  pub long : length t ≡ sheet_room
  pub order : z.from ≤ z.new
  pub new_old : z.new ≤ z.old
  pub old_within : z.old ≤ sheet_room
  pub place_within : place < sheet_room
  pub same : 9 ≤ rule → rule ≤ 10 → SizesFrom 0 (drop 2 s) t
  pub outside : Level rule → (q : ℕ) → q < length (drop 2 s) → (q < z.from) ⊎ (z.new ≤ q) →
      get_or t q 0 ≡ span 1 (drop q (drop 2 s))
  pub falls : (rule ≡ 14 → ⊥) → (to : ℕ) → to ≤ z.from → to ≤ place + 1 → Falls to place (z.old - z.new) t
  pub moved : (rule ≡ 14 → ⊥) → (to : ℕ) (v : List ℕ) → (to ≤ z.from) × (to ≤ place + 1) × ((to ≡ z.from) ⊎ (to ≡ place + 1)) →
      Resized to place z.new z.old t v →
      (q : ℕ) → q < length (drop 2 s) → (q < z.from) ⊎ (z.new ≤ q) → get_or v q 0 ≡ span 1 (drop q (drop 2 s))
  pub few : most ≤ sheet_room
  pub past : SizesFrom most (drop 2 s) t
