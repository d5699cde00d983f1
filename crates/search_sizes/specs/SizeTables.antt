-- A table of the sizes of the trees on a run of numbers.
use Rattle.std.specs.Prelude.{List, ◌≡◌, ℕ, ◌+◌, ◌≤◌, ◌<◌, length, get_or, drop}
use Rattle.model.specs.Limits.{sheet_room}
use Rattle.theory_forms.specs.Sheets.{Formed}
use Rattle.theory_reading.specs.Spans.{span}

-- From a place on, each entry is the number of nodes of the tree that stands at its place.
abbrev pub SizesFrom : ℕ → List ℕ → List ℕ → Type 0
SizesFrom from l t = (q : ℕ) → from ≤ q → q < length l → get_or t q 0 ≡ span 1 (drop q l)

-- No tree that begins from one place on, and before another, reaches past a place.
abbrev pub NonePast : ℕ → ℕ → ℕ → List ℕ → Type 0
NonePast place from to t = (q : ℕ) → from ≤ q → q < to → place < q + get_or t q 0 → ⊥

-- All sizes, in a table as long as the run.
pub record SizesOf (l t : List ℕ) : Type 0 where
  pub long : length t ≡ length l
  pub each : SizesFrom 0 l t

-- A sheet, with the sizes of its trees beside it.
pub record Measured (s t : List ℕ) : Type 0 where
  pub sheet : Formed s
  pub long : length t ≡ sheet_room
  pub each : SizesFrom 0 (drop 2 s) t
