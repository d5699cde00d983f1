-- A table of sizes after a step that takes nodes away.
use Rattle.std.specs.Prelude.{List, ◌≡◌, ℕ, ◌+◌, ◌-◌, ◌≤◌, ◌<◌, ltb, get_or}
use Rattle.model.specs.Base.{pick}
use Rattle.model.specs.Limits.{sheet_room}

-- The size n of the tree at q after a step at a place that takes nodes away: less by so many where the tree reaches past the place.
abbrev pub fallen_size : ℕ → ℕ → ℕ → ℕ → ℕ
fallen_size place by q n = pick (ltb place (q + n)) (n - by) n

-- The trees that begin before `to` lie within a sheet, and those that reach past the place have so many nodes to lose.
pub record Falls (to place by : ℕ) (t : List ℕ) : Type 0 where
  pub short : (q : ℕ) → q < to → q + get_or t q 0 ≤ sheet_room
  pub enough : (q : ℕ) → q < to → place < q + get_or t q 0 → by ≤ get_or t q 0

-- The sizes before `to` have fallen so; from `to` on nothing has changed.
pub record Shrunk (to place by : ℕ) (t u : List ℕ) : Type 0 where
  pub before : (q : ℕ) → q < to → get_or u q 0 ≡ fallen_size place by q (get_or t q 0)
  pub after : (q : ℕ) → to ≤ q → get_or u q 0 ≡ get_or t q 0

-- Besides, the entries from `old` on stand from `new` on, and ones follow: the sizes of the zeros after the nodes.
pub record Resized (to place new old : ℕ) (t u : List ℕ) : Type 0 where
  pub before : (q : ℕ) → q < to → get_or u q 0 ≡ fallen_size place (old - new) q (get_or t q 0)
  pub between : (q : ℕ) → to ≤ q → q < new → get_or u q 0 ≡ get_or t q 0
  pub after : (q : ℕ) → new ≤ q → q + (old - new) < sheet_room → get_or u q 0 ≡ get_or t (q + (old - new)) 0
  pub end : (q : ℕ) → new ≤ q → sheet_room ≤ q + (old - new) → q < sheet_room → get_or u q 0 ≡ 1
