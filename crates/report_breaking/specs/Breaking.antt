-- The literals that break a tree: it does not fail, and fails once one of them does.
use Rattle.std.specs.Prelude.{true, false, List, ◌≡◌, ℕ, ◌+◌, ◌-◌, ◌%◌, ◌≤◌, ◌<◌, eqb, get_or, set}
use Rattle.model.specs.Limits.{sheet_room, most_literals}
use Rattle.model.specs.Base.{pick}
use Rattle.theory_meaning.specs.NumberTrees.{tree_fails}

-- The place of the complement of the literal at a place.
unfoldable pub opposite : ℕ → ℕ
opposite k = pick (eqb (k % 2) 0) (k + 1) (k - 1)

-- The first n entries of a list are places of literals that break the tree under a table of failed literals; among them is each
-- whose complement does not fail.
pub record IsBrokenBy (t tree places : List ℕ) (n : ℕ) : Type 0 where
  pub few : n ≤ sheet_room
  pub stands : tree_fails t tree ≡ false
  pub each : (k : ℕ) → k < n → (get_or places k 0 < most_literals) × (tree_fails (set t (get_or places k 0) 1) tree ≡ true)
  pub all : (q : ℕ) → q < most_literals → (get_or t (opposite q) 0 ≡ 1 → ⊥) → tree_fails (set t q 1) tree ≡ true →
      (k : ℕ) × (k < n) × (get_or places k 0 ≡ q)
