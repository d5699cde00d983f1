-- A right index: its first numbers, two an option, are the fresh count of the sheet.
use Rattle.std.specs.Prelude.{Bool, true, false, not, List, ◌≡◌, refl, ℕ, ◌≤◌, length, take, drop}
use Rattle.std.proofs.Common.{ap, arith, le-ltb, length-append, take-append-drop}
use Rattle.std.proofs.Math.Seq.{take-length}
use Rattle.model.specs.Base.{placed, same_list}
use Rattle.calls.specs.Index.{fresh_count}
use Rattle.calls.specs.Conditions.{index_length, has_short_index, has_stale_index}
use Rattle.theory_forms.specs.Logic.{true_false}
use Rattle.theory_forms.specs.Placed.{placed_start, placed_length, same_list_is}
use Rattle.theory_index.specs.Entries.{fresh_length}

-- An index is right for a sheet where its first numbers, two an option, are the fresh count.
abbrev pub Right : List ℕ → List ℕ → Type 0
Right s index = take (index_length s) index ≡ fresh_count s

pub right_long : (s index : List ℕ) → Right s index → index_length s ≤ length index
right_long s index h =
    let all = ap length (take-append-drop (index_length s) index) in
    omega (arith, length-append (take (index_length s) index) (drop (index_length s) index), ap length h, fresh_length s)

-- It is right exactly if it is neither stale nor short.
pub right_tests : (s index : List ℕ) → Right s index → (has_stale_index s index ≡ false) × (has_short_index s index ≡ false)
right_tests s index h =
    let long = le-ltb (length index) (index_length s) (right_long s index h) in
    let same = (same_list_is (take (index_length s) index) (fresh_count s)).1 h in
    (rw (long, same), long)

pub tests_right : (s index : List ℕ) → has_stale_index s index ≡ false → has_short_index s index ≡ false → Right s index
tests_right s index stale short = (same_list_is (take (index_length s) index) (fresh_count s)).0 (go (same_list _ _) (rw short at stale))
  where
    go : (b : Bool) → not b ≡ false → b ≡ true
    go true e = refl
    go false e = true_false e

-- The fresh count itself is right, and so is an index once the fresh count is put at its start: a long enough one keeps its length, and
-- a right one stays as it is.
pub fresh_right : (s : List ℕ) → Right s (fresh_count s)
fresh_right s = rw (← fresh_length s) (take-length (fresh_count s))

pub placed_right : (s index : List ℕ) → Right s (placed (fresh_count s) index)
placed_right s index = placed_start (fresh_count s) index (fresh_length s)

pub placed_long : (s index : List ℕ) → index_length s ≤ length index → length (placed (fresh_count s) index) ≡ length index
placed_long s index h = placed_length (fresh_count s) index (fresh_length s) h

pub placed_same : (s index : List ℕ) → Right s index → placed (fresh_count s) index ≡ index
unfolding placed
placed_same s index h = rw (fresh_length s, ← h) (take-append-drop (index_length s) index)
