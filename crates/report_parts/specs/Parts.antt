-- The parts of a sheet and the places of its literals, as tables hold them.
use Rattle.std.specs.Prelude.{true, List, ◌⊎◌, ◌≡◌, ℕ, ◌+◌, ◌-◌, ◌≤◌, ◌<◌, length, get_or, take, drop}
use Rattle.model.specs.Limits.{sheet_length, most_literals}
use Rattle.model.specs.Sheet.{used_in, numbers_in}
use Rattle.theory_forms.specs.Scan.{is_literal}
use Rattle.theory_reading.specs.Leaves.{place_at}
use Rattle.theory_meaning.specs.NumberTrees.{tree_fails, SpellsTree}

-- The numbers from one place to another.
abbrev pub stretch : ℕ → ℕ → List ℕ → List ℕ
stretch i e s = take (e - i) (drop i s)

-- The numbers from one place to another belong to what begins at the first, and all others are as before.
pub record Claimed (from to : ℕ) (old new : List ℕ) : Type 0 where
  pub long : length new ≡ length old
  pub inside : (n : ℕ) → from ≤ n → n < to → get_or new n 0 ≡ from
  pub outside : (n : ℕ) → (n < from) ⊎ (to ≤ n) → get_or new n 0 ≡ get_or old n 0

-- A part: a tree such that the sheet fails where it fails.
pub record Part (s : List ℕ) (i e : ℕ) : Type 0 where
  pub begins : 2 ≤ i
  pub goes_on : i < e
  pub ends : e ≤ 2 + used_in s
  pub tree : SpellsTree (stretch i e s)
  pub counts : (t : List ℕ) → tree_fails t (stretch i e s) ≡ true → tree_fails t (numbers_in s) ≡ true

-- A part of the table fails.
abbrev pub PartFails : List ℕ → List ℕ → List ℕ → Type 0
PartFails s ends t = (i : ℕ) × (get_or ends i 0 ≡ 0 → ⊥) × (tree_fails t (stretch i (get_or ends i 0) s) ≡ true)

-- The tables of the parts: the end of each part where it begins and 0 elsewhere, and the beginning of its part for each number.
-- Where the sheet fails, one of them does.
pub record Parted (s ends homes : List ℕ) : Type 0 where
  pub near : (n : ℕ) → get_or homes n 0 < sheet_length
  pub part : (i : ℕ) → (get_or ends i 0 ≡ 0 → ⊥) → Part s i (get_or ends i 0)
  pub home : (i n : ℕ) → (get_or ends i 0 ≡ 0 → ⊥) → i ≤ n → n < get_or ends i 0 → get_or homes n 0 ≡ i
  pub whole : (t : List ℕ) → tree_fails t (numbers_in s) ≡ true → PartFails s ends t

-- The literal at a place of a table of 1,024 stands at a place of the sheet.
pub record Occurs (s : List ℕ) (q m : ℕ) : Type 0 where
  pub from : 2 ≤ m
  pub below : m < 2 + used_in s
  pub literal : is_literal (get_or s m 0) ≡ true
  pub same : place_at (get_or s m 0) ≡ q

-- The last place before n where it stands; 0 where there is none.
pub record Latest (s : List ℕ) (q n m : ℕ) : Type 0 where
  pub there : (m ≡ 0) ⊎ ((m < n) × Occurs s q m)
  pub last : (k : ℕ) → k < n → Occurs s q k → k ≤ m

-- A table of links has an entry for each place, and behind them one for each literal.
abbrev pub links_length : ℕ
links_length = sheet_length + most_literals

-- The links of a literal lead from its own entry to its last place, and from each of its places to the one before.
abbrev pub OnChain : List ℕ → ℕ → ℕ → Type 0
OnChain s q n = (n ≡ sheet_length + q) ⊎ Occurs s q n

-- Each link leads to an earlier entry, which is that of a place.
pub record Descends (links : List ℕ) : Type 0 where
  pub place : (n : ℕ) → get_or links n 0 < sheet_length
  pub down : (n : ℕ) → get_or links n 0 ≤ n - 1

pub record Linked (s links : List ℕ) : Type 0 where
  pub descends : Descends links
  pub before : (q n : ℕ) → q < most_literals → OnChain s q n → Latest s q n (get_or links n 0)
