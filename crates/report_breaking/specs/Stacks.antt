-- The stack of a pass over a tree from the right: an entry for each tree read, the leftmost tree's first, and the literals that
-- break each, those of the leftmost tree last.
use Rattle.std.specs.Prelude.{Bool, true, false, ◌&&◌, ◌||◌, List, [], ◌∷◌, ◌⊎◌, ◌≡◌, ℕ, suc, ◌+◌, ◌-◌, ◌/◌, ◌%◌, ◌≤◌, ◌<◌, eqb}
use Rattle.std.specs.Prelude.{length, get_or, set, take, drop}
use Rattle.model.specs.Base.{pick}
use Rattle.model.specs.Limits.{sheet_room, most_literals}
use Rattle.model.specs.Forest.{or}
use Rattle.model.specs.Code.{kind}
use Rattle.theory_meaning.specs.Evaluation.{fails_all, count}
use Rattle.report_breaking.specs.Breaking.{opposite}

-- Whether a number is one of a list.
unfoldable pub among : ℕ → List ℕ → Bool
among q [] = false
among q (x ∷ xs) = eqb q x || among q xs

-- All numbers of a list are places of a table.
abbrev pub InTable : List ℕ → Type 0
InTable ls = (x : ℕ) → among x ls ≡ true → x < most_literals

-- What an entry says: half of it is where the tree's literals begin, and it is odd where the tree fails as it is.
unfoldable pub begin : ℕ → ℕ
begin f = f / 2

unfoldable pub failing : ℕ → Bool
failing f = eqb (f % 2) 1

-- Whether each tree of a stack fails as it is or has a literal among its own.
unfoldable pub broken : ℕ → List ℕ → List ℕ → List Bool
broken q ls [] = []
broken q ls (f ∷ fs) = (failing f || among q (drop (begin f) ls)) ∷ broken q (take (begin f) ls) fs

-- The entries of a stack cut n literals into those of its trees; a tree that fails as it is has none.
abbrev pub Stacked : ℕ → List ℕ → Type 0
Stacked n [] = Unit {0}
Stacked n (f ∷ fs) = (begin f ≤ n) × (failing f ≡ true → begin f ≡ n) × Stacked (begin f) fs

-- Where the literals of the last of some trees begin, of n.
unfoldable pub bottom : ℕ → List ℕ → ℕ
bottom n [] = n
bottom n (f ∷ fs) = bottom (begin f) fs

-- How many trees do not fail as they are.
unfoldable pub standing : List ℕ → ℕ
standing [] = 0
standing (f ∷ fs) = pick (failing f) (standing fs) (suc (standing fs))

-- The table in which the literal at a place fails too, unless its complement does.
unfoldable pub tried : List ℕ → ℕ → List ℕ
tried t q = pick (eqb (get_or t (opposite q) 0) 1) t (set t q 1)

-- The count of a place, after a list that raises the counts that are at a number.
unfoldable pub raised : ℕ → List ℕ → List ℕ → ℕ → ℕ
raised n ls held x = pick (among x ls && eqb (get_or held x 0) n) (n + 1) (get_or held x 0)

-- Every count is zero.
abbrev pub Blank : List ℕ → Type 0
Blank held = (length held ≡ most_literals) × ((x : ℕ) → get_or held x 0 ≡ 0)

-- No count but those of a list's numbers differs from zero.
abbrev pub BlankBut : List ℕ → List ℕ → Type 0
BlankBut ls held = (x : ℕ) → (get_or held x 0 ≡ 0) ⊎ (among x ls ≡ true)

-- The entries of the trees last read, whose literals stand from a base to an end.
pub record Children (places fs : List ℕ) (base end : ℕ) : Type 0 where
  pub few : length fs ≤ sheet_room
  pub room : end ≤ length places
  pub inside : InTable (take end places)
  pub stacked : Stacked end fs
  pub first : base ≡ bottom end fs

-- Under kind 6 no literal is in two trees: it makes at most one of them more fail than fail as they are.
abbrev pub Apart : ℕ → List ℕ → List ℕ → Type 0
Apart x ls fs = eqb (kind x) 6 ≡ true → (q : ℕ) → count (broken q ls fs) ≤ suc (length fs - standing fs)

-- Counts that are at a number exactly for the literals that all of some trees have which do not fail as they are.
pub record Counted (ls fs held : List ℕ) (n : ℕ) : Type 0 where
  pub count : n ≡ standing fs
  pub common : (x : ℕ) → eqb (get_or held x 0) n ≡ fails_all or (broken x ls fs)
  pub blank : BlankBut (drop (bottom (length ls) fs) ls) held

-- What literals become where a tree is made of some trees, the last ones read: the literals before theirs stay, and the entry and
-- the others say of each literal whether the tree fails as it is or with it.
pub record Made (v : ℕ → Bool) (ls fs new : List ℕ) (f : ℕ) : Type 0 where
  pub first : begin f ≡ bottom (length ls) fs
  pub long : begin f ≤ length new
  pub same : take (begin f) new ≡ take (begin f) ls
  pub inside : InTable new
  pub each : (q : ℕ) → (failing f || among q (drop (begin f) new)) ≡ v q
  pub none : failing f ≡ true → begin f ≡ length new

-- The stack from a place on, and the literals before another.
pub record Stack (places stack : List ℕ) (top end : ℕ) : Type 0 where
  pub room : end ≤ length places
  pub low : top ≤ length stack
  pub stacked : Stacked end (drop top stack)
  pub whole : bottom end (drop top stack) ≡ 0
  pub inside : InTable (take end places)
