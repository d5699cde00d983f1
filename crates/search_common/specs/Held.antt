-- A table that says, for each literal, how many conjunctions from the first on hold it.
use Rattle.std.specs.Prelude.{Bool, true, false, List, ◌≡◌, ℕ, ◌*◌, ◌-◌, ◌≤◌, ◌<◌, get_or, drop}
use Rattle.model.specs.Limits.{kind_factor}
use Rattle.model.specs.Code.{children}
use Rattle.theory_forms.specs.Scan.{is_literal}
use Rattle.rule_factor.specs.Walks.{shares_here, sharing}

-- Literals are the numbers of two kinds, 1 and 2; the entry of a literal's number.
abbrev pub literal_numbers : ℕ
literal_numbers = 2 * kind_factor

abbrev pub entry : ℕ → List ℕ → ℕ
entry x held = get_or held (x - kind_factor) 0

-- A number is noted: no entry falls, and a literal's rises above so many conjunctions where it had reached them.
pub record Noted (x groups : ℕ) (old new : List ℕ) : Type 0 where
  pub higher : (y : ℕ) → entry y old ≤ entry y new
  pub risen : is_literal x ≡ true → groups ≤ entry x old → groups < entry x new

-- Past the first tree of a list: where it shares a literal whose entry had reached the conjunctions before, the entry has reached
-- those with it.
abbrev pub Carried : ℕ → ℕ → List ℕ → List ℕ → List ℕ → Type 0
Carried before with l old new =
    (x : ℕ) → is_literal x ≡ true → shares_here x l ≡ true → before ≤ entry x old → with ≤ entry x new

-- A literal that all children of the first tree share, two conjunctions among them, has reached all conjunctions.
abbrev pub Filter : ℕ → List ℕ → List ℕ → Type 0
Filter groups l held =
    (x : ℕ) → is_literal x ≡ true → 2 ≤ sharing x (children (get_or l 0 0)) (drop 1 l) → (2 ≤ groups) × (groups ≤ entry x held)

-- A number that is refused is no literal's, or its entry has not reached all conjunctions.
abbrev pub Barred : Bool → ℕ → ℕ → List ℕ → Type 0
Barred passed x groups held = passed ≡ false → is_literal x ≡ true → entry x held < groups
