-- Literals whose option occurs again in the first tree of a list of numbers, and how often options occur.
use Rattle.std.specs.Prelude.{Bool, List, [], ◌∷◌, ◌≡◌, ℕ, zero, suc, ◌≤◌, ◌<◌, length, get_or}
use Rattle.std.proofs.Math.Option.{Option}
use Rattle.std.proofs.Math.Seq.{slice}
use Rattle.model.specs.Base.{pick}
use Rattle.model.specs.Limits.{kind_factor, sheet_room}
use Rattle.model.specs.Code.{children}
use Rattle.theory_reading.specs.Spans.{child_at}
use Rattle.rule_spread.specs.Assigning.{names, spreads_from}
use Rattle.search_sizes.specs.FirstApplying.{FirstOf}

-- The first tree of a list of at most 4,096 numbers ends at a place: its children begin before it.
pub record EndsAt (end : ℕ) (l : List ℕ) : Type 0 where
  pub some_head : 1 ≤ end
  pub within : end ≤ length l
  pub short : length l ≤ sheet_room
  pub children : (i : ℕ) → i < children (get_or l 0 0) → child_at i l < end

-- The first child that is a literal whose option occurs again before the end.
abbrev pub FirstAgain : ℕ → Option ℕ → List ℕ → Type 0
FirstAgain end o l = FirstOf (λ k. spreads_from (child_at k l) end l) (children (get_or l 0 0)) o

-- One more, where nothing past two is told apart.
unfoldable pub up : ℕ → ℕ
up zero = 1
up (suc n) = 2

-- How many numbers pass a test: none, one, or two for all more.
unfoldable pub tally : (ℕ → Bool) → List ℕ → ℕ
tally p [] = zero
tally p (x ∷ xs) = pick (p x) (up (tally p xs)) (tally p xs)

-- A table of how many literals of each option stand from one place up to another.
pub record Tallied (from to : ℕ) (l t : List ℕ) : Type 0 where
  pub long : length t ≡ kind_factor
  pub counted : (v : ℕ) → v < kind_factor → get_or t v 0 ≡ tally (names v) (slice from to l)

-- The same between the head and an end, where the table is not empty.
abbrev pub TalliedIfAny : ℕ → List ℕ → List ℕ → Type 0
TalliedIfAny end l t = 0 < length t → Tallied 1 end l t
