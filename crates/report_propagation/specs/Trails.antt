-- A table of failed literals with the trail of what was added to it, and parts that force nothing more.
use Rattle.std.specs.Prelude.{Bool, true, false, not, ◌&&◌, List, [], ◌∷◌, ◌⊎◌, ◌≡◌, ℕ, zero, suc, ◌+◌, ◌-◌, ◌≤◌, ◌<◌, eqb, ltb, leb}
use Rattle.std.specs.Prelude.{length, get_or, set}
use Rattle.model.specs.Base.{pick}
use Rattle.model.specs.Limits.{sheet_length, most_literals}
use Rattle.model.specs.Forest.{root}
use Rattle.model.specs.Clauses.{clauses}
use Rattle.model.specs.Code.{decode}
use Rattle.model.specs.Sheet.{nodes_in, numbers_in}
use Rattle.theory_meaning.specs.FailedLiterals.{Right}
use Rattle.theory_meaning.specs.NumberTrees.{tree_fails}
use Rattle.report_breaking.specs.Breaking.{opposite}
use Rattle.report_parts.specs.Parts.{stretch, Part, Parted, Occurs, OnChain, Linked}
use Rattle.report_propagation.specs.declared.Forced.{Forced}
use Rattle.report_propagation.specs.declared.Forced.TheVariants.{Only, Nothing, Fails, Untold}
use Rattle.report_propagation.specs.declared.Extent.{Extent}
use Rattle.report_propagation.specs.declared.Turn.{Turn}

-- The places that hold no 1.
unfoldable pub unset : List ℕ → ℕ
unset [] = zero
unset (x ∷ t) = pick (eqb x 1) (unset t) (suc (unset t))

-- A literal is no fact yet.
unfoldable pub fresh : List ℕ → ℕ → Bool
fresh t k = not (eqb (get_or t (opposite k) 0) 1)

-- A table and its trail hold facts of a sheet, and the trail has room for whatever can still fail.
pub record Facts (s t trail : List ℕ) (n : ℕ) : Type 0 where
  pub long : length t ≡ most_literals
  pub wide : length trail ≡ most_literals
  pub room : n + unset t ≡ most_literals
  pub placed : (h : ℕ) → h < n → get_or trail h 0 < most_literals
  pub right : Right (clauses root (decode (nodes_in s))) t

-- A table has grown by what its trail has grown by.
pub record Grown (t trail : List ℕ) (n : ℕ) (t' trail' : List ℕ) (n' : ℕ) : Type 0 where
  pub more : n ≤ n'
  pub keeps : (p : ℕ) → get_or t p 0 ≡ 1 → get_or t' p 0 ≡ 1
  pub new : (p : ℕ) → get_or t' p 0 ≡ 1 → (get_or t p 0 ≡ 1) ⊎ ((h : ℕ) × (n ≤ h) × (h < n') × (get_or trail' h 0 ≡ p))
  pub old : (h : ℕ) → h < n → get_or trail' h 0 ≡ get_or trail h 0

-- No literal that the trail has from c on stands between two places of the sheet.
abbrev pub Untouched : List ℕ → ℕ → ℕ → ℕ → List ℕ → ℕ → Type 0
Untouched s i e c trail n = (h m : ℕ) → c ≤ h → h < n → i ≤ m → m < e → Occurs s (get_or trail h 0) m → ⊥

-- The part between them does not fail, and what it forces, of the literals that stand in it, is known.
pub record Exhausted (s : List ℕ) (i e : ℕ) (t : List ℕ) : Type 0 where
  pub stands : tree_fails t (stretch i e s) ≡ false
  pub known : (q m : ℕ) → q < most_literals → i ≤ m → m < e → Occurs s q m →
      tree_fails (set t q 1) (stretch i e s) ≡ true → get_or t (opposite q) 0 ≡ 1

-- It is exhausted, unless the trail touched it since it had c literals.
abbrev pub ExhaustedAt : List ℕ → ℕ → ℕ → ℕ → List ℕ → List ℕ → ℕ → Type 0
ExhaustedAt s i e c t trail n = Untouched s i e c trail n → Exhausted s i e t

-- The sheet fails under a table of facts, so that it is contradictory.
pub record HasFallen (s t : List ℕ) : Type 0 where
  pub falls : tree_fails t (numbers_in s) ≡ true
  pub right : Right (clauses root (decode (nodes_in s))) t

-- A part fails under no literal more.
abbrev pub Unforced : List ℕ → ℕ → ℕ → List ℕ → Type 0
Unforced s i e t = (q : ℕ) → tree_fails (set t q 1) (stretch i e s) ≡ false

-- It fails under the literal at one place more, and at no other.
pub record Forces (s : List ℕ) (i e : ℕ) (t : List ℕ) (p : ℕ) : Type 0 where
  pub near : p < most_literals
  pub one : tree_fails (set t p 1) (stretch i e s) ≡ true
  pub only : (q : ℕ) → tree_fails (set t q 1) (stretch i e s) ≡ true → q ≡ p

-- What the literals of a part tell: what it forces, or that it fails as it is.
abbrev pub Lone : List ℕ → ℕ → ℕ → List ℕ → Forced → Type 0
Lone s i e t (Only p) = Forces s i e t p
Lone s i e t Nothing = Unforced s i e t
Lone s i e t Fails = tree_fails t (stretch i e s) ≡ true
Lone s i e t Untold = Unit

-- A part was looked at.
pub record Looked (s : List ℕ) (i e : ℕ) (t trail : List ℕ) (n : ℕ) (t' trail' : List ℕ) (n' : ℕ) : Type 0 where
  pub facts : Facts s t' trail' n'
  pub grown : Grown t trail n t' trail' n'
  pub exhausted : ExhaustedAt s i e n t' trail' n'

-- The entries of a table that are not 0 are the ends of parts.
abbrev pub PartEnds : List ℕ → List ℕ → Type 0
PartEnds s ends = (i : ℕ) → (get_or ends i 0 ≡ 0 → ⊥) → Part s i (get_or ends i 0)

-- Every part that begins before a place is exhausted since the trail was as long as is noted for it.
pub record Watching (s ends : List ℕ) (to : ℕ) (seen t trail : List ℕ) (n : ℕ) : Type 0 where
  pub facts : Facts s t trail n
  pub long : length seen ≡ sheet_length
  pub most : (i : ℕ) → get_or seen i 0 ≤ n
  pub exhausted : (i : ℕ) → i < to → (get_or ends i 0 ≡ 0 → ⊥) → ExhaustedAt s i (get_or ends i 0) (get_or seen i 0) t trail n

-- Whether a turn has a part looked at: there is one, it is below the turn's limit, and when it was last looked at the trail did not
-- have the turn's literal.
unfoldable pub due : Extent → ℕ → Turn → Bool
due part seen turn =
    ltb part.from part.to && (ltb (part.to - part.from) turn.limit && leb seen turn.index)

-- Between two places of a literal's chain, the parts smaller than the turn's limit that hold it were looked at since the trail had
-- the literal.
pub record Passed (s ends seen : List ℕ) (q : ℕ) (turn : Turn) (m : ℕ) : Type 0 where
  pub there : (m ≡ 0) ⊎ Occurs s q m
  pub looked : (i k : ℕ) → m < k → k < turn.place → i ≤ k → k < get_or ends i 0 → get_or ends i 0 < i + turn.limit → Occurs s q k →
      turn.index < get_or seen i 0

-- The chain that a turn is at is passed from the turn's place to another.
abbrev pub PassedTo : List ℕ → List ℕ → List ℕ → List ℕ → Turn → ℕ → Type 0
PassedTo ends homes links seen turn m =
    (s : List ℕ) (q : ℕ) → Parted s ends homes → Linked s links → q < most_literals → OnChain s q turn.place →
    Passed s ends seen q turn m

-- The next place of it whose part is to be looked at.
pub record NextDue (ends homes links seen : List ℕ) (turn : Turn) (m : ℕ) : Type 0 where
  pub some : 0 < m
  pub near : m < sheet_length
  pub down : m ≤ turn.place - 1
  pub begins : get_or homes m 0 < get_or ends (get_or homes m 0) 0
  pub passed : PassedTo ends homes links seen turn m
