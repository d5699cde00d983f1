-- A table of bounds: for each place a number below which no rule applies there.
use Rattle.std.specs.Prelude.{List, ◌≡◌, ℕ, ◌+◌, ◌≤◌, ◌<◌, length, get_or, drop}
use Rattle.std.proofs.Math.Option.{Option, none, some}
use Rattle.model.specs.Code.{Node, decode}
use Rattle.model.specs.Limits.{sheet_room, no_rule}
use Rattle.model.specs.Sheet.{used_in, nodes_in}
use Rattle.model.specs.Strategy.{least_i}
use Rattle.search_sizes.specs.SizeTables.{Measured}

-- The bounds are right. (A bound of 0 or 1 always is.)
abbrev pub Bounds : List Node → List ℕ → Type 0
Bounds ns t = (q r : ℕ) → q < length ns → 1 ≤ r → r < get_or t q 0 → none ≡ least_i r q (decode (drop q ns))

-- Those from one place up to another are so high at least.
abbrev pub High : ℕ → ℕ → ℕ → List ℕ → Type 0
High r from to t = (q : ℕ) → from ≤ q → q < to → r ≤ get_or t q 0

-- The first place from one on, and before another, whose bound is not so high, where there is one.
abbrev pub FirstWaiting : ℕ → ℕ → ℕ → List ℕ → Option ℕ → Type 0
FirstWaiting r from to t (some place) = (from ≤ place) × (place < to) × High r from place t
FirstWaiting r from to t none = High r from to t

-- Bounds only rise.
abbrev pub Rises : List ℕ → List ℕ → Type 0
Rises t u = (q : ℕ) → get_or t q 0 ≤ get_or u q 0

-- A sheet with its two tables: the sizes of its trees, and bounds that are right.
pub record Tabled (s sizes low : List ℕ) : Type 0 where
  pub measured : Measured s sizes
  pub long : length low ≡ sheet_room
  pub right : Bounds (nodes_in s) low

-- So they are after some bounds have risen.
pub record Raised (s sizes old new : List ℕ) : Type 0 where
  pub tables : Tabled s sizes new
  pub rises : Rises old new

-- The search has come to a rule, or past all, and to a place: all bounds have come to the rule, those before the place are past it.
pub record ComeTo (rule place : ℕ) (s sizes low : List ℕ) : Type 0 where
  pub tables : Tabled s sizes low
  pub some_rule : 1 ≤ rule
  pub past_all : rule ≤ no_rule
  pub high : High rule 0 (used_in s) low
  pub within : place ≤ used_in s
  pub past : High (rule + 1) 0 place low
