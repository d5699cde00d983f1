-- How far a search has come.
use Rattle.std.specs.Prelude.{ℕ}
use Rattle.std.specs.Prelude as P
use Rattle.search_place.specs.declared.Redex as R

-- The rule that was found, or the number past those that were tried.
abbrev pub floor_of : ℕ → P.Option R.Redex → ℕ
floor_of past (P.Some x) = x.rule
floor_of past P.None = past

-- The place that was found; where there is none, the first.
abbrev pub place_of : P.Option R.Redex → ℕ
place_of (P.Some x) = x.place
place_of P.None = 0
