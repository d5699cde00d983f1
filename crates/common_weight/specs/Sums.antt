-- How far a sum of weights may go before its limit is tested.
use Rattle.std.specs.Prelude.{ℕ}

-- "On any input it never passes 8,192 before the limit is tested" (document 02, U3): of 4,096 nodes each may be a literal.
abbrev pub most_sum : ℕ
most_sum = 8192
