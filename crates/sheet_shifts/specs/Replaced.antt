-- What a number becomes when two numbers are given new values.
use Rattle.std.specs.Prelude.{ℕ, eqb}
use Rattle.model.specs.Base.{pick}

-- The first number becomes the third, the second the fourth, and any other stays.
unfoldable pub replaced : ℕ → ℕ → ℕ → ℕ → ℕ → ℕ
replaced a b x y n = pick (eqb n a) x (pick (eqb n b) y n)
