-- Numbers as decimal digits, written and read.
use Rattle.std.specs.Prelude.{Bool, false, ◌&&◌, ◌||◌, not, List, [], ◌∷◌, ◌++◌, ℕ, zero, suc, ◌+◌, ◌-◌, ◌*◌, ◌/◌, ◌%◌, eqb, ltb, length}
use Rattle.model.specs.Base.{pick, all}
use Rattle.model.specs.Book.{between}

-- A number in decimal digits.
unfoldable pub digits : ℕ → ℕ → List ℕ
digits zero n = []
digits (suc most) n = pick (ltb n 10) ((48 + n) ∷ []) (digits most (n / 10) ++ ((48 + n % 10) ∷ []))

unfoldable pub decimal : ℕ → List ℕ
decimal n = digits (suc n) n

-- The digits 0 to 9 are the bytes 48 to 57.
unfoldable pub is_digit : ℕ → Bool
is_digit x = between 48 57 x

-- Document 02, U7: "All numbers are decimal without leading zeros". So 0 begins the number "0" alone.
unfoldable pub is_decimal : List ℕ → Bool
is_decimal [] = false
is_decimal (x ∷ xs) = all is_digit (x ∷ xs) && (not (eqb x 48) || eqb (length xs) 0)

-- The number that digits spell, of any length; the first argument is what the digits before them spell.
unfoldable pub number_from : ℕ → List ℕ → ℕ
number_from n [] = n
number_from n (x ∷ xs) = number_from (10 * n + (x - 48)) xs

unfoldable pub number_in : List ℕ → ℕ
number_in ds = number_from 0 ds
