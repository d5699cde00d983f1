-- What rules 15 to 17 read off the number of a node of kind 6, and the number that takes its place.
use Rattle.std.specs.Prelude.{Bool, ◌&&◌, ◌||◌, ℕ, ◌+◌, ◌-◌, ◌%◌, eqb, ltb}
use Rattle.model.specs.Base.{pick}
use Rattle.model.specs.Code.{children}
use Rattle.model.specs.Limits.{least_factor}

-- False or true, by its number.
unfoldable pub is_constant : ℕ → Bool
is_constant x = eqb x 16384 || eqb x 12288

-- One member fewer, and where that was true one asked for fewer, not below 0.
unfoldable pub without_member : ℕ → ℕ → ℕ
without_member x y = pick (eqb y 12288 && ltb 0 (x % least_factor)) (x - least_factor - 1) (x - least_factor)

-- None asked for, or more than there are members, for rule 16; one, or all of them, for 17.
unfoldable pub is_ended : ℕ → ℕ → Bool
is_ended x rule =
    pick (eqb rule 16)
    (eqb (x % least_factor) 0 || ltb (children x) (x % least_factor))
    (eqb (x % least_factor) 1 || eqb (x % least_factor) (children x))

unfoldable pub ended_head : ℕ → ℕ → ℕ
ended_head x rule =
    pick (eqb rule 16)
    (pick (eqb (x % least_factor) 0) 12288 16384)
    (pick (eqb (x % least_factor) 1) (16384 + children x) (12288 + children x))
