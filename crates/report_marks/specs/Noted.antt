-- A table of the options that are named: 1 at the place of each.
use Rattle.std.specs.Prelude.{Bool, List, ℕ, eqb, get_or}

unfoldable pub is_noted : List ℕ → ℕ → Bool
is_noted t v = eqb (get_or t v 0) 1
