-- The table of the characters, read at a byte.
use mathlib.Core.Bool.{false}
use mathlib.Core.Path.{◌≡◌, refl, ap, ◌∙◌}
use Prim.Native.Nat.{ℕ, zero, suc, ◌+◌, ◌<◌}
use native.Mathlib.Nat.{zero-add}
use native.Mathlib.Omega.{arith}
use lib.ListN.{length, get_or, get_or-map, length-map}
use Rattle.model.specs.Propagation.{count_from}
use Rattle.model.specs.Book.{between, character}
use Rattle.book_codes.specs.Characters.{character_table}

counted : (v n i : ℕ) → i < n → get_or (count_from v n) i 0 ≡ v + i
unfolding count_from
counted v zero i h = absurd (omega arith)
counted v (suc n) zero h = omega arith
counted v (suc n) (suc i) h = omega (arith, counted (suc v) n i (omega arith))

count_long : (v n : ℕ) → length (count_from v n) ≡ n
unfolding count_from
count_long v zero = refl
count_long v (suc n) = ap suc (count_long (suc v) n)

pub looked_up : (x : ℕ) → x < 256 → get_or character_table x false ≡ character x
unfolding character_table character between
looked_up x h = get_or-map character (count_from 0 256) x 0 ∙ ap character (counted 0 256 x h ∙ zero-add x)

pub table_length : length character_table ≡ 256
unfolding character_table
table_length = length-map (count_from 0 256) character ∙ count_long 0 256
