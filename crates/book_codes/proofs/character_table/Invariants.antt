-- `book_codes::character_table` meets its contract. Invariant: the bytes below x are listed; before the hyphen and after the last letter there
-- is no character.
use mathlib.Core.Bool.{Bool, false, ◌&&◌}
use mathlib.Core.List.{List}
use mathlib.Core.Path.{◌≡◌}
use Prim.Native.Nat.{ℕ, ◌<◌}
use lib.Dec.{ltb}
use lib.ListN.{length, get_or}
use Rattle.model.specs.Book.{character}
use Rattle.book_codes.proofs.character_table.Given as goal

-- Of the bytes below x the table says whether they are characters, and of the others that they are none.
abbrev pub Listed : List Bool → ℕ → Type 0
Listed table x = (v : ℕ) → v < 256 → get_or table v false ≡ (ltb v x && character v)

abbrev pub invariant-loop-x : goal.invariant-loop-x
invariant-loop-x l = (length l.table ≡ 256) × Listed l.table l.x
