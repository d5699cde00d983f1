-- What a word is, by the numbers that the definitions give it: 1 closes a clause, 2 is a mark, 0 is neither.
use Rattle.std.specs.Prelude.{◌≡◌, ℕ, ◌≤◌, Option, Some, None}
use Rattle.import_words.specs.declared.Kind.{Kind}
use Rattle.import_words.specs.declared.Kind.TheVariants.{Closing, Mark}
use Rattle.import_words.specs.declared.Word.{Word}

abbrev pub number_of : Kind → ℕ
number_of Closing = 1
number_of Mark = 2

abbrev pub kind_number : Option Kind → ℕ
kind_number None = 0
kind_number (Some k) = number_of k

-- A word of this kind, 0 where it is neither, that ends there, within a text so long.
abbrev pub IsWord : Word → ℕ → ℕ → ℕ → Type 0
IsWord w kind end most = (kind_number w.kind ≡ kind) × (w.end ≡ end) × (w.end ≤ most)
