-- Options marked by bits, and the nodes that may be members beside those that named them.
use Rattle.std.specs.Prelude.{Bool, not, List, ◌≡◌, ℕ, ◌/◌, ◌%◌, ◌^◌, eqb, length, get_or}
use Rattle.model.specs.Limits.{most_options}
use Rattle.model.specs.Literal.{option}
use Rattle.model.specs.Code.{Node, leaf, head}
use Rattle.theory_forms.specs.Seats.{bare}

-- The bit of a word, counted from the lowest; the bit of an option in words of 64 bits.
unfoldable pub bit : ℕ → ℕ → Bool
bit k x = eqb (x / 2 ^ k % 2) 1

unfoldable pub marked : List ℕ → ℕ → Bool
marked ms v = bit (v % 64) (get_or ms (v / 64) 0)

-- As many words as the options need, in which just these options are marked.
abbrev pub mark_words : ℕ
mark_words = most_options / 64

pub record Marks (named : ℕ → Bool) (ms : List ℕ) : Type 0 where
  pub long : length ms ≡ mark_words
  pub bits : (v : ℕ) → marked ms v ≡ named v

-- A member is the head of a constant, or a literal of an option that is not named yet.
unfoldable pub admitted : (ℕ → Bool) → Node → Bool
admitted named (leaf l) = not (named (option l))
admitted named (head c m) = bare c m
