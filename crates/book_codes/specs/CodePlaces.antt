-- The codes from a place on.
use Rattle.std.specs.Prelude.{List, ℕ, ◌-◌, ◌*◌, length, take, drop}
use Rattle.model.specs.Limits.{code_length}
use Rattle.model.specs.Book.{pieces}

-- The bytes from code i on, as they are lent; that code; those of n codes that come after it; it and those after it.
abbrev pub lent_from : List ℕ → ℕ → List ℕ
lent_from s i = take (length s - code_length * i) (drop (code_length * i) s)

abbrev pub code_at : List ℕ → ℕ → List ℕ
code_at s i = take code_length (lent_from s i)

abbrev pub codes_after : ℕ → List ℕ → ℕ → List (List ℕ)
codes_after n s i = pieces code_length (n - i - 1) (drop code_length (lent_from s i))

abbrev pub codes_from : ℕ → List ℕ → ℕ → List (List ℕ)
codes_from n s i = pieces code_length (n - i) (lent_from s i)
