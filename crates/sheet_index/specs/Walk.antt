-- What `sheet_index` names in its contracts beside the definitions of `calls`.
use Rattle.std.specs.Prelude.{Bool, ◌&&◌, List, ℕ, ◌+◌, eqb, get_or, drop}
use Rattle.model.specs.Sheet.{options_in, nodes_in}
use Rattle.theory_index.specs.Entries.{entries_from}

-- The index of a sheet's nodes from a place on.
abbrev pub fresh_from : List ℕ → ℕ → List ℕ
fresh_from s p = entries_from p 0 (options_in s) (drop p (nodes_in s))

-- The number at a place is the same as each of the three after it.
unfoldable pub four_alike : List ℕ → ℕ → Bool
four_alike s i =
    eqb (get_or s i 0) (get_or s (i + 1) 0)
    && (eqb (get_or s i 0) (get_or s (i + 2) 0) && eqb (get_or s i 0) (get_or s (i + 3) 0))

-- The same of the seven after it.
unfoldable pub eight_alike : List ℕ → ℕ → Bool
eight_alike s i = four_alike s i && (four_alike s (i + 4) && eqb (get_or s i 0) (get_or s (i + 4) 0))
