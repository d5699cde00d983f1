-- Document 02, U6: accessories not yet in any rule. "Orders hang as incomplete because of codes that engineering reserved and no rule
-- mentions."
use Rattle.std.specs.Prelude.{Bool, not, ◌&&◌, ◌||◌, List, map, ℕ, eqb, get_or}
use Rattle.model.specs.Base.{all, any}
use Rattle.model.specs.Literal.{option}
use Rattle.model.specs.Code.{node_of}
use Rattle.model.specs.Propagation.{Report, count_from}
use Rattle.model.specs.Book.{bodies_of}
use Rattle.calls.specs.Index.{names}
use Rattle.calls.specs.Lines.{Line}

-- An option "that some rule of the loaded book or some choice names": a body of the lent book has a mark of it, or a counted line is one.
-- "The mention is judged on the book and the choices, since a step can remove the last mark of an option."
unfoldable pub is_named : List ℕ → List Line → ℕ → Bool
is_named book lines v =
    any (λ body. any (names v) (map node_of body)) (bodies_of book) || any (λ l. eqb v (option l)) lines

-- It "is marked 1 or 2".
unfoldable pub is_decided : Report → ℕ → Bool
is_decided r v = eqb (get_or r.marks v 0) 1 || eqb (get_or r.marks v 0) 2

-- "A sheet is complete from now on if it is not contradictory and every option that some rule of the loaded book or some choice names is
-- marked 1 or 2." By the sheet's report on so many options, for those that are named.
unfoldable pub complete_among : (ℕ → Bool) → ℕ → Report → Bool
complete_among named n r = not r.contradictory && all (λ v. not (named v) || is_decided r v) (count_from 0 n)
