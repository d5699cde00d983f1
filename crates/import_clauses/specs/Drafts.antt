-- The contents and bodies of a book while its clauses are written from the left: the marks of a clause as they come, and where it closes
-- its any-of before them and its pair of contents.
use Rattle.std.specs.Prelude.{List, [], ◌∷◌, map, ℕ, suc, ◌+◌, ◌-◌, ◌*◌, length}
use Rattle.std.proofs.lemmas.List.Edits.{sets}
use Rattle.model.specs.Forest.{or}
use Rattle.model.specs.Code.{Node, leaf, head, number_of}
use Rattle.model.specs.Clauses.{Clause}
use Rattle.model.specs.Book.{bytes_of}

-- Nodes of the bodies, from one of them on; the bodies begin at a byte of the book.
unfoldable pub with_nodes : ℕ → ℕ → List Node → List ℕ → List ℕ
with_nodes bodies first ns l = sets l (bodies + 2 * first) (bytes_of (map number_of ns))

-- The rule k, whose body begins at a node and ends before another, is closed: its marks stand already.
unfoldable pub closed : ℕ → ℕ → ℕ → ℕ → ℕ → List ℕ → List ℕ
closed contents bodies k first end l =
    sets (with_nodes bodies first (head or (end - suc first) ∷ []) l) (contents + 4 * k) (bytes_of (first ∷ (end - first) ∷ []))

-- What is written of the clauses that are left, where k stand already, the next one begins at a node, and its marks go on at another.
unfoldable pub drafted : ℕ → ℕ → ℕ → ℕ → ℕ → List Clause → List ℕ → List ℕ
drafted contents bodies k first next [] l = l
drafted contents bodies k first next (c ∷ cs) l =
    drafted contents bodies (suc k) (next + length c) (suc (next + length c)) cs
    (closed contents bodies k first (next + length c) (with_nodes bodies next (map leaf c) l))
