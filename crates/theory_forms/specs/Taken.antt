-- The clauses taken from so many of some trees: from none of them the empty clause alone, from more than there are none.
use Rattle.std.specs.Prelude.{List, [], ◌∷◌, ◌≡◌, refl, ℕ, zero, suc, ◌<◌}
use Rattle.std.proofs.Common.{arith}
use Rattle.model.specs.Forest.{Forest, nil, lit, node, size}
use Rattle.model.specs.Clauses.{Clause, unions, need, no_tree, one_tree_more, some_of}

pub from_none : (f : Forest) → some_of f 0 ≡ [] ∷ []
unfolding some_of no_tree one_tree_more
from_none nil = refl
from_none (lit l f) = refl
from_none (node c k f) = refl

unions_empty : (cs : List Clause) → unions cs [] ≡ []
unfolding unions
unions_empty [] = refl
unions_empty (c ∷ cs) = unions_empty cs

more_empty : (cs : List Clause) (later : ℕ → List Clause) (r : ℕ) → later r ≡ [] → later (suc r) ≡ [] → one_tree_more cs later (suc r) ≡ []
unfolding one_tree_more
more_empty cs later r p q = rw (p, q, unions_empty cs)

pub from_too_many : (f : Forest) (r : ℕ) → size f < r → some_of f r ≡ []
unfolding some_of no_tree size
from_too_many f zero h = absurd (omega arith)
from_too_many nil (suc r) h = refl
from_too_many (lit l f) (suc r) h =
    more_empty ((l ∷ []) ∷ []) (some_of f) r (from_too_many f r (omega arith)) (from_too_many f (suc r) (omega arith))
from_too_many (node c k f) (suc r) h =
    more_empty
    (some_of k (need c (size k)))
    (some_of f)
    r
    (from_too_many f r (omega arith))
    (from_too_many f (suc r) (omega arith))
