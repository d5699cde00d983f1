-- Meaning: clauses, derived literals, contradiction.
use mathlib.Core.List.{List, [], ◌∷◌, ◌++◌, map, Memᴰ}
use Rattle.std.specs.Prelude.{◌≡◌, ℕ, zero, suc, ◌-◌}
use Rattle.model.specs.Literal.{Literal, complement}
use Rattle.model.specs.Forest.{Conn, and, or, root, at_least, Forest, nil, lit, node, size}

-- "A clause is a set, so duplicates merge." A list that is only ever asked for its members.
abbrev pub Clause : Type 0
Clause = List Literal

-- Every union of a clause of the first list with one of the second.
unfoldable pub unions : List Clause → List Clause → List Clause
unions [] ds = []
unions (c ∷ cs) ds = map (λ d. c ++ d) ds ++ unions cs ds

-- From how many of its m children a clause of a node takes a clause each: "of an all-of or root, those of all children", so
-- from one; "of an any-of, every union that takes one clause from each child", so from all; of kind 6, "every union of members'
-- clauses over members - k + 1 of them", so that no clause is left "if k is 0" and the empty one "if k exceeds the members".
unfoldable pub need : Conn → ℕ → ℕ
need and m = 1
need or m = m
need root m = 1
need (at_least k) m = suc m - k

-- The unions that take one clause from each of some r trees, for every choice of so many: of no tree; of a tree with these
-- clauses and of later ones. "So true has no clause and false has the empty one."
unfoldable pub no_tree : ℕ → List Clause
no_tree zero = [] ∷ []
no_tree (suc r) = []

unfoldable pub one_tree_more : List Clause → (ℕ → List Clause) → ℕ → List Clause
one_tree_more cs later zero = [] ∷ []
one_tree_more cs later (suc r) = unions cs (later r) ++ later (suc r)

-- "The clauses of a mark are one clause holding it."
unfoldable pub some_of : Forest → ℕ → List Clause
some_of nil = no_tree
some_of (lit l f) = one_tree_more ((l ∷ []) ∷ []) (some_of f)
some_of (node d k f) = one_tree_more (some_of k (need d (size k))) (some_of f)

-- The clauses of a node, by its connective and its children.
unfoldable pub clauses : Conn → Forest → List Clause
clauses c f = some_of f (need c (size f))

-- "Facts are the least set such that a mark of a clause is a fact when the opposite of every other mark in that clause is a
-- fact." Document 01's fact is a derived literal here.
pub data Derived (cs : List Clause) : Literal → Type 0 where
  derived :
      {l : Literal} (c : Clause) →
      Memᴰ c cs →
      Memᴰ l c →
      ((x : Literal) → Memᴰ x c → (x ≡ l → ⊥) → Derived cs (complement x)) →
      Derived cs l

-- "The sheet is contradictory when some clause has the opposite of every mark among the facts."
abbrev pub Contradictory : List Clause → Type 0
Contradictory cs =
    (c : Clause)
    × Memᴰ c cs
    × ((x : Literal) → Memᴰ x c → Derived cs (complement x))
