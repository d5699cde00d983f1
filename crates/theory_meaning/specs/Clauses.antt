-- Clauses: those of each connective by its children, of trees side by side, of the root and of its units; and a clause, but for one
-- literal, inside a set.
use Rattle.std.specs.Prelude.{Bool, true, false, ◌&&◌, ◌||◌, ◌↔◌, ◌≡◌, refl, suc}
use Rattle.std.proofs.Math.Bool.{or-true, or-false}
use mathlib.Core.List.Memᴰ
use mathlib.Core.List.{List, [], ◌∷◌, ◌++◌, append-nil, append_assoc, Memᴰ}
use Rattle.std.proofs.Common.{⊎_elim, sym, ap, ap₂, ◌∙◌, arith}
use Rattle.model.specs.Base.{pick, all}
use Rattle.model.specs.Literal.{Literal, same}
use Rattle.model.specs.Forest.{Conn, and, or, root, Forest, nil, lit, node, ◌⊕◌, size, has_unit}
use Rattle.model.specs.Clauses.{Clause, unions, need, no_tree, one_tree_more, some_of, clauses, Derived, derived}
use Rattle.model.specs.Propagation.{others}
use Rattle.theory_forms.specs.Logic.{true_false, either, or_split, or_left, or_right}
use Rattle.theory_forms.specs.Lists.{all_at, all_from}
use Rattle.theory_forms.specs.Literals.{same_is, same_sym, not_same}
use Rattle.theory_forms.specs.Taken.{from_none, from_too_many}
use Rattle.theory_meaning.specs.Evaluation.{Set, with_one}

-- "Of an all-of or root, those of all children": from one child a clause is taken, and nothing joined to it.
unions_none : (cs : List Clause) → unions cs ([] ∷ []) ≡ cs
unfolding unions
unions_none [] = refl
unions_none (c ∷ cs) = ap₂ ◌∷◌ (append-nil c) (unions_none cs)

root_more : (cs : List Clause) (f : Forest) → one_tree_more cs (some_of f) 1 ≡ cs ++ clauses root f
unfolding one_tree_more clauses need
root_more cs f = ap (λ ds. ds ++ some_of f 1) (ap (unions cs) (from_none f) ∙ unions_none cs)

pub root_nil : clauses root nil ≡ []
unfolding clauses need some_of no_tree
root_nil = refl

pub root_lit : (l : Literal) (f : Forest) → clauses root (lit l f) ≡ (l ∷ []) ∷ clauses root f
unfolding clauses need some_of
root_lit l f = root_more ((l ∷ []) ∷ []) f

pub root_node : (c : Conn) (k f : Forest) → clauses root (node c k f) ≡ clauses c k ++ clauses root f
unfolding clauses need some_of
root_node c k f = root_more (some_of k (need c (size k))) f

pub and_clauses : (f : Forest) → clauses and f ≡ clauses root f
unfolding clauses need
and_clauses f = refl

-- "Of an any-of, every union that takes one clause from each child": from more trees than there are none is taken.
or_more : (cs : List Clause) (f : Forest) → one_tree_more cs (some_of f) (suc (size f)) ≡ unions cs (clauses or f)
unfolding one_tree_more clauses need
or_more cs f =
    ap (λ ds. unions cs (some_of f (size f)) ++ ds) (from_too_many f (suc (size f)) (omega arith)) ∙ append-nil (unions cs (some_of f (size f)))

pub or_nil : clauses or nil ≡ [] ∷ []
unfolding clauses need some_of no_tree size
or_nil = refl

pub or_lit : (l : Literal) (f : Forest) → clauses or (lit l f) ≡ unions ((l ∷ []) ∷ []) (clauses or f)
unfolding clauses need some_of size
or_lit l f = or_more ((l ∷ []) ∷ []) f

pub or_node : (c : Conn) (k f : Forest) → clauses or (node c k f) ≡ unions (clauses c k) (clauses or f)
unfolding clauses need some_of size
or_node c k f = or_more (some_of k (need c (size k))) f

-- The clauses of trees side by side under the root are those of the first and those of the second.
pub clauses-⊕ : (f g : Forest) → clauses root (f ⊕ g) ≡ clauses root f ++ clauses root g
unfolding ◌⊕◌
clauses-⊕ nil g = rw root_nil
clauses-⊕ (lit l f) g = rw (root_lit l (f ⊕ g), root_lit l f, clauses-⊕ f g)
clauses-⊕ (node c k f) g = rw (root_node c k (f ⊕ g), root_node c k f, clauses-⊕ f g) (sym (append_assoc (clauses c k) (clauses root f) (clauses root g)))

-- A literal alone has its clause alone, and a root alone has the clauses of its children.
pub clauses_lit : (l : Literal) → clauses root (lit l nil) ≡ (l ∷ []) ∷ []
clauses_lit l = root_lit l nil ∙ ap (λ cs. (l ∷ []) ∷ cs) root_nil

pub clauses_root : (f : Forest) → clauses root (node root f nil) ≡ clauses root f
clauses_root f = root_node root f nil ∙ ap (λ cs. clauses root f ++ cs) root_nil ∙ append-nil (clauses root f)

-- A unit is a clause by itself, so it is derived.
unit_clause : (l : Literal) (k : Forest) → has_unit l k ≡ true → Memᴰ (l ∷ []) (clauses root k)
unfolding has_unit
unit_clause l nil e = true_false (sym e)
unit_clause l (lit x f) e =
    rw (root_lit x f) (⊎_elim (λ p. Memᴰ.head (ap (λ y. y ∷ []) (same_is l x p))) (λ p. Memᴰ.tail (unit_clause l f p)) (or_split (same l x) _ e))
unit_clause l (node c k f) e = rw (root_node c k f) (Memᴰ.append_right (clauses c k) (unit_clause l f e))

pub unit_derived : (l : Literal) (k : Forest) → has_unit l k ≡ true → Derived (clauses root k) l
unit_derived l k e = derived (l ∷ []) (unit_clause l k e) (Memᴰ.head refl) (λ x m d. absurd (d (Memᴰ.eq_of_singleton m)))

-- The other literals of a clause lie inside a set exactly where the whole clause lies inside the set with that one more.
pub all_others : (s : Set) (l : Literal) (c : Clause) → all s (others l c) ≡ all (with_one s l) c
unfolding all others pick with_one
all_others s l [] = refl
all_others s l (x ∷ c) = rw (same_sym x l) (go (same l x) (all_others s l c))
  where
    go :
        (b : Bool) →
        all s (others l c) ≡ all (with_one s l) c →
        all s (pick b (others l c) (x ∷ others l c)) ≡ ((s x || b) && all (with_one s l) c)
    go true e = rw or-true e
    go false e = rw (or-false, e)

-- All but one literal of a clause lie inside a set.
pub all_but_one :
    (s : Set) (l : Literal) (c : Clause) →
    (all (with_one s l) c ≡ true) ↔ ((x : Literal) → Memᴰ x c → (x ≡ l → ⊥) → s x ≡ true)
unfolding with_one
all_but_one s l c = (
  λ e x m n. ⊎_elim (λ h. h) (λ h. absurd (n (same_is x l h))) (or_split (s x) (same x l) (all_at (with_one s l) c e m)),
  λ h. all_from (with_one s l) c (λ x m. ⊎_elim (or_right (s x)) (λ e. or_left (same x l) (h x m (not_same e))) (either (same x l))),
)
