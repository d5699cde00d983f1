-- Laws of the numbers of a list.
use mathlib.Core.Bool.{true, ◌||◌, or_assoc, or-false}
use mathlib.Core.List.{List, [], ◌∷◌, ◌++◌}
use mathlib.Core.Logic.{⊎_elim}
use mathlib.Core.Path.{◌≡◌, refl, sym, ap, ◌∙◌}
use Prim.Native.Nat.{ℕ, zero, suc, ◌-◌, ◌≤◌, ◌<◌}
use native.Mathlib.Omega.{arith}
use borrow.Author.Tests.{eqb-true, eq-eqb, ne_eqb}
use lib.Dec.{eqb}
use lib.ListN.{length, get_or, take, drop, take-append-drop}
use lib.Seq.{length-take-le, drop-append-le}
use Rattle.theory_forms.specs.Logic.{true_false, or_split, or_left, or_right}
use Rattle.report_breaking.specs.Stacks.{among}
use Rattle.theory_forms.specs.Lists.{drop_take}

pub among_append : (q : ℕ) (xs ys : List ℕ) → among q (xs ++ ys) ≡ (among q xs || among q ys)
unfolding among
among_append q [] ys = refl
among_append q (x ∷ xs) ys = rw (among_append q xs ys) (sym (or_assoc (eqb q x) (among q xs) (among q ys)))

-- A list with one number more at its start, and at its end.
pub among_same : (q x : ℕ) (xs : List ℕ) → q ≡ x → among q (x ∷ xs) ≡ true
unfolding among
among_same q x xs e = or_left (among q xs) (eq-eqb q x e)

pub among_other : (q x : ℕ) (xs : List ℕ) → (q ≡ x → ⊥) → among q (x ∷ xs) ≡ among q xs
unfolding among
among_other q x xs d = rw (ne_eqb q x d)

pub among_last : (q x : ℕ) (xs : List ℕ) → among q (xs ++ (x ∷ [])) ≡ (among q xs || eqb q x)
unfolding among
among_last q x xs = among_append q xs (x ∷ []) ∙ ap (λ b. among q xs || b) (or-false (eqb q x))

-- A part has no others.
module _ (q n : ℕ) (l : List ℕ) where
  both : among q l ≡ (among q (take n l) || among q (drop n l))
  both = ap (among q) (sym (take-append-drop n l)) ∙ among_append q (take n l) (drop n l)

  pub among_take : among q (take n l) ≡ true → among q l ≡ true
  among_take h = both ∙ or_left (among q (drop n l)) h

  pub among_drop : among q (drop n l) ≡ true → among q l ≡ true
  among_drop h = both ∙ or_right (among q (take n l)) h

pub among_cut : (q a b : ℕ) (l : List ℕ) → a ≤ b → b ≤ length l → among q (drop a l) ≡ (among q (drop a (take b l)) || among q (drop b l))
among_cut q a b l h g =
    ap (λ r. among q (drop a r)) (sym (take-append-drop b l))
    ∙ ap (among q) (drop-append-le a (take b l) (drop b l) (omega (arith, length-take-le b l g)))
    ∙ among_append q (drop a (take b l)) (drop b l)

-- By an index.
pub among_at : (l : List ℕ) (k : ℕ) → k < length l → among (get_or l k 0) l ≡ true
unfolding among
among_at [] k h = absurd (omega arith)
among_at (x ∷ l) zero h = among_same x x l refl
among_at (x ∷ l) (suc k) h = or_right (eqb (get_or l k 0) x) (among_at l k (omega arith))

pub among_index : (q : ℕ) (l : List ℕ) → among q l ≡ true → (k : ℕ) × (k < length l) × (get_or l k 0 ≡ q)
unfolding among
among_index q [] h = true_false (sym h)
among_index q (x ∷ l) h =
    ⊎_elim
    (λ e. (0, omega arith, sym (eqb-true q x e)))
    (λ e. let w = among_index q l e in (suc w.0, omega (arith, w.1), w.2))
    (or_split (eqb q x) (among q l) h)

-- A part of a slice that is lent.
pub lent : (from to : ℕ) (l : List ℕ) → take (to - from) (drop from l) ≡ drop from (take to l)
lent from to l = sym (drop_take from to l)
