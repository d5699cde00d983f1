-- The levels of the search, each by what the one below it found.
use mathlib.Core.Bool.{true, false}
use mathlib.Core.List.{List}
use mathlib.Core.Logic.{◌⊎◌, inl, inr}
use mathlib.Core.Option.{none, some}
use mathlib.Core.Path.{◌≡◌, sym, ap}
use Prim.Native.Nat.{ℕ, zero, suc, ◌≤◌, ◌<◌}
use native.Mathlib.Omega.{arith}
use borrow.Author.Tests.{ltb-true, ltb-false}
use lib.Dec.{ltb}
use lib.ListN.{length, drop}
use Rattle.model.specs.Base.{only_if, is_some}
use Rattle.model.specs.Limits.{last_rule}
use Rattle.model.specs.Forest.{Forest, size, after, kids}
use Rattle.model.specs.Code.{Node, decode}
use Rattle.model.specs.Rules.{rewrite}
use Rattle.model.specs.Strategy.{Redex, redex, least_j, least_i, least_place, next}
use Rattle.theory_forms.specs.Logic.{either, is_some_of, only_true}
use Rattle.theory_rewriting.specs.Least.{least_is, least_none}
use Rattle.theory_rewriting.specs.Bounds.{rewrite_within, past_last}

only_false : {A : Type 0} {b : _} (a : A) → b ≡ false → only_if b a ≡ none
unfolding only_if
only_false a e = rw e

module _ (r p : ℕ) (f : Forest) where
  -- Inner children.
  pub j_found :
      (i j : ℕ) →
      is_some (rewrite r i j f) ≡ true →
      ((k : ℕ) → k < j → is_some (rewrite r i k f) ≡ false) →
      some (redex r p i j) ≡ least_j r p i f
  unfolding least_j
  j_found i j t h =
      let w = is_some_of (rewrite r i j f) t in
      sym
      (least_is
      (record {
        number = j;
        below = (rewrite_within r i j f w.1).inner;
        answer = only_true (is_some (rewrite r i j f)) (redex r p i j) t;
        smaller = λ k l. only_false (redex r p i k) (h k l);
      }))

  pub j_none : (i : ℕ) → ((j : ℕ) → j < suc (size (kids (after i (kids f)))) → is_some (rewrite r i j f) ≡ false) → none ≡ least_j r p i f
  unfolding least_j
  j_none i h = sym ((least_none _ _).1 (λ j l. only_false (redex r p i j) (h j l)))

  -- Children.
  pub i_found :
      (i : ℕ) {x : Redex} →
      i < suc (size (kids f)) →
      some x ≡ least_j r p i f →
      ((k : ℕ) → k < i → none ≡ least_j r p k f) →
      some x ≡ least_i r p f
  unfolding least_i
  i_found i l e h = sym (least_is (record { number = i; below = l; answer = sym e; smaller = λ k m. sym (h k m) }))

  pub i_none : r ≤ 15 → ((i : ℕ) → i < size (kids f) → none ≡ least_j r p i f) → none ≡ least_i r p f
  unfolding least_i is_some
  i_none low h = sym ((least_none _ _).1 (λ i l. sym (go i (either (ltb i (size (kids f)))))))
    where
      go : (i : ℕ) → (ltb i (size (kids f)) ≡ true) ⊎ (ltb i (size (kids f)) ≡ false) → none ≡ least_j r p i f
      go i (inl t) = h i (ltb-true i (size (kids f)) t)
      go i (inr t) = j_none i (λ j m. ap is_some (past_last r i j f low (ltb-false i (size (kids f)) t)))

  pub i_never : ((i j : ℕ) → false ≡ is_some (rewrite r i j f)) → none ≡ least_i r p f
  unfolding least_i
  i_never h = sym ((least_none _ _).1 (λ i l. sym (j_none i (λ j m. sym (h i j)))))

-- Places.
module _ (r : ℕ) (ns : List Node) where
  pub p_found :
      (p : ℕ) {x : Redex} →
      p < length ns →
      some x ≡ least_i r p (decode (drop p ns)) →
      ((q : ℕ) → q < p → none ≡ least_i r q (decode (drop q ns))) →
      some x ≡ least_place r ns
  unfolding least_place
  p_found p l e h = sym (least_is (record { number = p; below = l; answer = sym e; smaller = λ q m. sym (h q m) }))

  pub p_none : ((p : ℕ) → p < length ns → none ≡ least_i r p (decode (drop p ns))) → none ≡ least_place r ns
  unfolding least_place
  p_none h = sym ((least_none _ _).1 (λ p l. sym (h p l)))

-- Rules, which count from 1.
module _ (ns : List Node) where
  pub r_found :
      (r : ℕ) {x : Redex} →
      1 ≤ r →
      r ≤ last_rule →
      some x ≡ least_place r ns →
      ((q : ℕ) → 1 ≤ q → q < r → none ≡ least_place q ns) →
      some x ≡ next ns
  unfolding next
  r_found zero low high e h = absurd (omega arith)
  r_found (suc r) low high e h =
      sym (least_is (record { number = r; below = omega arith; answer = sym e; smaller = λ q m. sym (h (suc q) (omega arith) (omega arith)) }))

  pub r_none : ((r : ℕ) → 1 ≤ r → r ≤ last_rule → none ≡ least_place r ns) → none ≡ next ns
  unfolding next
  r_none h = sym ((least_none last_rule _).1 (λ r l. sym (h (suc r) (omega arith) (omega arith))))
