-- Laws of the tables in which one literal more fails.
use mathlib.Core.Bool.{true, false}
use mathlib.Core.List.{List}
use mathlib.Core.Logic.{⊎_elim}
use mathlib.Core.Path.{◌≡◌, refl, sym, ap, ◌∙◌}
use Prim.Native.Nat.{ℕ, ◌+◌, ◌-◌, ◌%◌, ◌<◌}
use native.Mathlib.Omega.{arith}
use borrow.Author.Tests.{eqb-true, eqb-false, eq-eqb, ne_eqb}
use lib.Dec.{eqb}
use lib.ListN.{length, get_or, set, get_or-eq_default}
use lib.Seq.{get_or-set_same, get_or-set_other, set_out}
use Rattle.model.specs.Limits.{most_literals}
use Rattle.model.specs.Base.{pick}
use Rattle.theory_forms.specs.Logic.{either, pick_true, pick_false, pick_keeps}
use Rattle.report_breaking.specs.Breaking.{opposite}
use Rattle.report_breaking.specs.Stacks.{tried}

pub opposite_below : (p : ℕ) → p < most_literals → opposite p < most_literals
unfolding opposite
opposite_below p h = ⊎_elim
    (λ e. rw (pick_true (eqb (p % 2) 0) (p + 1) (p - 1) e) (omega (arith, eqb-true (p % 2) 0 e)))
    (λ e. rw (pick_false (eqb (p % 2) 0) (p + 1) (p - 1) e) (omega arith))
    (either (eqb (p % 2) 0))

-- By the complement.
module _ (t : List ℕ) (q : ℕ) where
  pub tried_asked : (get_or t (opposite q) 0 ≡ 1 → ⊥) → tried t q ≡ set t q 1
  unfolding tried
  tried_asked d = pick_false (eqb (get_or t (opposite q) 0) 1) t (set t q 1) (ne_eqb (get_or t (opposite q) 0) 1 d)

  pub tried_not : get_or t (opposite q) 0 ≡ 1 → tried t q ≡ t
  unfolding tried
  tried_not e = pick_true (eqb (get_or t (opposite q) 0) 1) t (set t q 1) (eq-eqb (get_or t (opposite q) 0) 1 e)

-- At a place outside, the table is as it is.
pub tried_none : (t : List ℕ) → length t ≡ most_literals → tried t most_literals ≡ t
unfolding opposite pick
tried_none t h =
    let out : get_or t (most_literals + 1) 0 ≡ 0 = get_or-eq_default t 0 (omega arith) in
    tried_asked t most_literals (λ e. omega arith) ∙ set_out t most_literals 1 (omega arith)

-- Whether a literal fails: where it did, or where it is the one and its complement does not.
module _ (t : List ℕ) (q p : ℕ) (inside : p < length t) where
  tried_other : (q ≡ p → ⊥) → get_or (tried t q) p 0 ≡ get_or t p 0
  unfolding tried
  tried_other d =
      pick_keeps (λ u. get_or u p 0 ≡ get_or t p 0) (eqb (get_or t (opposite q) 0) 1) refl (get_or-set_other t q p 1 0 (λ e. d (sym e)))

  pub fails_anyway : get_or t p 0 ≡ 1 → eqb (get_or (tried t q) p 0) 1 ≡ true
  unfolding tried
  fails_anyway h = eq-eqb (get_or (tried t q) p 0) 1 (pick_keeps (λ (u : List ℕ). get_or u p 0 ≡ 1) (eqb (get_or t (opposite q) 0) 1) h put)
    where
      put : get_or (set t q 1) p 0 ≡ 1
      put = ⊎_elim
          (λ e. rw (eqb-true q p e) (get_or-set_same t p 1 0 inside))
          (λ e. get_or-set_other t q p 1 0 (λ z. eqb-false q p e (sym z)) ∙ h)
          (either (eqb q p))

  module _ (stands : get_or t p 0 ≡ 1 → ⊥) where
    other : (q ≡ p → ⊥) → eqb (get_or (tried t q) p 0) 1 ≡ false
    other d = rw (tried_other d) (ne_eqb (get_or t p 0) 1 stands)

    pub never_asked : get_or t (opposite p) 0 ≡ 1 → eqb (get_or (tried t q) p 0) 1 ≡ false
    never_asked h = ⊎_elim
        (λ e. rw (eqb-true q p e, tried_not t p h) (ne_eqb (get_or t p 0) 1 stands))
        (λ e. other (eqb-false q p e))
        (either (eqb q p))

    pub asked : (get_or t (opposite p) 0 ≡ 1 → ⊥) → eqb (get_or (tried t q) p 0) 1 ≡ eqb q p
    asked d = ⊎_elim
        (λ e. ap (λ k. eqb (get_or (tried t k) p 0) 1) (eqb-true q p e) ∙ rw (tried_asked t p d, get_or-set_same t p 1 0 inside) (sym e))
        (λ e. other (eqb-false q p e) ∙ sym e)
        (either (eqb q p))
