-- Bounds set back one after another.
use mathlib.Core.List.{List}
use mathlib.Core.Logic.{inl, inr, ⊎_elim}
use mathlib.Core.Path.{◌≡◌, ap, subst, ◌∙◌}
use Prim.Native.Nat.{ℕ, ◌+◌, ◌≤◌, ◌<◌}
use native.Mathlib.Omega.{arith}
use borrow.Author.Tests.{ltb-true, ltb-false}
use lib.Dec.{ltb}
use lib.ListN.{length, get_or, set}
use lib.Seq.{get_or-set_same, get_or-set_other}
use Rattle.model.specs.Code.{Node}
use Rattle.theory_forms.specs.Logic.{either}
use Rattle.run_bounds_after.specs.SetBack.{ConstantFree, SetBack}

module _ {from p : ℕ} (ns : List Node) (t u : List ℕ) (w : SetBack from p ns t u) (le : from ≤ p) where
  pub set_kept : ConstantFree p ns → SetBack from (p + 1) ns t u
  set_kept free =
      record {
        outside = λ q e. w.outside q (⊎_elim (λ l. inl l) (λ l. inr (omega arith)) e);
        inside = λ q a b. ⊎_elim
            (λ e. w.inside q a (ltb-true q p e))
            (λ e. let same : p ≡ q = omega (arith, ltb-false q p e) in
            inr (w.outside q (inr (omega arith)), subst (λ k. ConstantFree k ns) same free))
            (either (ltb q p));
      }

  pub set_one : p < length u → SetBack from (p + 1) ns t (set u p 1)
  set_one long =
      record {
        outside = λ q e. ⊎_elim
            (λ l. get_or-set_other u p q 1 0 (λ d. omega arith) ∙ w.outside q (inl l))
            (λ l. get_or-set_other u p q 1 0 (λ d. omega arith) ∙ w.outside q (inr (omega arith)))
            e;
        inside = λ q a b. ⊎_elim
            (λ e. let other : get_or (set u p 1) q 0 ≡ get_or u q 0 = get_or-set_other u p q 1 0 (λ d. omega (arith, ltb-true q p e)) in
            ⊎_elim (λ x. inl (other ∙ x)) (λ x. inr (other ∙ x.0, x.1)) (w.inside q a (ltb-true q p e)))
            (λ e. let same : q ≡ p = omega (arith, ltb-false q p e) in
            inl (ap (λ k. get_or (set u p 1) k 0) same ∙ get_or-set_same u p 1 0 long))
            (either (ltb q p));
      }
