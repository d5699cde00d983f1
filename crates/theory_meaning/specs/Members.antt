-- Members name distinct options: sets that differ in one option alone differ in the value of one member at most.
use Rattle.std.specs.Prelude.{Bool, true, false, ◌&&◌, ◌||◌, not, ◌≡◌, ℕ, suc, ◌≤◌, eqb}
use mathlib.Core.List.{◌∷◌}
use Rattle.std.proofs.Math.Path.{refl, ap₂}
use Rattle.std.proofs.Common.{sym}
use native.Mathlib.Omega.{arith}
use borrow.Author.Tests.{eqb-true, eqb-false, not-true}
use Rattle.model.specs.Base.{pick}
use Rattle.model.specs.Literal.{Literal, option}
use Rattle.model.specs.Forest.{and, or, same_conn, Forest, nil, lit, node, size, mentions, members}
use Rattle.theory_forms.specs.Logic.{and_split, or_neither}
use Rattle.theory_forms.specs.Forests.{size_zero}
use Rattle.theory_meaning.specs.Evaluation.{Set, fails_all, values, count}

-- One set has the literals of the other, but for those of an option.
abbrev pub AlikeBut : ℕ → Set → Set → Type 0
AlikeBut v s u = (l : Literal) → (option l ≡ v → ⊥) → u l ≡ s l

-- One value more, before others: another one, or the same.
other_value : (a b : Bool) (n : ℕ) → pick a (suc n) n ≤ suc (pick b (suc n) n)
unfolding pick
other_value true true n = omega arith
other_value true false n = omega arith
other_value false true n = omega arith
other_value false false n = omega arith

same_value : (a : Bool) (m n : ℕ) → m ≤ suc n → pick a (suc m) m ≤ suc (pick a (suc n) n)
unfolding pick
same_value true m n h = omega arith
same_value false m n h = h

module _ {v : ℕ} {s u : Set} (alike : AlikeBut v s u) where
  -- Trees that do not mention the option have the same values.
  unmentioned : (f : Forest) → mentions v f ≡ false → values u f ≡ values s f
  unfolding mentions values
  unmentioned nil n = refl
  unmentioned (lit l f) n =
      let t = or_neither (eqb v (option l)) (mentions v f) n in
      ap₂ ◌∷◌ (alike l (λ e. eqb-false v (option l) t.0 (sym e))) (unmentioned f t.1)
  unmentioned (node c k f) n =
      let t = or_neither (mentions v k) (mentions v f) n in
      ap₂ (λ bs cs. fails_all c bs ∷ cs) (unmentioned k t.0) (unmentioned f t.1)

  pub one_member_more : (f : Forest) → members f ≡ true → count (values u f) ≤ suc (count (values s f))
  unfolding members values count
  one_member_more nil h = omega arith
  one_member_more (lit l f) h = go (eqb v (option l)) refl (one_member_more f parts.1)
    where
      parts : (not (mentions (option l) f) ≡ true) × (members f ≡ true)
      parts = and_split (not (mentions (option l) f)) (members f) h

      go :
          (b : Bool) →
          eqb v (option l) ≡ b →
          count (values u f) ≤ suc (count (values s f)) →
          pick (u l) (suc (count (values u f))) (count (values u f)) ≤ suc (pick (s l) (suc (count (values s f))) (count (values s f)))
      go true e r =
          let apart : mentions v f ≡ false = rw (eqb-true v (option l) e) (not-true (mentions (option l) f) parts.0) in
          rw (unmentioned f apart) (other_value (u l) (s l) (count (values s f)))
      go false e r =
          rw (alike l (λ q. eqb-false v (option l) e (sym q))) (same_value (s l) (count (values u f)) (count (values s f)) r)
  one_member_more (node c k f) h =
      let parts = and_split ((same_conn and c || same_conn or c) && eqb (size k) 0) (members f) h in
      let none = size_zero k (eqb-true (size k) 0 (and_split (same_conn and c || same_conn or c) _ parts.0).1) in
      rw none (same_value (fails_all c (values s nil)) (count (values u f)) (count (values s f)) (one_member_more f parts.1))
