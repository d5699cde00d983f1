-- The first number that passes a test; the first child, and the first inner child, with which a rule applies to the first tree of a
-- stretch.
use Rattle.std.specs.Prelude.{Bool, true, false, List, ◌≡◌, ℕ, suc, ◌<◌, get_or}
use Rattle.std.proofs.Math.Option.{Option, none, some}
use Rattle.std.proofs.Common.{sym, ◌∙◌, arith}
use Rattle.model.specs.Base.{is_some}
use Rattle.model.specs.Forest.{size, after, kids}
use Rattle.model.specs.Code.{children}
use Rattle.model.specs.Rules.{rewrite}
use Rattle.theory_reading.specs.Stretches.{forest_in}

-- The first number that passes a test.
pub record FirstAt (test : ℕ → Bool) (i : ℕ) : Type 0 where
  pub before : (k : ℕ) → k < i → test k ≡ false
  pub there : test i ≡ true

-- The first number below a bound that passes a test, where one does.
abbrev pub FirstOf : (ℕ → Bool) → ℕ → Option ℕ → Type 0
FirstOf test bound (some i) = (i < bound) × FirstAt test i
FirstOf test bound none = (k : ℕ) → k < bound → test k ≡ false

-- How it is told: a number that passes after others that do not, and all below the bound that do not.
module _ {test : ℕ → Bool} {bound : ℕ} where
  pub first_here : {i : ℕ} → i < bound → ((k : ℕ) → k < i → test k ≡ false) → test i ≡ true → FirstOf test bound (some i)
  first_here few before here = (few, record { before = before; there = here })

  pub first_past : ((k : ℕ) → k < bound → test k ≡ false) → FirstOf test bound none
  first_past before = before

-- A test that says the same below the bound.
pub first_same :
    {test other : ℕ → Bool} {bound : ℕ} →
    ((k : ℕ) → k < bound → test k ≡ other k) →
    (o : Option ℕ) →
    FirstOf test bound o →
    FirstOf other bound o
first_same same (some i) w =
    (w.0, record { before = λ k h. sym (same k (omega (arith, w.0))) ∙ w.1.before k h; there = sym (same i w.0) ∙ w.1.there })
first_same same none w = λ k h. sym (same k h) ∙ w k h

-- The first child with which a rule applies whose inner child is always 0.
abbrev pub FirstChild : ℕ → Option ℕ → List ℕ → Type 0
FirstChild rule o l = FirstOf (λ k. is_some (rewrite rule k 0 (forest_in l))) (children (get_or l 0 0)) o

-- One more than the inner children of child i.
abbrev pub inner_bound : ℕ → List ℕ → ℕ
inner_bound i l = suc (size (kids (after i (kids (forest_in l)))))

-- The first inner child of child i with which a rule applies.
abbrev pub FirstInner : ℕ → ℕ → Option ℕ → List ℕ → Type 0
FirstInner rule i o l = FirstOf (λ k. is_some (rewrite rule i k (forest_in l))) (inner_bound i l) o
