-- Laws of the search for the least number that has an answer.
use Rattle.std.specs.Prelude.{true, false, ◌⊎◌, ◌↔◌, ◌≡◌, ltb}
use Rattle.std.proofs.Common.{inl, inr, ◌∙◌, arith, ltb-true, ltb-false}
use Rattle.std.proofs.Math.Option.{Option, none, some}
use Rattle.std.proofs.Math.Path.{refl}
use Prim.Native.Nat.{ℕ, zero, suc, ◌<◌, ◌≤◌}
use Rattle.model.specs.Base.{first_of, least}
use Rattle.theory_forms.specs.Logic.{none_some, either, first_none}

-- `Least n f a`: the answer a stands at a number below n, and no smaller number has one.
pub record Least {A : Type 0} (n : ℕ) (f : ℕ → Option A) (a : A) : Type 0 where
  pub number : ℕ
  pub below : number < n
  pub answer : f number ≡ some a
  pub smaller : (k : ℕ) → k < number → f k ≡ none

module _ {A : Type 0} where
  -- What holds at zero and at every successor below a bound holds at every number below it.
  below_suc : (f : ℕ → Option A) {n : ℕ} → f zero ≡ none → ((k : ℕ) → k < n → f (suc k) ≡ none) → (k : ℕ) → k < suc n → f k ≡ none
  below_suc f e h zero l = e
  below_suc f e h (suc k) l = h k (omega arith)

  -- An answer of the search is the one at the least number that has one.
  pub least_found : (n : ℕ) (f : ℕ → Option A) {a : A} → least n f ≡ some a → Least n f a
  unfolding least first_of
  least_found zero f e = none_some e
  least_found (suc n) f {a} e = go (f zero) refl e (least_found n (λ k. f (suc k)))
    where
      go :
          (o : Option A) →
          f zero ≡ o →
          first_of o (least n (λ k. f (suc k))) ≡ some a →
          (least n (λ k. f (suc k)) ≡ some a → Least n (λ k. f (suc k)) a) →
          Least (suc n) f a
      go none q e h =
          let w = h e in
          record { number = suc w.number; below = omega arith; answer = w.answer; smaller = below_suc f q w.smaller }
      go (some b) q e h = record { number = 0; below = omega arith; answer = q ∙ e; smaller = λ k l. absurd (omega arith) }

  -- An answer that tells its number is the answer there, and no smaller number has one.
  pub least_at :
      (n : ℕ) (f : ℕ → Option A) (told : A → ℕ) {a : A} →
      ((k : ℕ) → f k ≡ some a → told a ≡ k) →
      least n f ≡ some a →
      (f (told a) ≡ some a) × ((k : ℕ) → k < told a → f k ≡ none)
  least_at n f told tells e =
      let w = least_found n f e in
      rw (tells w.number w.answer) (w.answer, w.smaller)

  -- No smaller number has an answer, so the search finds this one.
  pub least_is : {n : ℕ} {f : ℕ → Option A} {a : A} → Least n f a → least n f ≡ some a
  unfolding least first_of
  least_is {n} {f} {a} w = go n f w.number w.below w.answer w.smaller
    where
      go : (n : ℕ) (f : ℕ → Option A) (k : ℕ) → k < n → f k ≡ some a → ((j : ℕ) → j < k → f j ≡ none) → least n f ≡ some a
      go zero f k l e h = absurd (omega arith)
      go (suc n) f zero l e h = rw e
      go (suc n) f (suc k) l e h = rw (h 0 (omega arith)) (go n (λ i. f (suc i)) k (omega arith) e (λ j m. h (suc j) (omega arith)))

  -- The search has no answer exactly where no number below the bound has one.
  pub least_none : (n : ℕ) (f : ℕ → Option A) → (least n f ≡ none) ↔ ((k : ℕ) → k < n → f k ≡ none)
  unfolding least first_of
  least_none zero f = ((λ e k l. absurd (omega arith)), λ h. refl)
  least_none (suc n) f =
      let later = least_none n (λ k. f (suc k)) in (
        (λ e. let s = first_none (f zero) _ e in below_suc f s.0 (later.0 s.1)),
        λ h. rw (h 0 (omega arith)) (later.1 (λ k l. h (suc k) (omega arith))),
      )

  -- One level of a nested search: where P says of a number that it has no answer, and P holds from the bound on, there is no
  -- answer exactly where P holds of all numbers.
  pub least_none_all :
      (n : ℕ) (f : ℕ → Option A) (P : ℕ → Type 0) →
      ((k : ℕ) → (f k ≡ none) ↔ P k) →
      ((k : ℕ) → n ≤ k → P k) →
      (least n f ≡ none) ↔ ((k : ℕ) → P k)
  least_none_all n f P says beyond =
      ((λ e k. go k (either (ltb k n)) ((least_none n f).0 e k)), λ h. (least_none n f).1 (λ k l. (says k).1 (h k)))
    where
      go : (k : ℕ) → (ltb k n ≡ true) ⊎ (ltb k n ≡ false) → (k < n → f k ≡ none) → P k
      go k (inl t) h = (says k).0 (h (ltb-true k n t))
      go k (inr t) h = beyond k (ltb-false k n t)
