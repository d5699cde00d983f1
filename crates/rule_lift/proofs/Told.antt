-- Whether every number of a list passes a test, told by all that do or by one that does not.
use mathlib.Core.Bool.{Bool, true, false, ◌&&◌, and-false}
use mathlib.Core.List.{List, [], ◌∷◌}
use mathlib.Core.Path.{◌≡◌, refl, sym, ap, ◌∙◌}
use Prim.Native.Nat.{ℕ, zero, suc, ◌<◌}
use native.Mathlib.Omega.{arith}
use lib.ListN.{length, get_or}
use Rattle.std.specs.Bool.{MatchBool}
use Rattle.std.specs.List.{AllWithin, HoldsAt}
use Rattle.model.specs.Base.{all}

module _ (p : ℕ → Bool) where
  every : (l : List ℕ) → ((k : ℕ) → k < length l → p (get_or l k 0) ≡ true) → all p l ≡ true
  unfolding all
  every [] h = refl
  every (x ∷ l) h = rw (h 0 (omega arith)) (every l (λ k n. h (suc k) (omega arith)))

  not_every : (l : List ℕ) (k : ℕ) → k < length l → p (get_or l k 0) ≡ false → all p l ≡ false
  unfolding all
  not_every [] k h e = absurd (omega arith)
  not_every (x ∷ l) zero h e = rw e
  not_every (x ∷ l) (suc k) h e = ap (λ b. p x && b) (not_every l k (omega arith) e) ∙ and-false (p x)

  pub all_told :
      (r : Bool) (l : List ℕ) →
      MatchBool r (AllWithin (λ x. p x ≡ true) l 0 (length l)) ((k : ℕ) × (k < length l) × HoldsAt (λ x. p x ≡ false) l k) →
      r ≡ all p l
  all_told true l w = sym (every l (λ k n. w k 0 (omega arith) n))
  all_told false l w = sym (not_every l w.0 w.1 (w.2 0))
