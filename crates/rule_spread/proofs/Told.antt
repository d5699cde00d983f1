-- Whether some number of a list passes a test, told by a number that does or by all that do not.
use mathlib.Core.Bool.{Bool, true, false}
use mathlib.Core.List.{List, [], ◌∷◌}
use mathlib.Core.Path.{◌≡◌, refl, sym}
use Prim.Native.Nat.{ℕ, zero, suc, ◌<◌}
use native.Mathlib.Omega.{arith}
use lib.ListN.{length, get_or}
use Rattle.std.specs.Bool.{MatchBool}
use Rattle.std.specs.List.{AllWithin, HoldsAt}
use Rattle.model.specs.Base.{any}
use Rattle.theory_forms.specs.Logic.{or_left, or_right}

module _ (p : ℕ → Bool) where
  some : (l : List ℕ) (k : ℕ) → k < length l → p (get_or l k 0) ≡ true → any p l ≡ true
  unfolding any
  some [] k h e = absurd (omega arith)
  some (x ∷ l) zero h e = or_left (any p l) e
  some (x ∷ l) (suc k) h e = or_right (p x) (some l k (omega arith) e)

  none : (l : List ℕ) → ((k : ℕ) → k < length l → p (get_or l k 0) ≡ false) → any p l ≡ false
  unfolding any
  none [] h = refl
  none (x ∷ l) h = rw (h 0 (omega arith)) (none l (λ k n. h (suc k) (omega arith)))

  pub any_told :
      (r : Bool) (l : List ℕ) →
      MatchBool r ((k : ℕ) × (k < length l) × HoldsAt (λ x. p x ≡ true) l k) (AllWithin (λ x. p x ≡ false) l 0 (length l)) →
      r ≡ any p l
  any_told true l w = sym (some l w.0 w.1 (w.2 0))
  any_told false l w = sym (none l (λ k n. w k 0 (omega arith) n))
