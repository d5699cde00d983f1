-- Laws of the entries of a stack: how many trees stand, where literals begin, and the first entries and the rest.
use mathlib.Core.Bool.{true, false, ◌||◌}
use mathlib.Core.List.{List, [], ◌∷◌}
use mathlib.Core.Logic.{⊎_elim}
use mathlib.Core.Path.{◌≡◌, refl, sym, ap, ◌∙◌}
use Prim.Native.Nat.{ℕ, zero, suc, ◌+◌, ◌*◌, ◌%◌, ◌≤◌, ◌<◌}
use native.Mathlib.Omega.{arith}
use borrow.Author.Tests.{eqb-true, eqb-false, eq-eqb, ne_eqb}
use lib.Dec.{eqb}
use lib.ListN.{length, get_or, take, drop}
use Rattle.std.proofs.Common.{count_by, cond}
use Rattle.std.proofs.lemmas.List.Recursion.{is_count_by}
use lib.Seq.{length-take-le, take_all, take-take}
use Rattle.model.specs.Base.{pick}
use Rattle.theory_forms.specs.Logic.{either, pick_keeps}
use Rattle.report_breaking.specs.Stacks.{among, begin, failing, broken, Stacked, bottom, standing}

pub failing_odd : (f : ℕ) → (f % 2 ≡ 0 → ⊥) → failing f ≡ true
unfolding failing
failing_odd f d = eq-eqb (f % 2) 1 (omega arith)

pub failing_even : (f : ℕ) → f % 2 ≡ 0 → failing f ≡ false
unfolding failing
failing_even f e = ne_eqb (f % 2) 1 (λ q. omega arith)

-- The entry of a tree that stands, and of one that fails as it is.
pub even_entry : (n : ℕ) → (begin (2 * n) ≡ n) × (failing (2 * n) ≡ false)
unfolding begin
even_entry n = (omega arith, failing_even (2 * n) (omega arith))

pub odd_entry : (n : ℕ) → (begin (2 * n + 1) ≡ n) × (failing (2 * n + 1) ≡ true)
unfolding begin
odd_entry n = (omega arith, failing_odd (2 * n + 1) (λ e. omega arith))

pub standing_more : (f : ℕ) (fs : List ℕ) → failing f ≡ false → standing (f ∷ fs) ≡ suc (standing fs)
unfolding standing pick
standing_more f fs e = rw e

pub standing_same : (f : ℕ) (fs : List ℕ) → failing f ≡ true → standing (f ∷ fs) ≡ standing fs
unfolding standing pick
standing_same f fs e = rw e

pub standing_most : (fs : List ℕ) → standing fs ≤ length fs
unfolding standing
standing_most [] = omega arith
standing_most (f ∷ fs) =
    let h = standing_most fs in
    pick_keeps (λ n. n ≤ suc (length fs)) (failing f) (omega arith) (omega arith)

-- They are the entries that are even.
even_more : (f : ℕ) (fs : List ℕ) → standing (f ∷ fs) ≡ cond (eqb (f % 2) 0) (1 + standing fs) (standing fs)
even_more f fs = ⊎_elim
    (λ e. rw e (omega (arith, standing_more f fs (failing_even f (eqb-true (f % 2) 0 e)))))
    (λ e. rw e (standing_same f fs (failing_odd f (eqb-false (f % 2) 0 e))))
    (either (eqb (f % 2) 0))

pub standing_count : (fs : List ℕ) → standing fs ≡ count_by (λ f. eqb (f % 2) 0) fs
unfolding standing
standing_count fs = is_count_by standing (λ f. eqb (f % 2) 0) refl even_more fs

-- Where literals begin.

pub bottom_low : (n : ℕ) (fs : List ℕ) → Stacked n fs → bottom n fs ≤ n
unfolding bottom
bottom_low n [] s = omega arith
bottom_low n (f ∷ fs) s = let h = bottom_low (begin f) fs s.2 in omega (arith, s.0)

pub bottom_empty : (n : ℕ) (fs : List ℕ) → length fs ≡ 0 → bottom n fs ≡ n
unfolding bottom
bottom_empty n [] e = refl
bottom_empty n (f ∷ fs) e = absurd (omega arith)

-- The last tree's literals begin where its entry says.
pub bottom_last : (n k : ℕ) (fs : List ℕ) → k < length fs → bottom n (take (suc k) fs) ≡ begin (get_or fs k 0)
unfolding bottom
bottom_last n k [] h = absurd (omega arith)
bottom_last n zero (f ∷ fs) h = refl
bottom_last n (suc k) (f ∷ fs) h = bottom_last (begin f) k fs (omega arith)

-- The first entries, and the rest.

pub stacked_take : (n k : ℕ) (fs : List ℕ) → Stacked n fs → Stacked n (take k fs)
stacked_take n zero fs s = tt
stacked_take n (suc k) [] s = tt
stacked_take n (suc k) (f ∷ fs) s = (s.0, s.1, stacked_take (begin f) k fs s.2)

pub stacked_drop : (n k : ℕ) (fs : List ℕ) → Stacked n fs → Stacked (bottom n (take k fs)) (drop k fs)
unfolding bottom
stacked_drop n zero fs s = s
stacked_drop n (suc k) [] s = tt
stacked_drop n (suc k) (f ∷ fs) s = stacked_drop (begin f) k fs s.2

pub bottom_drop : (n k : ℕ) (fs : List ℕ) → bottom (bottom n (take k fs)) (drop k fs) ≡ bottom n fs
unfolding bottom
bottom_drop n zero fs = refl
bottom_drop n (suc k) [] = refl
bottom_drop n (suc k) (f ∷ fs) = bottom_drop (begin f) k fs

module _ (q : ℕ) where
  pub broken_length : (ls fs : List ℕ) → length (broken q ls fs) ≡ length fs
  unfolding broken
  broken_length ls [] = refl
  broken_length ls (f ∷ fs) = ap suc (broken_length (take (begin f) ls) fs)

  pub broken_take : (k : ℕ) (ls fs : List ℕ) → broken q ls (take k fs) ≡ take k (broken q ls fs)
  unfolding broken
  broken_take zero ls fs = refl
  broken_take (suc k) ls [] = refl
  broken_take (suc k) ls (f ∷ fs) = ap (λ r. (failing f || among q (drop (begin f) ls)) ∷ r) (broken_take k (take (begin f) ls) fs)

  pub broken_drop : (k n : ℕ) (ls fs : List ℕ) → length ls ≡ n → Stacked n fs →
      broken q (take (bottom n (take k fs)) ls) (drop k fs) ≡ drop k (broken q ls fs)
  unfolding broken bottom
  broken_drop zero n ls fs e s = ap (λ r. broken q r fs) (take_all n ls (omega arith))
  broken_drop (suc k) n ls [] e s = refl
  broken_drop (suc k) n ls (f ∷ fs) e s =
      let low = s.0 in
      ap (λ r. broken q r (drop k fs)) (sym (take-take (bottom (begin f) (take k fs)) (begin f) ls
      (bottom_low (begin f) (take k fs) (stacked_take (begin f) k fs s.2))))
      ∙ broken_drop k (begin f) (take (begin f) ls) fs (length-take-le (begin f) ls (omega arith)) s.2
