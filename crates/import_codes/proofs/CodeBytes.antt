-- The bytes of a code, and of one code more.
use mathlib.Core.List.{List, [], ◌∷◌, ◌++◌, map, flatten, map-append, append-nil, append_assoc}
use mathlib.Core.Path.{◌≡◌, sym, ap, ◌∙◌}
use Prim.Native.Nat.{ℕ, zero, suc, ◌+◌, ◌*◌, ◌-◌, ◌≤◌, ◌<◌}
use native.Mathlib.Nat.{sub-zero, zero-sub, suc-sub-suc}
use native.Mathlib.Numerals.{add-one}
use native.Mathlib.Omega.{arith}
use borrow.Rule.Slice.PartMut.{mid_of, put_mid}
use lib.ListN.{length, drop, set, replicate}
use Rattle.model.specs.Limits.{code_length, most_options}
use Rattle.model.specs.Propagation.{count_from}
use Rattle.texts.specs.Decimals.{decimal}
use Rattle.texts.specs.ClauseBook.{padded, code_of, codes_to}
use Rattle.theory_forms.specs.Lists.{count_more}
use Rattle.theory_imports.specs.Codes.{length_codes}
use Rattle.common_lists.proofs.Lent.{lent_start}
use Rattle.common_decimal.specs.Placed.{after, filled}
use Rattle.common_decimal.proofs.PlacedBytes.{placed_count, placed_buffer}

drop_zeros : (k n : ℕ) → drop k (replicate {A = ℕ} n 0) ≡ replicate (n - k) 0
drop_zeros zero n = rw (sub-zero n)
drop_zeros (suc k) zero = rw (zero-sub (suc k))
drop_zeros (suc k) (suc n) = rw (suc-sub-suc n k) (drop_zeros k n)

-- Digits that were put at the start of zeros are what a code has after its letter.
module _ (v : ℕ) {r : ℕ} {digits : List ℕ} (e : after r digits ≡ filled (decimal v) (replicate 12 0)) where
  after_letter : 86 ∷ digits ≡ code_of v
  unfolding code_of padded
  after_letter =
      let long = placed_count (decimal v) (replicate 12 0) e in
      let left : 13 - suc (length (decimal v)) ≡ 12 - r = omega arith in
      rw left (ap (λ l. 86 ∷ l) (placed_buffer (decimal v) (replicate 12 0) e ∙ ap (λ z. decimal v ++ z) (drop_zeros r 12)))

-- They are put after the letter.
pub code_written :
    (v : ℕ) (old : List ℕ) {r : ℕ} {digits ys : List ℕ} →
    after r digits ≡ filled (decimal v) (replicate 12 0) →
    1 ≤ length old →
    ys ≡ digits →
    put_mid 1 12 (set old 0 86) ys ≡ code_of v ++ drop code_length old
code_written v [] e h f = absurd (omega arith)
code_written v (x ∷ old) e h f = ap (λ ds. 86 ∷ (ds ++ drop 12 old)) f ∙ ap (λ l. l ++ drop 12 old) (after_letter v e)

-- The codes of the options passed, and the next.
flatten_more : {A : Type 0} (xss : List (List A)) (xs : List A) → flatten (xss ++ (xs ∷ [])) ≡ flatten xss ++ xs
unfolding flatten
flatten_more [] xs = append-nil xs
flatten_more (ys ∷ xss) xs = ap (λ r. ys ++ r) (flatten_more xss xs) ∙ sym (append_assoc ys (flatten xss) xs)

codes_one_more : (n : ℕ) → flatten (codes_to (n + 1)) ≡ flatten (codes_to n) ++ code_of (n + 1)
unfolding codes_to
codes_one_more n =
    let next : 1 + n ≡ suc n = omega arith in
    rw (add-one n, count_more 1 n, next, map-append code_of (count_from 1 n) (suc n ∷ []))
    (flatten_more (map code_of (count_from 1 n)) (code_of (suc n)))

pub codes_more :
    (n : ℕ) (old : List ℕ) {l ys : List ℕ} →
    n < most_options →
    l ≡ flatten (codes_to n) ++ drop (code_length * n) old →
    code_length * n ≤ length l →
    ys ≡ code_of (n + 1) ++ drop code_length (mid_of (code_length * n) (length l - code_length * n) l) →
    put_mid (code_length * n) (length l - code_length * n) l ys ≡ flatten (codes_to (n + 1)) ++ drop (code_length * (n + 1)) old
codes_more n old h e room f =
    let next : code_length * (n + 1) ≡ code_length * n + code_length = omega arith in
    rw (next, codes_one_more n)
    (lent_start (flatten (codes_to n)) old (length_codes n (omega arith)) e (code_of (n + 1)) code_length room f)
