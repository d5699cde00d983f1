-- The contents of so many trees, one tree more: where it begins, and its node count.
use mathlib.Core.List.{List, [], ◌∷◌, ◌++◌, append_assoc}
use mathlib.Core.Path.{◌≡◌, refl, sym, ap, ◌∙◌}
use Prim.Native.Nat.{ℕ, zero, suc, ◌+◌, ◌*◌, ◌/◌, ◌%◌, ◌≤◌}
use native.Mathlib.Nat.{add-zero, zero-add, add_assoc}
use native.Mathlib.Numerals.{add-one}
use native.Mathlib.Omega.{arith}
use lib.ListN.{length, drop, set, length-append}
use lib.Seq.{drop-drop}
use Rattle.model.specs.Book.{bytes_of, lined_up}
use Rattle.theory_formats.specs.Bytes.{length_bytes, length_flat}
use Rattle.theory_formats.specs.Contents.{total, places, flat_places, length_places}
use Rattle.theory_reading.specs.Spans.{span, spans}
use Rattle.book_bytes.proofs.NumberBytes.{bytes_more}

pub length_spans : (m : ℕ) (s : List ℕ) → length (spans m s) ≡ m
unfolding spans
length_spans zero s = refl
length_spans (suc m) s = ap suc (length_spans m (drop (span 1 s) s))

pub length_lined : (sum : ℕ) (ks : List ℕ) → length (lined_up sum ks) ≡ 2 * length ks
length_lined sum ks = ap length (sym (flat_places sum ks)) ∙ length_flat (places sum ks) ∙ ap (λ n. 2 * n) (length_places sum ks)

pub length_contents : (m : ℕ) (s : List ℕ) → length (bytes_of (lined_up 0 (spans m s))) ≡ 4 * m
length_contents m s = omega (arith, length_bytes (lined_up 0 (spans m s)), length_lined 0 (spans m s), length_spans m s)

spans_suc : (k : ℕ) (s : List ℕ) → spans (suc k) s ≡ spans k s ++ (span 1 (drop (total (spans k s)) s) ∷ [])
unfolding spans total
spans_suc zero s = refl
spans_suc (suc k) s =
    let n = span 1 s in
    ap (λ r. n ∷ r) (spans_suc k (drop n s) ∙ rw (drop-drop (total (spans k (drop n s))) n s))

lined_more : (sum k : ℕ) (ks : List ℕ) → lined_up sum (ks ++ (k ∷ [])) ≡ lined_up sum ks ++ ((sum + total ks) ∷ k ∷ [])
unfolding lined_up total
lined_more sum k [] = rw (add-zero sum)
lined_more sum k (x ∷ ks) = ap (λ r. sum ∷ x ∷ r) (rw (← add_assoc sum x (total ks)) (lined_more (sum + x) k ks))

total_more : (k : ℕ) (ks : List ℕ) → total (ks ++ (k ∷ [])) ≡ total ks + k
unfolding total
total_more k [] = omega arith
total_more k (x ∷ ks) = omega (arith, total_more k ks)

module _ (s : List ℕ) (k : ℕ) {begin count : ℕ} (here : begin ≡ total (spans k s)) (long : count ≡ span 1 (drop begin s)) where
  spans_more : spans (k + 1) s ≡ spans k s ++ (count ∷ [])
  spans_more = rw (add-one k, long, here) (spans_suc k s)

  pub begins : begin + count ≡ total (spans (k + 1) s)
  begins = rw (spans_more, total_more count (spans k s), here)

  contents_are : lined_up 0 (spans (k + 1) s) ≡ (lined_up 0 (spans k s) ++ (begin ∷ [])) ++ (count ∷ [])
  contents_are =
      rw (spans_more, lined_more 0 count (spans k s), here, zero-add, append_assoc (lined_up 0 (spans k s)))

  -- Its two numbers written after the contents of the trees before it.
  pub contents_more :
      (old : List ℕ) {l l₁ l₂ : List ℕ} →
      4 * (k + 1) ≤ length old →
      l ≡ bytes_of (lined_up 0 (spans k s)) ++ drop (4 * k) old →
      l₁ ≡ set (set l (4 * k) (begin % 256)) (4 * k + 1) (begin / 256 % 256) →
      l₂ ≡ set (set l₁ (4 * k + 2) (count % 256)) (4 * k + 2 + 1) (count / 256 % 256) →
      l₂ ≡ bytes_of (lined_up 0 (spans (k + 1) s)) ++ drop (4 * (k + 1)) old
  contents_more old h e f g =
      let xs : List ℕ = lined_up 0 (spans k s) in
      let ys : List ℕ = xs ++ (begin ∷ []) in
      let first : 2 * length xs ≡ 4 * k = omega (arith, length_bytes xs, length_contents k s) in
      let second : 2 * length ys ≡ 4 * k + 2 = omega (arith, length-append xs (begin ∷ [])) in
      let four : 4 * (k + 1) ≡ 4 * k + 2 + 2 = omega arith in
      rw (contents_are, four)
      (g ∙ bytes_more ys old count second (omega arith) (f ∙ bytes_more xs old begin first (omega arith) e))
