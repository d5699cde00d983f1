-- The numbers that digits spell, compared as digits: by their count, then digit by digit.
use Rattle.std.specs.Prelude.{true, false, ◌&&◌, ◌||◌, not, List, [], ◌∷◌, ◌++◌, ◌≡◌, refl, eqb, leb, length, take}
use Rattle.std.proofs.Common.{⊎_elim, sym, ◌∙◌, arith, eqb-true, eq-eqb, ne_eqb, le-leb, take-append-drop, take-suc}
use Rattle.std.proofs.Math.Path.{ap}
use Prim.Native.Nat.{ℕ, suc, ◌+◌, ◌-◌, ◌*◌, ◌/◌, ◌%◌, ◌≤◌, ◌<◌}
use Rattle.std.proofs.lemmas.Bool.{eqb-false, lt-leb, not-true}
use Rattle.std.proofs.Math.ListN.{get_or, drop, length-drop}
use Rattle.std.proofs.Math.Seq.{split_at}
use Rattle.model.specs.Base.{pick, all}
use Rattle.model.specs.Book.{between}
use Rattle.texts.specs.Decimals.{is_digit, is_decimal, number_from, number_in}
use Rattle.theory_forms.specs.Logic.{either, true_false, and_split, or_split, same_test}
use Rattle.theory_forms.specs.Lists.{all_cut}
use Rattle.theory_texts.specs.Figures.{digit_range}

pub number_append : (n : ℕ) (xs ys : List ℕ) → number_from n (xs ++ ys) ≡ number_from (number_from n xs) ys
unfolding number_from
number_append n [] ys = refl
number_append n (x ∷ xs) ys = number_append (10 * n + (x - 48)) xs ys

-- Digits more make no number smaller.
pub number_grows : (n : ℕ) (xs : List ℕ) → n ≤ number_from n xs
unfolding number_from
number_grows n [] = omega arith
number_grows n (x ∷ xs) = omega (arith, number_grows (10 * n + (x - 48)) xs)

-- What is ahead stays ahead, after as many digits or more.
pub stays_ahead : (p q : ℕ) (xs ys : List ℕ) → p < q → length xs ≤ length ys → all is_digit xs ≡ true → number_from p xs < number_from q ys
unfolding number_from all
stays_ahead p q [] ys h n e = omega (arith, number_grows q ys)
stays_ahead p q (x ∷ xs) [] h n e = absurd (omega arith)
stays_ahead p q (x ∷ xs) (y ∷ ys) h n e =
    let s = and_split (is_digit x) (all is_digit xs) e in
    let r = digit_range x s.0 in
    stays_ahead (10 * p + (x - 48)) (10 * q + (y - 48)) xs ys (omega arith) (omega arith) s.1

pub decimal_digits : (ds : List ℕ) → is_decimal ds ≡ true → all is_digit ds ≡ true
unfolding is_decimal all
decimal_digits [] h = refl
decimal_digits (x ∷ xs) h = (and_split (all is_digit (x ∷ xs)) (not (eqb x 48) || eqb (length xs) 0) h).0

digit_above : (x : ℕ) → 48 ≤ x → (x ≡ 48 → ⊥) → 49 ≤ x
digit_above x h ne = ⊎_elim (λ e. absurd (ne (eqb-true x 48 e))) (λ e. omega (arith, eqb-false x 48 e)) (either (eqb x 48))

-- A decimal of two digits or more begins with no zero.
pub decimal_first : (x : ℕ) (xs : List ℕ) → is_decimal (x ∷ xs) ≡ true → 1 ≤ length xs → 49 ≤ x
unfolding is_decimal all
decimal_first x xs h n =
    let s = and_split (all is_digit (x ∷ xs)) (not (eqb x 48) || eqb (length xs) 0) h in
    let r = digit_range x (and_split (is_digit x) (all is_digit xs) s.0).0 in
    ⊎_elim
    (λ e. let ne = eqb-false x 48 (not-true (eqb x 48) e) in digit_above x r.0 ne)
    (λ e. absurd (omega (arith, eqb-true (length xs) 0 e)))
    (or_split (not (eqb x 48)) (eqb (length xs) 0) s.1)

-- The one with fewer digits is smaller.
pub fewer_digits : (a b : List ℕ) → is_decimal a ≡ true → is_decimal b ≡ true → length a < length b → number_in a < number_in b
unfolding number_in number_from is_decimal
fewer_digits a [] h e n = absurd (omega arith)
fewer_digits [] (y ∷ ys) h e n = true_false (sym h)
fewer_digits (x ∷ xs) (y ∷ ys) h e n =
    let first = decimal_first y ys e (omega arith) in
    stays_ahead 0 (10 * 0 + (y - 48)) (x ∷ xs) ys (omega arith) (omega arith) (decimal_digits (x ∷ xs) h)

-- Of two with as many digits, the first digit that differs decides.
module _ (a b : List ℕ) (i : ℕ) (same_length : length a ≡ length b) (digits : all is_digit a ≡ true) where
  pub first_difference : i < length a → take i a ≡ take i b → get_or a i 0 < get_or b i 0 → 48 ≤ get_or a i 0 → number_in a < number_in b
  unfolding number_in number_from
  first_difference h e less ok =
      let p : ℕ = number_from 0 (take i a) in
      let x = get_or a i 0 in
      let y = get_or b i 0 in
      let one : number_in a ≡ number_from (10 * p + (x - 48)) (drop (suc i) a) =
      ap (number_from 0) (split_at a i 0 h) ∙ number_append 0 (take i a) (x ∷ drop (suc i) a) in
      let two : number_in b ≡ number_from (10 * p + (y - 48)) (drop (suc i) b) =
      ap (number_from 0) (split_at b i 0 (omega arith)) ∙ number_append 0 (take i b) (y ∷ drop (suc i) b) ∙ rw e in
      let s = and_split (all is_digit (take (suc i) a)) (all is_digit (drop (suc i) a)) (sym (all_cut is_digit (suc i) a) ∙ digits) in
      rw (one, two) (stays_ahead (10 * p + (x - 48)) (10 * p + (y - 48)) (drop (suc i) a) (drop (suc i) b)
      (omega arith) (omega (arith, length-drop (suc i) a, length-drop (suc i) b)) s.1)

-- A digit more at the end: ten times as much, and the digit.
pub digit_more : (a : List ℕ) (i : ℕ) → i < length a → number_in (take (suc i) a) ≡ 10 * number_in (take i a) + (get_or a i 0 - 48)
unfolding number_in number_from
digit_more a i h = ap (number_from 0) (take-suc a i 0 h) ∙ number_append 0 (take i a) (get_or a i 0 ∷ [])

pub part_smaller : (a : List ℕ) (i : ℕ) → number_in (take i a) ≤ number_in a
unfolding number_in
part_smaller a i =
    omega (arith, ap (number_from 0) (sym (take-append-drop i a)) ∙ number_append 0 (take i a) (drop i a), number_grows (number_from 0 (take i a)) (drop i a))

-- Whether a number is the one that digits spell: its last digit is theirs, and a tenth of it is what the others spell.
pub last_digit : (n m d : ℕ) → d < 10 → eqb n (10 * m + d) ≡ pick (eqb (n % 10) d) (eqb (n / 10) m) false
unfolding pick
last_digit n m d h =
    ⊎_elim
    (λ e. rw e
    (same_test (eqb n (10 * m + d)) (eqb (n / 10) m)
    (λ f. eq-eqb (n / 10) m (omega (arith, eqb-true n (10 * m + d) f)))
    (λ f. eq-eqb n (10 * m + d) (omega (arith, eqb-true (n / 10) m f, eqb-true (n % 10) d e)))))
    (λ e. rw e (ne_eqb n (10 * m + d) (λ f. eqb-false (n % 10) d e (omega (arith, f)))))
    (either (eqb (n % 10) d))

-- Three digits spell less than 1,000; a decimal of more spells more than 512.
pub three_digits : (a : List ℕ) → all is_digit a ≡ true → length a ≤ 3 → number_in a < 1000
unfolding number_in number_from
three_digits a h n = stays_ahead 0 1 a (48 ∷ 48 ∷ 48 ∷ []) (omega arith) n h

pub four_digits : (a : List ℕ) → is_decimal a ≡ true → 3 < length a → 512 < number_in a
unfolding is_decimal all is_digit between number_in number_from
four_digits a h n = fewer_digits (53 ∷ 49 ∷ 50 ∷ []) a refl h n

-- A decimal spells 0 exactly if its first digit is 0.
zero_test : (x n : ℕ) → (x ≡ 48 → n ≡ 0) → ((x ≡ 48 → ⊥) → 1 ≤ n) → eqb x 48 ≡ not (leb 1 n)
zero_test x n none more =
    ⊎_elim
    (λ e. e ∙ ap not (sym (lt-leb 1 n (omega (arith, none (eqb-true x 48 e))))))
    (λ e. e ∙ ap not (sym (le-leb 1 n (more (eqb-false x 48 e)))))
    (either (eqb x 48))

pub first_zero : (ds : List ℕ) → is_decimal ds ≡ true → eqb (get_or ds 0 0) 48 ≡ not (leb 1 (number_in ds))
unfolding is_decimal all number_in number_from
first_zero [] h = true_false (sym h)
first_zero (x ∷ []) h =
    let s = and_split (is_digit x && true) (not (eqb x 48) || true) h in
    let r = digit_range x (and_split (is_digit x) true s.0).0 in
    zero_test x (0 + (x - 48)) (λ e. omega (arith, e)) (λ ne. omega (arith, digit_above x r.0 ne))
first_zero (x ∷ y ∷ ys) h =
    let first = decimal_first x (y ∷ ys) h (omega arith) in
    zero_test x (number_from (0 + (x - 48)) (y ∷ ys)) (λ e. absurd (omega (arith, e))) (λ ne. omega (arith, number_grows (0 + (x - 48)) (y ∷ ys)))
