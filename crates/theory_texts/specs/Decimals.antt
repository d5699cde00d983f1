-- The decimal digits of a number: those of a tenth of it, and the last. How many there are, that they are digits without a leading zero,
-- and that they spell the number.
use Rattle.std.specs.Prelude.{true, not, List, [], ◌∷◌, ◌++◌, ◌≡◌, refl, ℕ, zero, suc, ◌+◌, ◌*◌, ◌/◌, ◌%◌, ◌≤◌, ◌<◌, eqb, ltb, length, get_or}
use Rattle.std.proofs.Common.{sym, ◌∙◌, ⊎_elim, arith, lt-ltb, le-ltb, ltb-true, ltb-false, le-leb, ne_eqb, length-append}
use Rattle.std.proofs.Math.Path.{ap}
use Rattle.std.proofs.Math.ListN.{get_or-append}
use Rattle.model.specs.Base.{pick, all}
use Rattle.model.specs.Book.{between}
use Rattle.texts.specs.Decimals.{digits, decimal, is_digit, is_decimal, number_from, number_in}
use Rattle.theory_forms.specs.Logic.{either, and_join, or_left}
use Rattle.theory_forms.specs.Lists.{all_append}
use Rattle.theory_texts.specs.Numbers.{number_append}

module _ (most n : ℕ) where
  pub digits_small : n < 10 → digits (suc most) n ≡ (48 + n) ∷ []
  unfolding digits pick
  digits_small h = rw (lt-ltb n 10 h)

  pub digits_large : 10 ≤ n → digits (suc most) n ≡ digits most (n / 10) ++ ((48 + n % 10) ∷ [])
  unfolding digits pick
  digits_large h = rw (le-ltb n 10 h)

-- Any bound on their number that is large enough gives the same digits.
pub enough : (m k n : ℕ) → n < m → n < k → digits m n ≡ digits k n
enough zero k n p q = absurd (omega arith)
enough (suc m) zero n p q = absurd (omega arith)
enough (suc m) (suc k) n p q =
    ⊎_elim
    (λ e. let h : n < 10 = ltb-true n 10 e in digits_small m n h ∙ rw (digits_small k n h))
    (λ e.
    let h : 10 ≤ n = ltb-false n 10 e in
    digits_large m n h ∙ rw (digits_large k n h, enough m k (n / 10) (omega arith) (omega arith)))
    (either (ltb n 10))

module _ (n : ℕ) where
  pub decimal_small : n < 10 → decimal n ≡ (48 + n) ∷ []
  unfolding decimal
  decimal_small h = digits_small n n h

  pub decimal_large : 10 ≤ n → decimal n ≡ decimal (n / 10) ++ ((48 + n % 10) ∷ [])
  unfolding decimal
  decimal_large h =
      digits_large n n h ∙ ap (λ r. r ++ ((48 + n % 10) ∷ [])) (enough n (suc (n / 10)) (n / 10) (omega arith) (omega arith))

  pub length_small : n < 10 → length (decimal n) ≡ 1
  length_small h = ap length (decimal_small h)

  pub length_large : 10 ≤ n → length (decimal n) ≡ length (decimal (n / 10)) + 1
  length_large h = ap length (decimal_large h) ∙ length-append (decimal (n / 10)) ((48 + n % 10) ∷ [])

-- A number below a power of ten has at most so many digits.
unfoldable pub ten_to : ℕ → ℕ
ten_to zero = 10
ten_to (suc k) = 10 * ten_to k

pub few_digits : (k n : ℕ) → n < ten_to k → length (decimal n) ≤ k + 1
unfolding ten_to
few_digits zero n h = omega (arith, length_small n h)
few_digits (suc k) n h =
    ⊎_elim
    (λ e. omega (arith, length_small n (ltb-true n 10 e)))
    (λ e. omega (arith, length_large n (ltb-false n 10 e), few_digits k (n / 10) (omega arith)))
    (either (ltb n 10))

-- So one below 1,000 has at most three, and one of 64 bits at most twenty.
pub three_digits : (n : ℕ) → n < 1000 → length (decimal n) ≤ 3
unfolding ten_to
three_digits n h = few_digits 2 n (omega arith)

pub twenty_digits : (n : ℕ) → n < 18446744073709551616 → length (decimal n) ≤ 20
unfolding ten_to
twenty_digits n h = few_digits 19 n (omega arith)

-- A number's digits spell it; so two numbers of the same digits are one.
spelled : (m n : ℕ) → n < m → number_in (decimal n) ≡ n
unfolding number_in number_from
spelled zero n h = absurd (omega arith)
spelled (suc m) n h =
    ⊎_elim
    (λ e. ap (number_from 0) (decimal_small n (ltb-true n 10 e)) ∙ omega arith)
    (λ e.
    let tenth : number_from 0 (decimal (n / 10)) ≡ n / 10 = spelled m (n / 10) (omega (arith, ltb-false n 10 e)) in
    ap (number_from 0) (decimal_large n (ltb-false n 10 e))
    ∙ number_append 0 (decimal (n / 10)) ((48 + n % 10) ∷ [])
    ∙ omega (arith, tenth))
    (either (ltb n 10))

pub decimal_number : (n : ℕ) → number_in (decimal n) ≡ n
decimal_number n = spelled (suc n) n (omega arith)

pub decimal_inj : (m n : ℕ) → decimal m ≡ decimal n → m ≡ n
decimal_inj m n e = sym (decimal_number m) ∙ ap number_in e ∙ decimal_number n

-- Each is a digit, and the first of a number other than 0 is not the digit 0.
pub digit_is : (d : ℕ) → d < 10 → is_digit (48 + d) ≡ true
unfolding is_digit between
digit_is d h = and_join (le-leb 48 (48 + d) (omega arith)) (le-leb (48 + d) 57 (omega arith))

all_digits : (m n : ℕ) → n < m → all is_digit (decimal n) ≡ true
unfolding all
all_digits zero n h = absurd (omega arith)
all_digits (suc m) n h =
    ⊎_elim
    (λ e. ap (all is_digit) (decimal_small n (ltb-true n 10 e)) ∙ and_join (digit_is n (ltb-true n 10 e)) refl)
    (λ e.
    ap (all is_digit) (decimal_large n (ltb-false n 10 e))
    ∙ all_append is_digit (decimal (n / 10)) ((48 + n % 10) ∷ [])
    ∙ and_join (all_digits m (n / 10) (omega (arith, ltb-false n 10 e))) (and_join (digit_is (n % 10) (omega arith)) refl))
    (either (ltb n 10))

pub each_digit : (n : ℕ) → all is_digit (decimal n) ≡ true
each_digit n = all_digits (suc n) n (omega arith)

some_digit : (m n : ℕ) → n < m → (0 < length (decimal n)) × (0 < n → 48 < get_or (decimal n) 0 0)
some_digit zero n h = absurd (omega arith)
some_digit (suc m) n h =
    ⊎_elim
    (λ e. (omega (arith, length_small n (ltb-true n 10 e)), λ p. rw (decimal_small n (ltb-true n 10 e)) (omega arith)))
    (λ e.
    let large : 10 ≤ n = ltb-false n 10 e in
    let tenth = some_digit m (n / 10) (omega arith) in
    let first : get_or (decimal n) 0 0 ≡ get_or (decimal (n / 10)) 0 0 =
    ap (λ l. get_or l 0 0) (decimal_large n large) ∙ get_or-append (decimal (n / 10)) ((48 + n % 10) ∷ []) 0 0 tenth.0 in
    (omega (arith, length_large n large), λ p. rw first (tenth.1 (omega arith))))
    (either (ltb n 10))

pub decimal_some : (n : ℕ) → 0 < length (decimal n)
decimal_some n = (some_digit (suc n) n (omega arith)).0

-- So a number's digits are a number "without leading zeros".
by_first : (l : List ℕ) → all is_digit l ≡ true → 48 < get_or l 0 0 → is_decimal l ≡ true
unfolding is_decimal
by_first [] d h = absurd (omega arith)
by_first (x ∷ xs) d h = and_join d (or_left (eqb (length xs) 0) (ap not (ne_eqb x 48 (λ e. absurd (omega arith)))))

pub decimal_is : (n : ℕ) → is_decimal (decimal n) ≡ true
unfolding is_decimal is_digit decimal digits pick all between
decimal_is zero = refl
decimal_is (suc n) =
    by_first (decimal (suc n)) (each_digit (suc n)) ((some_digit (suc (suc n)) (suc n) (omega arith)).1 (omega arith))
