-- A bit that is set in a word, and the other bits; an option that is marked, and the other options.
use mathlib.Core.Bool.{true, false, ◌||◌, or_comm}
use mathlib.Core.List.{List}
use mathlib.Core.Logic.{⊎_elim}
use mathlib.Core.Path.{◌≡◌, refl, sym, ap, ap₂, ◌∙◌}
use Prim.Native.Nat.{ℕ, zero, suc, ◌+◌, ◌*◌, ◌/◌, ◌%◌, ◌^◌, ◌<◌, max}
use native.Mathlib.Nat.{pow-zero, pow-suc, mod-lt, zero-div, one-mul, suc_inj}
use native.Mathlib.Numerals.{one-add}
use native.Mathlib.Omega.{arith}
use borrow.Author.Tests.{eqb-true, eqb-false, eq-eqb, ne_eqb}
use lib.Bits.{bit_or, or_step}
use lib.Dec.{eqb}
use lib.ListN.{length, get_or, set, replicate}
use lib.Pow.{shl_exact, shr-shr}
use lib.Seq.{get_or-set_same, get_or-set_other}
use Rattle.theory_forms.specs.Logic.{either, same_test}
use Rattle.common_members.specs.Marks.{bit, marked}

-- The lowest bit; a higher one is a bit of the half.
bit_first : (x : ℕ) → bit 0 x ≡ eqb (x % 2) 1
unfolding bit
bit_first x = let whole : x / 2 ^ 0 ≡ x = rw (pow-zero 2) (omega arith) in rw whole

bit_next : (k x : ℕ) → bit (suc k) x ≡ bit k (x / 2)
unfolding bit
bit_next k x = ap (λ y. eqb (y % 2) 1) (ap (λ j. x / 2 ^ j) (sym (one-add k)) ∙ sym (shr-shr x 1 k))

bit_none : (k : ℕ) → bit k 0 ≡ false
unfolding bit
bit_none k = rw (zero-div)

-- The bits of two words put together are those of either.
either_digit : (p q : ℕ) → p < 2 → q < 2 → (eqb (max p q) 1 ≡ (eqb p 1 || eqb q 1)) × (max p q < 2)
either_digit zero zero h l = (refl, omega arith)
either_digit zero (suc zero) h l = (refl, omega arith)
either_digit zero (suc (suc q)) h l = absurd (omega arith)
either_digit (suc zero) zero h l = (refl, omega arith)
either_digit (suc zero) (suc zero) h l = (refl, omega arith)
either_digit (suc zero) (suc (suc q)) h l = absurd (omega arith)
either_digit (suc (suc p)) q h l = absurd (omega arith)

digits_of : (a b : ℕ) → (bit_or a b % 2 ≡ max (a % 2) (b % 2)) × (bit_or a b / 2 ≡ bit_or (a / 2) (b / 2))
digits_of a b =
    let low = (either_digit (a % 2) (b % 2) (mod-lt a (omega arith)) (mod-lt b (omega arith))).1 in
    let step = or_step a b in
    let h = bit_or (a / 2) (b / 2) in
    let m = max (a % 2) (b % 2) in
    (ap (λ y. y % 2) step ∙ omega_mod h m low, ap (λ y. y / 2) step ∙ omega_div h m low)
  where
    omega_mod : (h m : ℕ) → m < 2 → (h * 2 + m) % 2 ≡ m
    omega_mod h m l = omega arith

    omega_div : (h m : ℕ) → m < 2 → (h * 2 + m) / 2 ≡ h
    omega_div h m l = omega arith

bit_either : (k a b : ℕ) → bit k (bit_or a b) ≡ (bit k a || bit k b)
bit_either zero a b =
    bit_first (bit_or a b)
    ∙ ap (λ y. eqb y 1) (digits_of a b).0
    ∙ (either_digit (a % 2) (b % 2) (mod-lt a (omega arith)) (mod-lt b (omega arith))).0
    ∙ sym (ap₂ (λ p q. p || q) (bit_first a) (bit_first b))
bit_either (suc k) a b =
    bit_next k (bit_or a b)
    ∙ ap (bit k) (digits_of a b).1
    ∙ bit_either k (a / 2) (b / 2)
    ∙ sym (ap₂ (λ p q. p || q) (bit_next k a) (bit_next k b))

-- A power of two has one bit.
bit_power : (j k : ℕ) → bit j (2 ^ k) ≡ eqb j k
bit_power zero zero = bit_first 1
bit_power zero (suc k) =
    let even : 2 ^ suc k % 2 ≡ 0 = rw (pow-suc 2 k) (omega arith) in
    bit_first (2 ^ suc k) ∙ rw even (sym (ne_eqb 0 (suc k) (λ e. omega arith)))
bit_power (suc j) zero = bit_next j 1 ∙ bit_none j ∙ sym (ne_eqb (suc j) 0 (λ e. omega arith))
bit_power (suc j) (suc k) =
    let half : 2 ^ suc k / 2 ≡ 2 ^ k = rw (pow-suc 2 k) (omega arith) in
    bit_next j (2 ^ suc k)
    ∙ ap (bit j) half
    ∙ bit_power j k
    ∙ same_test (eqb j k) (eqb (suc j) (suc k))
    (λ e. eq-eqb (suc j) (suc k) (ap suc (eqb-true j k e)))
    (λ e. eq-eqb j k (suc_inj (eqb-true (suc j) (suc k) e)))

-- One, shifted so far.
pub one_shifted : (k : ℕ) → k < 64 → 1 * 2 ^ k % 2 ^ 64 ≡ 2 ^ k
one_shifted k h = shl_exact 1 k 64 (omega arith) (omega arith) ∙ one-mul (2 ^ k)

-- The option, beside others, by its word and its bit there.
same_bit : (v w : ℕ) → w / 64 ≡ v / 64 → eqb (w % 64) (v % 64) ≡ eqb w v
same_bit v w q =
    same_test (eqb (w % 64) (v % 64)) (eqb w v)
    (λ e. let r = eqb-true (w % 64) (v % 64) e in eq-eqb w v (omega arith))
    (λ e. eq-eqb (w % 64) (v % 64) (ap (λ y. y % 64) (eqb-true w v e)))

module _ (ms : List ℕ) (v : ℕ) where
  -- The option is marked by one bit more in its word.
  abbrev pub with_mark : List ℕ
  with_mark = set ms (v / 64) (bit_or (get_or ms (v / 64) 0) (2 ^ (v % 64)))

  pub marked_now : v / 64 < length ms → (w : ℕ) → marked with_mark w ≡ (eqb w v || marked ms w)
  unfolding marked
  marked_now l w = ⊎_elim in_word elsewhere (either (eqb (w / 64) (v / 64)))
    where
      word : ℕ
      word = bit_or (get_or ms (v / 64) 0) (2 ^ (v % 64))

      in_word : eqb (w / 64) (v / 64) ≡ true → bit (w % 64) (get_or with_mark (w / 64) 0) ≡ (eqb w v || bit (w % 64) (get_or ms (w / 64) 0))
      in_word e =
          let q = eqb-true (w / 64) (v / 64) e in
          let one = bit_either (w % 64) (get_or ms (v / 64) 0) (2 ^ (v % 64)) in
          rw (← same_bit v w q, q, get_or-set_same ms (v / 64) word 0 l, one, bit_power (w % 64) (v % 64))
          (or_comm (bit (w % 64) (get_or ms (v / 64) 0)) (eqb (w % 64) (v % 64)))

      elsewhere : eqb (w / 64) (v / 64) ≡ false → bit (w % 64) (get_or with_mark (w / 64) 0) ≡ (eqb w v || bit (w % 64) (get_or ms (w / 64) 0))
      elsewhere e =
          let n = eqb-false (w / 64) (v / 64) e in
          rw (get_or-set_other ms (v / 64) (w / 64) word 0 n, ne_eqb w v (λ s. n (ap (λ y. y / 64) s)))

  pub marked_before : marked ms v ≡ true → (w : ℕ) → marked ms w ≡ (eqb w v || marked ms w)
  marked_before h w =
      ⊎_elim (λ e. rw e (ap (marked ms) (eqb-true w v e) ∙ h)) (λ e. rw e) (either (eqb w v))

-- None is marked where every word is zero.
zeros_at : (n k : ℕ) → ◌≡◌ {A = ℕ} (get_or (replicate n 0) k 0) 0
zeros_at zero k = refl
zeros_at (suc n) zero = refl
zeros_at (suc n) (suc k) = zeros_at n k

pub marked_none : (n w : ℕ) → marked (replicate n 0) w ≡ false
unfolding marked
marked_none n w = rw (zeros_at n (w / 64)) (bit_none (w % 64))
