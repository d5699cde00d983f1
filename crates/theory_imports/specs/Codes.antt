-- The codes of the options of a clause file: each is the letter V and a decimal, then zeros; no two are alike.
use Rattle.std.specs.Prelude.{true, false, ◌||◌, not, ◌≡◌, refl, eqb, drop, replicate}
use mathlib.Core.List.{List, [], ◌∷◌, ◌++◌, map, flatten}
use Rattle.std.proofs.Math.Option.{some}
use Rattle.std.proofs.Common.{sym, ap, ap₂, ◌∙◌, zero-add, add-zero, arith, ne_eqb, take_at, drop_at}
use Prim.Native.Nat.{ℕ, zero, suc, ◌+◌, ◌-◌, ◌*◌, ◌≤◌, ◌<◌}
use Rattle.std.proofs.Math.ListN.{length, length-append, length-replicate}
use Rattle.model.specs.Base.{pick, all, any, same_list}
use Rattle.model.specs.Limits.{code_length}
use Rattle.model.specs.Propagation.{count_from}
use Rattle.model.specs.Book.{between, character, then_zeros, code_ok, same_code, codes_ok, characters, option_of_code, pieces}
use Rattle.texts.specs.Decimals.{decimal, is_digit}
use Rattle.texts.specs.ClauseBook.{padded, code_of, codes_to}
use Rattle.theory_forms.specs.Logic.{true_false, and_split, and_join, or_left, or_right, fails_if, pick_true, pick_false}
use Rattle.theory_forms.specs.Lists.{all_weaken, all_replicate}
use Rattle.theory_forms.specs.Placed.{same_list_is}
use Rattle.theory_texts.specs.Decimals.{each_digit, decimal_inj, three_digits}

-- A digit is a character of codes, and no character is zero.
digit_character : (x : ℕ) → is_digit x ≡ true → character x ≡ true
unfolding is_digit character
digit_character x h = or_left (eqb x 45) (or_right (between 65 90 x || between 97 122 x) h)

-- Characters, then zeros: that is what a code is, and its characters are read off again.
zeros_end : (k : ℕ) → then_zeros (replicate k 0) ≡ true
unfolding then_zeros character between pick all
zeros_end zero = refl
zeros_end (suc k) = all_replicate (eqb 0) (suc k) 0 refl

characters_then_zeros : (xs : List ℕ) (k : ℕ) → all character xs ≡ true → then_zeros (xs ++ replicate k 0) ≡ true
unfolding then_zeros all
characters_then_zeros [] k h = zeros_end k
characters_then_zeros (x ∷ xs) k h =
    let s = and_split (character x) (all character xs) h in
    pick_true (character x) _ _ s.0 ∙ characters_then_zeros xs k s.1

zeros_none : (k : ℕ) → characters (replicate k 0) ≡ []
unfolding characters pick
zeros_none zero = refl
zeros_none (suc k) = refl

not_zero : (x : ℕ) → character x ≡ true → eqb x 0 ≡ false
unfolding character between
not_zero zero h = true_false (sym h)
not_zero (suc x) h = ne_eqb (suc x) 0 (λ e. absurd (omega arith))

characters_back : (xs : List ℕ) (k : ℕ) → all character xs ≡ true → characters (xs ++ replicate k 0) ≡ xs
unfolding characters all
characters_back [] k h = zeros_none k
characters_back (x ∷ xs) k h =
    let s = and_split (character x) (all character xs) h in
    pick_false (eqb x 0) _ _ (not_zero x s.0) ∙ ap (λ r. x ∷ r) (characters_back xs k s.1)

module _ (v : ℕ) where
  code_characters : all character (86 ∷ decimal v) ≡ true
  unfolding all character between
  code_characters = all_weaken is_digit character digit_character (decimal v) (each_digit v)

  pub code_is_ok : code_ok (code_of v) ≡ true
  unfolding code_ok code_of padded character between
  code_is_ok = characters_then_zeros (86 ∷ decimal v) (code_length - length (86 ∷ decimal v)) code_characters

  -- "The letter V and the decimal v", as characters alone.
  pub code_read : characters (code_of v) ≡ 86 ∷ decimal v
  unfolding code_of padded
  code_read = characters_back (86 ∷ decimal v) (code_length - length (86 ∷ decimal v)) code_characters

  pub length_code : v < 1000 → length (code_of v) ≡ code_length
  unfolding code_of padded
  length_code h =
      let d : List ℕ = 86 ∷ decimal v in
      omega (arith, three_digits v h, length-append d (replicate (code_length - length d) 0), length-replicate (code_length - length d) zero)

-- Codes of different options differ.
pub code_inj : (v w : ℕ) → code_of v ≡ code_of w → v ≡ w
code_inj v w e = decimal_inj v w (ap (drop 1) (sym (code_read v) ∙ ap characters e ∙ code_read w))

-- Each is found by its characters, at its place.
found_from : (w n k i : ℕ) → i < n → option_of_code (86 ∷ decimal (w + i)) k (map code_of (count_from w n)) ≡ some (k + i)
unfolding option_of_code count_from same_code
found_from w zero k i h = absurd (omega arith)
found_from w (suc n) k zero h =
    let same : same_list (86 ∷ decimal (w + 0)) (characters (code_of w)) ≡ true =
    (same_list_is (86 ∷ decimal (w + 0)) (characters (code_of w))).1 (ap (λ v. 86 ∷ decimal v) (add-zero w) ∙ sym (code_read w)) in
    pick_true _ _ _ same ∙ ap some (sym (add-zero k))
found_from w (suc n) k (suc i) h =
    let given : List ℕ = 86 ∷ decimal (w + suc i) in
    let other : same_list given (characters (code_of w)) ≡ false =
    fails_if (same_list given (characters (code_of w))) (λ e.
    absurd (omega (arith, decimal_inj (w + suc i) w (ap (drop 1) ((same_list_is given (characters (code_of w))).0 e ∙ code_read w))))) in
    let next : w + suc i ≡ suc w + i = omega arith in
    pick_false _ _ _ other
    ∙ ap (λ v. option_of_code (86 ∷ decimal v) (suc k) (map code_of (count_from (suc w) n))) next
    ∙ found_from (suc w) n (suc k) i (omega arith)
    ∙ ap some (omega arith)

pub code_found : (n v : ℕ) → 1 ≤ v → v ≤ n → option_of_code (86 ∷ decimal v) 0 (codes_to n) ≡ some (v - 1)
unfolding codes_to
code_found n v least most =
    let e : v ≡ 1 + (v - 1) = omega arith in
    ap (λ w. option_of_code (86 ∷ decimal w) 0 (codes_to n)) e
    ∙ found_from 1 n 0 (v - 1) (omega arith)
    ∙ ap some (zero-add (v - 1))

code_new : (v w n : ℕ) → v < w → any (same_code (code_of v)) (map code_of (count_from w n)) ≡ false
unfolding any count_from same_code
code_new v w zero h = refl
code_new v w (suc n) h =
    let other : same_code (code_of v) (code_of w) ≡ false =
    fails_if (same_code (code_of v) (code_of w)) (λ e. absurd (omega (arith, code_inj v w ((same_list_is (code_of v) (code_of w)).0 e)))) in
    rw other (code_new v (suc w) n (omega arith))

codes_from_ok : (v n : ℕ) → codes_ok (map code_of (count_from v n)) ≡ true
unfolding codes_ok count_from
codes_from_ok v zero = refl
codes_from_ok v (suc n) =
    and_join (and_join (code_is_ok v) (ap not (code_new v (suc v) n (omega arith)))) (codes_from_ok (suc v) n)

pub codes_to_ok : (n : ℕ) → codes_ok (codes_to n) ≡ true
unfolding codes_to
codes_to_ok n = codes_from_ok 1 n

-- Where every code has 13 bytes, the codes put together are cut into the codes again.
length_codes_from : (v n : ℕ) → v + n ≤ 1000 → length (flatten (map code_of (count_from v n))) ≡ code_length * n
unfolding count_from flatten
length_codes_from v zero h = refl
length_codes_from v (suc n) h =
    let both = length-append (code_of v) (flatten (map code_of (count_from (suc v) n))) in
    omega (arith, length_code v (omega arith), length_codes_from (suc v) n (omega arith))

pieces_from : (v n : ℕ) → v + n ≤ 1000 → pieces code_length n (flatten (map code_of (count_from v n))) ≡ map code_of (count_from v n)
unfolding pieces count_from flatten
pieces_from v zero h = refl
pieces_from v (suc n) h =
    let long = length_code v (omega arith) in
    let rest = flatten (map code_of (count_from (suc v) n)) in
    ap₂ ◌∷◌ (take_at (code_of v) rest code_length long)
    (ap (pieces code_length n) (drop_at (code_of v) rest code_length long) ∙ pieces_from (suc v) n (omega arith))

module _ (n : ℕ) (h : n < 1000) where
  pub length_codes : length (flatten (codes_to n)) ≡ code_length * n
  unfolding codes_to
  length_codes = length_codes_from 1 n (omega arith)

  pub pieces_codes : pieces code_length n (flatten (codes_to n)) ≡ codes_to n
  unfolding codes_to
  pieces_codes = pieces_from 1 n (omega arith)
