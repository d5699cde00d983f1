-- What the first word after a p line is, by its bytes: the 0 that closes a clause, a mark, or neither.
use Rattle.std.specs.Prelude.{Bool, true, false, ◌&&◌, not, ◌≡◌, leb, length, drop}
use mathlib.Core.List.{List, [], ◌∷◌, ◌++◌}
use Rattle.std.proofs.Math.Logic.{⊎_elim}
use Rattle.std.proofs.Math.Path.{refl, ap}
use Rattle.std.proofs.Common.{sym, ◌∙◌, arith, take-append-drop, length-take-le}
use Prim.Native.Nat.{ℕ, zero, suc, ◌-◌, ◌≤◌}
use borrow.Author.Tests.{eqb-true, ne_eqb, not-true, not-false}
use Rattle.std.proofs.Math.Dec.{eqb}
use Rattle.std.proofs.Math.ListN.{get_or, take}
use Rattle.std.proofs.Math.Seq.{drop-append_seam}
use Rattle.model.specs.Base.{pick, is_some, all, same_list}
use Rattle.model.specs.Book.{between}
use Rattle.model.specs.Literal.{literal}
use Rattle.texts.specs.Decimals.{is_digit, is_decimal, number_in}
use Rattle.texts.specs.ClauseFile.{is_blank, mark_by, mark_of_word, closes}
use Rattle.theory_forms.specs.Logic.{either, true_false, pick_true, pick_false, fails_if, is_some_only}
use Rattle.theory_forms.specs.Lists.{all_weaken}
use Rattle.theory_forms.specs.Placed.{same_list_is}
use Rattle.theory_texts.specs.Breaks.{breaks, words_after}
use Rattle.theory_texts.specs.Words.{first_word, is_solid, whole_word}
use Rattle.theory_texts.specs.Spans.{span_within}
use Rattle.theory_texts.specs.Figures.{digit_solid, break_no_digit, on_digit, run, run_digits, run_all}
use Rattle.theory_texts.specs.Numbers.{decimal_digits, decimal_first, first_zero}

-- A word that closes a clause is 1, a mark 2, another 0.
unfoldable pub kind_of_word : ℕ → List ℕ → ℕ
kind_of_word n w = pick (closes w) 1 (pick (is_some (mark_of_word n w)) 2 0)

unfoldable pub first_kind : ℕ → List (List ℕ) → ℕ
first_kind n [] = 0
first_kind n (w ∷ ws) = kind_of_word n w

-- By the digits after a minus, or without one: what "0" is by itself, and what another decimal is.
unfoldable pub kind_of_digits : ℕ → ℕ → List ℕ → ℕ
kind_of_digits zero_kind n ds =
    pick (is_decimal ds) (pick (eqb (get_or ds 0 0) 48) zero_kind (pick (leb (number_in ds) n) 2 0)) 0

-- Marks are the decimals from 1 to V.
is_mark : (n : ℕ) (barred : Bool) (ds : List ℕ) → is_some (mark_by n barred ds) ≡ (is_decimal ds && (leb 1 (number_in ds) && leb (number_in ds) n))
unfolding mark_by between
is_mark n barred ds = is_some_only (is_decimal ds && between 1 n (number_in ds)) (literal (number_in ds - 1) barred)

-- The tests of a word, for those that close nothing: d, a decimal; f, its first digit is 0; l, from 1; z, to V.
by_tests : (d f l z : Bool) → (d ≡ true → f ≡ not l) → pick {A = ℕ} (d && (l && z)) 2 0 ≡ pick d (pick f 0 (pick z 2 0)) 0
unfolding pick
by_tests true true l z e = let none : l ≡ false = not-true l (sym (e refl)) in rw none
by_tests true false l z e = let some : l ≡ true = not-false l (sym (e refl)) in rw some
by_tests false f l z e = refl

barred_kind : (n : ℕ) (ds : List ℕ) → kind_of_word n (45 ∷ ds) ≡ kind_of_digits 0 n ds
unfolding kind_of_word kind_of_digits closes same_list mark_of_word pick
barred_kind n ds =
    ap (λ b. pick b 2 0) (is_mark n true ds)
    ∙ by_tests (is_decimal ds) (eqb (get_or ds 0 0) 48) (leb 1 (number_in ds)) (leb (number_in ds) n) (first_zero ds)

-- A decimal that begins with 0 is "0", which closes; and that is a decimal.
pub closes_first : (w : List ℕ) → is_decimal w ≡ true → closes w ≡ eqb (get_or w 0 0) 48
unfolding closes same_list is_decimal
closes_first [] h = true_false (sym h)
closes_first (x ∷ []) h = and_true (eqb x 48)
  where
    and_true : (b : Bool) → (b && true) ≡ b
    and_true true = refl
    and_true false = refl
closes_first (x ∷ y ∷ ys) h =
    let no : eqb x 48 ≡ false = ne_eqb x 48 (λ e. omega (arith, decimal_first x (y ∷ ys) h (omega arith), e)) in rw no

closes_decimal : (w : List ℕ) → closes w ≡ true → is_decimal w ≡ true
unfolding closes is_decimal all is_digit between
closes_decimal w h = rw ((same_list_is w (48 ∷ [])).0 h)

-- The same for a word without a minus, where c says whether it closes.
closing_tests :
    (c d f l z : Bool) →
    (d ≡ true → c ≡ f) →
    (c ≡ true → d ≡ true) →
    (d ≡ true → f ≡ not l) →
    pick {A = ℕ} c 1 (pick (d && (l && z)) 2 0) ≡ pick d (pick f 1 (pick z 2 0)) 0
unfolding pick
closing_tests true d f l z a b e = rw (b refl, sym (a (b refl)))
closing_tests false true f l z a b e =
    let no : f ≡ false = sym (a refl) in let some : l ≡ true = not-false l (sym (e refl) ∙ no) in rw (no, some)
closing_tests false false f l z a b e = refl

plain_kind : (n : ℕ) (w : List ℕ) → eqb (get_or w 0 0) 45 ≡ false → kind_of_word n w ≡ kind_of_digits 1 n w
unfolding kind_of_word kind_of_digits mark_of_word pick is_some closes same_list is_decimal
plain_kind n [] h = refl
plain_kind n (x ∷ w) h =
    let ds : List ℕ = x ∷ w in
    let mark : mark_of_word n ds ≡ mark_by n false ds = rw h in
    ap (λ b. pick (closes ds) 1 (pick b 2 0)) (ap is_some mark ∙ is_mark n false ds)
    ∙ closing_tests (closes ds) (is_decimal ds) (eqb x 48) (leb 1 (number_in ds)) (leb (number_in ds) n)
    (closes_first ds) (closes_decimal ds) (first_zero ds)

-- A word by its bytes: the digits from its start, or after its minus, and what comes after them.
abbrev pub digits_of : List ℕ → List ℕ
digits_of b = take (run b) b

abbrev pub past_digits : List ℕ → List ℕ
past_digits b = drop (run b) b

pub barred_word : (c : List ℕ) → breaks (past_digits c) ≡ true → words_after (45 ∷ c) ≡ (45 ∷ digits_of c) ∷ words_after (past_digits c)
unfolding all is_solid is_blank
barred_word c e =
    ap (λ r. words_after (45 ∷ r)) (sym (take-append-drop (run c) c))
    ∙ whole_word (45 ∷ digits_of c) (past_digits c) (omega arith) (all_weaken is_digit is_solid digit_solid (digits_of c) (run_all c)) e

pub plain_word :
    (b : List ℕ) →
    breaks b ≡ false →
    breaks (past_digits b) ≡ true →
    words_after b ≡ digits_of b ∷ words_after (past_digits b)
plain_word b h e =
    ap words_after (sym (take-append-drop (run b) b))
    ∙ whole_word (digits_of b) (past_digits b) (go (run b) refl) (all_weaken is_digit is_solid digit_solid (digits_of b) (run_all b)) e
  where
    go : (k : ℕ) → run b ≡ k → 1 ≤ length (digits_of b)
    go zero f = true_false (sym e ∙ ap (λ k. breaks (drop k b)) f ∙ h)
    go (suc k) f = omega (arith, length-take-le (run b) b (span_within on_digit b), f)

-- Where something else than a blank or a line end follows the digits, no decimal is the first word.
no_decimal : (w r : List ℕ) → breaks r ≡ true → breaks (past_digits (w ++ r)) ≡ false → is_decimal w ≡ false
no_decimal w r e h =
    fails_if (is_decimal w) (λ d.
    let k = run_digits w r (decimal_digits w d) (break_no_digit r e) in
    true_false (sym e ∙ ap breaks (sym (drop-append_seam w r)) ∙ ap (λ n. breaks (drop n (w ++ r))) (sym k) ∙ h))

-- What the first word is, by its digits and what follows them; and what it is by its bytes, where no blank stands.
unfoldable pub kind_here : ℕ → ℕ → List ℕ → ℕ
kind_here zero_kind n b = pick (breaks (past_digits b)) (kind_of_digits zero_kind n (digits_of b)) 0

unfoldable pub kind_at : ℕ → List ℕ → ℕ
kind_at n b = pick (eqb (get_or b 0 0) 45) (kind_here 0 n (drop 1 b)) (kind_here 1 n b)

pub part_plain : (k : ℕ) (b : List ℕ) → eqb (get_or b 0 0) 45 ≡ false → eqb (get_or (take k b) 0 0) 45 ≡ false
part_plain zero b h = refl
part_plain (suc k) [] h = refl
part_plain (suc k) (x ∷ b) h = h

module _ (n : ℕ) where
  no_kind : (zero_kind : ℕ) (w : List ℕ) → is_decimal w ≡ false → kind_of_digits zero_kind n w ≡ 0
  unfolding kind_of_digits pick
  no_kind z w e = rw e

  -- The first word of other bytes than its digits is no number.
  other_barred : (c w r : List ℕ) → 45 ∷ c ≡ w ++ r → breaks r ≡ true → breaks (past_digits c) ≡ false → kind_of_word n w ≡ 0
  unfolding kind_of_word closes same_list mark_of_word is_some pick
  other_barred c [] r e f h = refl
  other_barred c (y ∷ w) r e f h =
      let first : y ≡ 45 = ap (λ l. get_or l 0 0) (sym e) in
      let rest : c ≡ w ++ r = ap (drop 1) e in
      rw first (barred_kind n w ∙ no_kind 0 w (no_decimal w r f (rw (← rest) h)))

  other_plain :
      (b w r : List ℕ) →
      eqb (get_or b 0 0) 45 ≡ false →
      b ≡ w ++ r →
      breaks r ≡ true →
      breaks (past_digits b) ≡ false →
      kind_of_word n w ≡ 0
  unfolding kind_of_word closes same_list mark_of_word is_some pick
  other_plain b [] r g e f h = refl
  other_plain b (y ∷ w) r g e f h =
      plain_kind n (y ∷ w) (ap (λ l. eqb (get_or l 0 0) 45) (sym e) ∙ g)
      ∙ no_kind 1 (y ∷ w) (no_decimal (y ∷ w) r f (rw (← e) h))

  barred_first : (c : List ℕ) → breaks (45 ∷ c) ≡ false → first_kind n (words_after (45 ∷ c)) ≡ kind_here 0 n c
  unfolding kind_here first_kind pick
  barred_first c h =
      ⊎_elim
      (λ e. ap (first_kind n) (barred_word c e) ∙ barred_kind n (digits_of c) ∙ rw e)
      (λ e.
      let f = first_word (45 ∷ c) h in
      ap (first_kind n) f.words ∙ other_barred c f.word f.rest f.both f.ended e ∙ rw e)
      (either (breaks (past_digits c)))

  plain_first : (b : List ℕ) → breaks b ≡ false → eqb (get_or b 0 0) 45 ≡ false → first_kind n (words_after b) ≡ kind_here 1 n b
  unfolding kind_here first_kind pick
  plain_first b h g =
      ⊎_elim
      (λ e. ap (first_kind n) (plain_word b h e) ∙ plain_kind n (digits_of b) (part_plain (run b) b g) ∙ rw e)
      (λ e.
      let f = first_word b h in
      ap (first_kind n) f.words ∙ other_plain b f.word f.rest g f.both f.ended e ∙ rw e)
      (either (breaks (past_digits b)))

  pub kind_read : (b : List ℕ) → breaks b ≡ false → first_kind n (words_after b) ≡ kind_at n b
  unfolding kind_at pick breaks
  kind_read [] h = true_false h
  kind_read (x ∷ b) h =
      ⊎_elim
      (λ e. let t = eqb-true x 45 e in rw (e, t) (barred_first b (ap (λ y. breaks (y ∷ b)) (sym t) ∙ h)))
      (λ e. plain_first (x ∷ b) h e ∙ rw e)
      (either (eqb x 45))

-- The bytes of a word: its minus, and its digits.
unfoldable pub word_length : List ℕ → ℕ
word_length b = pick (eqb (get_or b 0 0) 45) (suc (run (drop 1 b))) (run b)

pick_same : (b : Bool) → pick {A = ℕ} b 0 0 ≡ 0
unfolding pick
pick_same true = refl
pick_same false = refl

abbrev pub word_at : List ℕ → List ℕ
word_at b = take (word_length b) b

-- A word that is a number, and the words after it.
pub record NextWord (b : List ℕ) : Type 0 where
  pub words : words_after b ≡ word_at b ∷ words_after (drop (word_length b) b)
  pub some_byte : 1 ≤ word_length b

module _ (n : ℕ) where
  -- It ends with its digits, of which there is one.
  ended_here : (z : ℕ) (b : List ℕ) → (kind_here z n b ≡ 0 → ⊥) → breaks (past_digits b) ≡ true
  unfolding kind_here
  ended_here z b h =
      ⊎_elim (λ e. e) (λ e. absurd (h (pick_false (breaks (past_digits b)) (kind_of_digits z n (digits_of b)) 0 e)))
      (either (breaks (past_digits b)))

  digit_here : (z : ℕ) (b : List ℕ) → (kind_here z n b ≡ 0 → ⊥) → 1 ≤ run b
  unfolding kind_here kind_of_digits is_decimal pick
  digit_here z b h = go (run b) refl
    where
      go : (k : ℕ) → run b ≡ k → 1 ≤ run b
      go zero e = absurd (h (ap (λ k. pick (breaks (past_digits b)) (kind_of_digits z n (take k b)) 0) e ∙ pick_same (breaks (past_digits b))))
      go (suc k) e = omega (arith, e)

  -- These are a decimal.
  pub decimal_here : (z : ℕ) (b : List ℕ) → (kind_here z n b ≡ 0 → ⊥) → is_decimal (digits_of b) ≡ true
  unfolding kind_here
  decimal_here z b h =
      ⊎_elim
      (λ e. e)
      (λ e. absurd (h (ap (λ k. pick (breaks (past_digits b)) k 0) (no_kind n z (digits_of b) e) ∙ pick_same (breaks (past_digits b)))))
      (either (is_decimal (digits_of b)))

  pub next_word : (b : List ℕ) → breaks b ≡ false → (kind_at n b ≡ 0 → ⊥) → NextWord b
  unfolding kind_at word_length pick breaks
  next_word [] e h = true_false e
  next_word (x ∷ b) e h =
      ⊎_elim
      (λ f.
      let t = eqb-true x 45 f in
      let some : kind_here 0 n b ≡ 0 → ⊥ = λ z. h (pick_true (eqb x 45) (kind_here 0 n b) (kind_here 1 n (x ∷ b)) f ∙ z) in
      let long : word_length (x ∷ b) ≡ suc (run b) = pick_true (eqb x 45) (suc (run b)) (run (x ∷ b)) f in
      record {
        words =
            ap (λ y. words_after (y ∷ b)) t
            ∙ barred_word b (ended_here 0 b some)
            ∙ ap (λ y. (y ∷ digits_of b) ∷ words_after (past_digits b)) (sym t)
            ∙ ap (λ k. take k (x ∷ b) ∷ words_after (drop k (x ∷ b))) (sym long);
        some_byte = omega (arith, long);
      })
      (λ f.
      let some : kind_here 1 n (x ∷ b) ≡ 0 → ⊥ = λ z. h (pick_false (eqb x 45) (kind_here 0 n b) (kind_here 1 n (x ∷ b)) f ∙ z) in
      let long : word_length (x ∷ b) ≡ run (x ∷ b) = pick_false (eqb x 45) (suc (run b)) (run (x ∷ b)) f in
      record {
        words = plain_word (x ∷ b) e (ended_here 1 (x ∷ b) some) ∙ ap (λ k. take k (x ∷ b) ∷ words_after (drop k (x ∷ b))) (sym long);
        some_byte = omega (arith, long, digit_here 1 (x ∷ b) some);
      })
      (either (eqb x 45))
