-- The first word of those that are clauses: whether it closes one is told by its first byte, and else it is a mark, told by its digits.
use Rattle.std.specs.Prelude.{Bool, ◌&&◌, ◌≡◌, get_or, take, drop}
use Rattle.std.proofs.Math.Bool.{true, false}
use mathlib.Core.List.{List, [], ◌∷◌}
use Rattle.std.proofs.Common.{⊎_elim, ◌∙◌, arith, length-take-le, get_or-take}
use Rattle.std.proofs.Math.Option.{Option, none, some}
use Rattle.std.proofs.Math.Path.{refl, sym, ap}
use Prim.Native.Nat.{ℕ, ◌-◌, ◌≤◌, ◌<◌}
use borrow.Author.Tests.{eqb-true, eq-eqb, leb-true, le-leb}
use Rattle.std.proofs.Math.Dec.{eqb, leb}
use Rattle.std.proofs.Math.ListN.{length}
use Rattle.model.specs.Base.{pick, only_if, then, is_some, same_list}
use Rattle.model.specs.Book.{between}
use Rattle.model.specs.Clauses.{Clause}
use Rattle.model.specs.Literal.{Literal, literal}
use Rattle.texts.specs.Decimals.{is_decimal, number_in}
use Rattle.texts.specs.ClauseFile.{mark_by, mark_of_word, closes, with_mark, clauses_of_words}
use Rattle.theory_forms.specs.Logic.{either, true_false, none_some, pick_false, and_split, and_join, only_some, only_true}
use Rattle.theory_forms.specs.Placed.{same_list_is}
use Rattle.theory_texts.specs.Breaks.{breaks, words_after}
use Rattle.theory_texts.specs.Words.{first_word}
use Rattle.theory_texts.specs.Spans.{span_within}
use Rattle.theory_texts.specs.Figures.{on_digit, run}
use Rattle.theory_texts.specs.WordKinds.{
  kind_of_word,
  first_kind,
  kind_at,
  kind_read,
  closes_first,
  decimal_here,
  part_plain,
  digits_of,
  word_length,
  word_at,
  NextWord,
  next_word,
}

-- A mark by its digits: it is the same one where more options are.
pub record MarkBy (n : ℕ) (ds : List ℕ) : Type 0 where
  pub decimal : is_decimal ds ≡ true
  pub from_one : 1 ≤ number_in ds
  pub most : number_in ds ≤ n

module _ (n : ℕ) (barred : Bool) (ds : List ℕ) where
  pub mark_told : {m : Literal} → mark_by n barred ds ≡ some m → MarkBy n ds × (literal (number_in ds - 1) barred ≡ m)
  unfolding mark_by between
  mark_told e =
      let v = number_in ds in
      let (t, f) = only_some (is_decimal ds && between 1 n v) (literal (v - 1) barred) e in
      let s = and_split (is_decimal ds) (leb 1 v && leb v n) t in
      let r = and_split (leb 1 v) (leb v n) s.1 in
      (record { decimal = s.0; from_one = leb-true 1 v r.0; most = leb-true v n r.1 }, f)

  pub mark_made : MarkBy n ds → mark_by n barred ds ≡ some (literal (number_in ds - 1) barred)
  unfolding mark_by between
  mark_made m =
      let v = number_in ds in
      only_true (is_decimal ds && between 1 n v) (literal (v - 1) barred)
      (and_join m.decimal (and_join (le-leb 1 v m.from_one) (le-leb v n m.most)))

wider_by : (n k : ℕ) (barred : Bool) (ds : List ℕ) {m : Literal} → n ≤ k → mark_by n barred ds ≡ some m → mark_by k barred ds ≡ some m
wider_by n k barred ds h e =
    let (t, f) = mark_told n barred ds e in
    mark_made k barred ds (record { decimal = t.decimal; from_one = t.from_one; most = omega (arith, t.most) }) ∙ ap some f

pub mark_wider : (n k : ℕ) (w : List ℕ) {m : Literal} → n ≤ k → mark_of_word n w ≡ some m → mark_of_word k w ≡ some m
unfolding mark_of_word pick
mark_wider n k [] h e = none_some e
mark_wider n k (x ∷ w) {m} h e = go (eqb x 45) e
  where
    go :
        (b : Bool) →
        pick b (mark_by n true w) (mark_by n false (x ∷ w)) ≡ some m →
        pick b (mark_by k true w) (mark_by k false (x ∷ w)) ≡ some m
    go true f = wider_by n k true w h f
    go false f = wider_by n k false (x ∷ w) h f

-- The mark that the first word is: by the digits after its minus, or by its own.
module _ (n : ℕ) where
  pub barred_mark : (b : List ℕ) → eqb (get_or b 0 0) 45 ≡ true → mark_of_word n (word_at b) ≡ mark_by n true (digits_of (drop 1 b))
  unfolding word_length mark_of_word pick
  barred_mark [] h = true_false (sym h)
  barred_mark (x ∷ b) h = rw h (rw h)

  plain_part : (w : List ℕ) → eqb (get_or w 0 0) 45 ≡ false → mark_of_word n w ≡ mark_by n false w
  unfolding mark_of_word mark_by is_decimal only_if pick
  plain_part [] h = refl
  plain_part (x ∷ w) h = rw h

  pub plain_mark : (b : List ℕ) → eqb (get_or b 0 0) 45 ≡ false → mark_of_word n (word_at b) ≡ mark_by n false (digits_of b)
  unfolding word_length
  plain_mark b h =
      ap (λ k. mark_of_word n (take k b)) (pick_false _ _ _ h) ∙ plain_part (digits_of b) (part_plain (run b) b h)

  -- A word with a minus closes nothing.
  barred_open : (b : List ℕ) → eqb (get_or b 0 0) 45 ≡ true → closes (word_at b) ≡ eqb (get_or b 0 0) 48
  unfolding word_length closes same_list pick
  barred_open [] h = true_false (sym h)
  barred_open (x ∷ b) h = rw (eqb-true x 45 h)

  -- A word that neither closes a clause nor is a mark makes no clauses.
  some_kind : (w : List ℕ) (ws : List (List ℕ)) {cs : List Clause} → clauses_of_words n (w ∷ ws) ≡ some cs → kind_of_word n w ≡ 0 → ⊥
  unfolding clauses_of_words kind_of_word then pick is_some
  some_kind w ws e = go (clauses_of_words n ws) (closes w) (mark_of_word n w) e
    where
      go :
          (o : Option (List Clause)) (c : Bool) (m : Option Literal) {cs : List Clause} →
          then o (λ cs. pick c (some ([] ∷ cs)) (then m (λ l. with_mark l cs))) ≡ some cs →
          pick {A = ℕ} c 1 (pick (is_some m) 2 0) ≡ 0 →
          ⊥
      go none c m f z = none_some f
      go (some cs) true m f z = absurd (omega (arith, z))
      go (some cs) false none f z = none_some f
      go (some cs) false (some l) f z = absurd (omega (arith, z))

  module _ (b : List ℕ) (here : breaks b ≡ false) {cs : List Clause} (read : clauses_of_words n (words_after b) ≡ some cs) where
    kind_known : kind_at n b ≡ 0 → ⊥
    unfolding first_kind
    kind_known z =
        let f = first_word b here in
        some_kind f.word (words_after f.rest) (ap (clauses_of_words n) (sym f.words) ∙ read)
        (ap (first_kind n) (sym f.words) ∙ kind_read n b here ∙ z)

    -- So it is a word, with those after it.
    pub word_read : NextWord b
    word_read = next_word n b here kind_known

    plain_length : eqb (get_or b 0 0) 45 ≡ false → word_length b ≡ run b
    unfolding word_length
    plain_length e = pick_false _ _ _ e

    plain_decimal : eqb (get_or b 0 0) 45 ≡ false → is_decimal (digits_of b) ≡ true
    unfolding kind_at
    plain_decimal e = decimal_here n 1 b (λ z. kind_known (pick_false _ _ _ e ∙ z))

    -- It closes a clause exactly if its first byte is 0; then it has no other.
    pub closing : closes (word_at b) ≡ eqb (get_or b 0 0) 48
    closing =
        ⊎_elim
        (barred_open b)
        (λ e.
        let some : 0 < run b = omega (arith, word_read.some_byte, plain_length e) in
        ap (λ k. closes (take k b)) (plain_length e)
        ∙ closes_first (digits_of b) (plain_decimal e)
        ∙ ap (λ x. eqb x 48) (get_or-take (run b) b 0 0 some))
        (either (eqb (get_or b 0 0) 45))

    pub zero_long : get_or b 0 0 ≡ 48 → word_length b ≡ 1
    unfolding closes
    zero_long e =
        let long = plain_length (ap (λ x. eqb x 45) e) in
        let zero : word_at b ≡ 48 ∷ [] = (same_list_is (word_at b) (48 ∷ [])).0 (closing ∙ eq-eqb (get_or b 0 0) 48 e) in
        sym (length-take-le (word_length b) b (omega (arith, long, span_within on_digit b))) ∙ ap length zero
