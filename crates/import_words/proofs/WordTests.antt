-- What a word is, by the tests of its bytes one after another.
use mathlib.Core.Bool.{true, false}
use mathlib.Core.List.{List, [], ◌∷◌}
use mathlib.Core.Path.{◌≡◌, sym, ap, ◌∙◌}
use Prim.Native.Nat.{ℕ, ◌+◌, ◌-◌, ◌<◌}
use native.Mathlib.Omega.{arith}
use borrow.Author.Tests.{eq-eqb, ne_eqb}
use lib.Dec.{eqb, leb}
use lib.ListN.{length, get_or, take, drop}
use Rattle.model.specs.Base.{pick}
use Rattle.texts.specs.Decimals.{is_decimal, number_in}
use Rattle.theory_forms.specs.Logic.{true_false, pick_true, pick_false}
use Rattle.theory_texts.specs.Breaks.{breaks}
use Rattle.theory_texts.specs.Figures.{run}
use Rattle.theory_texts.specs.WordKinds.{kind_of_digits, kind_here, kind_at, word_length, past_digits}
use Rattle.theory_texts.specs.FromPlaces.{digits_between, rest_after, after_minus, barred_end, plain_end}
use Rattle.import_bytes.proofs.Places.{first_here}

module _ (z n : ℕ) (ds : List ℕ) where
  pub no_number : is_decimal ds ≡ false → 0 ≡ kind_of_digits z n ds
  unfolding kind_of_digits pick
  no_number e = rw e

  pub zero_alone : is_decimal ds ≡ true → get_or ds 0 0 ≡ 48 → z ≡ kind_of_digits z n ds
  unfolding kind_of_digits pick
  zero_alone e f = rw (e, eq-eqb (get_or ds 0 0) 48 f)

  pub mark_here : is_decimal ds ≡ true → (get_or ds 0 0 ≡ 48 → ⊥) → leb (number_in ds) n ≡ true → 2 ≡ kind_of_digits z n ds
  unfolding kind_of_digits pick
  mark_here e f g = rw (e, ne_eqb (get_or ds 0 0) 48 f, g)

  pub over_here : is_decimal ds ≡ true → (get_or ds 0 0 ≡ 48 → ⊥) → leb (number_in ds) n ≡ false → 0 ≡ kind_of_digits z n ds
  unfolding kind_of_digits pick
  over_here e f g = rw (e, ne_eqb (get_or ds 0 0) 48 f, g)

pub some_digit : (ds : List ℕ) → is_decimal ds ≡ true → 0 < length ds
unfolding is_decimal
some_digit [] h = true_false (sym h)
some_digit (x ∷ ds) h = omega arith

-- The digits from a place on, to the place after them: what they are by what follows.
module _ (l : List ℕ) (from end : ℕ) (far : end ≡ from + run (drop from l)) (z n : ℕ) where
  ending : breaks (drop end l) ≡ breaks (past_digits (drop from l))
  ending = ap breaks (rest_after l from end far)

  pub not_ended : breaks (drop end l) ≡ false → 0 ≡ kind_here z n (drop from l)
  unfolding kind_here
  not_ended h = sym (pick_false _ _ _ (sym ending ∙ h))

  pub kind_ended : breaks (drop end l) ≡ true → kind_of_digits z n (take (end - from) (drop from l)) ≡ kind_here z n (drop from l)
  unfolding kind_here
  kind_ended h = ap (kind_of_digits z n) (digits_between l from end far) ∙ sym (pick_true _ _ _ (sym ending ∙ h))

-- A word with a minus, and one without.
module _ (l : List ℕ) (at : ℕ) (n : ℕ) where
  pub with_minus : get_or l at 0 ≡ 45 → (kind_here 0 n (drop (at + 1) l) ≡ kind_at n (drop at l))
      × ((at + 1) + run (drop (at + 1) l) ≡ at + word_length (drop at l))
  unfolding kind_at
  with_minus e =
      let first : eqb (get_or (drop at l) 0 0) 45 ≡ true = eq-eqb _ 45 (first_here l at ∙ e) in
      (ap (kind_here 0 n) (after_minus l at) ∙ sym (pick_true _ _ _ first), barred_end l at first)

  pub without_minus : (get_or l at 0 ≡ 45 → ⊥) → (kind_here 1 n (drop at l) ≡ kind_at n (drop at l))
      × (at + run (drop at l) ≡ at + word_length (drop at l))
  unfolding kind_at
  without_minus e =
      let first : eqb (get_or (drop at l) 0 0) 45 ≡ false = ap (λ x. eqb x 45) (first_here l at) ∙ ne_eqb (get_or l at 0) 45 e in
      (sym (pick_false _ _ _ first), plain_end l at first)
