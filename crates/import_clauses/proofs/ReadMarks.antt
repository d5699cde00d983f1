-- A mark read from its digits, and from its word.
use mathlib.Core.Bool.{Bool, true, false}
use mathlib.Core.List.{List}
use mathlib.Core.Option.{some}
use mathlib.Core.Path.{◌≡◌, sym, ap, ◌∙◌}
use Prim.Native.Nat.{ℕ, ◌+◌, ◌-◌, ◌≤◌, ◌<◌}
use native.Mathlib.Omega.{arith}
use borrow.Author.Tests.{eq-eqb, ne_eqb}
use lib.Dec.{eqb}
use lib.ListN.{get_or, take, drop}
use Rattle.model.specs.Base.{is_some, all}
use Rattle.model.specs.Limits.{most_options}
use Rattle.model.specs.Literal.{literal}
use Rattle.texts.specs.Decimals.{is_digit, number_in}
use Rattle.texts.specs.ClauseFile.{mark_by, mark_of_word}
use Rattle.theory_forms.specs.Logic.{is_some_of}
use Rattle.theory_texts.specs.Figures.{run}
use Rattle.theory_texts.specs.WordKinds.{digits_of, word_length, word_at}
use Rattle.theory_texts.specs.FromPlaces.{digits_between, all_between, after_minus, barred_end, plain_end}
use Rattle.theory_texts.specs.Marks.{MarkBy, mark_told, mark_made, barred_mark, plain_mark}
use Rattle.import_bytes.proofs.Places.{first_here}

-- The digits between two places, which are a mark.
module _
    (l : List ℕ) (from end : ℕ) (barred : Bool)
    (far : end ≡ from + run (drop from l))
    (asked : is_some (mark_by most_options barred (digits_of (drop from l))) ≡ true)
  where
    abbrev ds : List ℕ
    ds = take (end - from) (drop from l)

    one_of : MarkBy most_options (digits_of (drop from l))
    one_of =
        let (m, e) = is_some_of (mark_by most_options barred (digits_of (drop from l))) asked in
        (mark_told most_options barred (digits_of (drop from l)) e).0

    same_number : number_in ds ≡ number_in (digits_of (drop from l))
    same_number = ap number_in (digits_between l from end far)

    pub digits_small : (all is_digit ds ≡ true) × (number_in ds < 1000)
    digits_small = (all_between l from end far, omega (arith, same_number, one_of.most))

    module _ (v : ℕ) (told : v ≡ number_in ds) where
      pub number_some : 1 ≤ v
      number_some = omega (arith, told, same_number, one_of.from_one)

      pub mark_read : mark_by most_options barred (digits_of (drop from l)) ≡ some (literal (v - 1) barred)
      mark_read =
          mark_made most_options barred (digits_of (drop from l)) one_of
          ∙ ap (λ k. some (literal (k - 1) barred)) (sym (told ∙ same_number))

-- A word with a minus, and one without.
module _ (l : List ℕ) (at : ℕ) where
  pub with_minus :
      get_or l at 0 ≡ 45 →
      (mark_of_word most_options (word_at (drop at l)) ≡ mark_by most_options true (digits_of (drop (at + 1) l)))
      × (at + 1 + run (drop (at + 1) l) ≡ at + word_length (drop at l))
  with_minus e =
      let first : eqb (get_or (drop at l) 0 0) 45 ≡ true = eq-eqb _ 45 (first_here l at ∙ e) in (
        barred_mark most_options (drop at l) first ∙ ap (λ b. mark_by most_options true (digits_of b)) (sym (after_minus l at)),
        barred_end l at first,
      )

  pub without_minus :
      (get_or l at 0 ≡ 45 → ⊥) →
      (mark_of_word most_options (word_at (drop at l)) ≡ mark_by most_options false (digits_of (drop at l)))
      × (at + run (drop at l) ≡ at + word_length (drop at l))
  without_minus e =
      let first : eqb (get_or (drop at l) 0 0) 45 ≡ false = ap (λ x. eqb x 45) (first_here l at) ∙ ne_eqb (get_or l at 0) 45 e in
      (plain_mark most_options (drop at l) first, plain_end l at first)
