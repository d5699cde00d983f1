-- A text from a place on: past its blanks, past its digits, past its first word.
use Rattle.std.specs.Prelude.{true, false, ◌≡◌, ℕ, suc, ◌+◌, ◌-◌, ◌≤◌, ◌<◌, eqb, length, get_or, take, drop}
use mathlib.Core.List.{List, [], flatten}
use Rattle.std.proofs.Common.{sym, ◌∙◌, arith, length-drop, drop_of_length-le, drop-drop}
use Rattle.std.proofs.Math.Path.{ap}
use Rattle.model.specs.Base.{all}
use Rattle.texts.specs.Decimals.{is_digit}
use Rattle.texts.specs.ClauseFile.{parts, plain_ends, lines, with_word, not_empty, words_of_line}
use Rattle.theory_forms.specs.Logic.{pick_true, pick_false}
use Rattle.theory_texts.specs.Breaks.{breaks, words_after}
use Rattle.theory_texts.specs.Words.{blanks_passed}
use Rattle.theory_texts.specs.Spans.{span, span_fails}
use Rattle.theory_texts.specs.Figures.{run, run_all}
use Rattle.theory_texts.specs.WordKinds.{digits_of, past_digits, word_length}

-- Past blanks from a place on: the same words, and one of them here, or the end.
module _ (l : List ℕ) (from at : ℕ) (far : at ≡ from + span breaks (drop from l)) where
  pub words_same : words_after (drop at l) ≡ words_after (drop from l)
  words_same =
      ap (λ k. words_after (drop k l)) far
      ∙ ap words_after (sym (drop-drop (span breaks (drop from l)) from l))
      ∙ blanks_passed (drop from l)

  pub word_here : at < length l → breaks (drop at l) ≡ false
  word_here h =
      ap (λ k. breaks (drop k l)) far
      ∙ ap breaks (sym (drop-drop (span breaks (drop from l)) from l))
      ∙ span_fails breaks (drop from l) (omega (arith, far, length-drop from l))

-- At the end no word is left.
pub words_ended : (l : List ℕ) (at : ℕ) → length l ≤ at → words_after (drop at l) ≡ []
unfolding words_after flatten lines parts plain_ends words_of_line not_empty with_word
words_ended l at h = ap words_after (drop_of_length-le l h)

-- The digits from a place on, to the place after them.
module _ (l : List ℕ) (from end : ℕ) (far : end ≡ from + run (drop from l)) where
  pub digits_between : take (end - from) (drop from l) ≡ digits_of (drop from l)
  digits_between = let e : end - from ≡ run (drop from l) = omega (arith, far) in ap (λ k. take k (drop from l)) e

  pub all_between : all is_digit (take (end - from) (drop from l)) ≡ true
  all_between = ap (all is_digit) digits_between ∙ run_all (drop from l)

  pub rest_after : drop end l ≡ past_digits (drop from l)
  rest_after = ap (λ k. drop k l) far ∙ sym (drop-drop (run (drop from l)) from l)

-- A word with a minus ends after the digits that follow it, another after its own.
module _ (l : List ℕ) (at : ℕ) where
  pub after_minus : drop (at + 1) l ≡ drop 1 (drop at l)
  after_minus = sym (drop-drop 1 at l)

  pub barred_end : eqb (get_or (drop at l) 0 0) 45 ≡ true → at + 1 + run (drop (at + 1) l) ≡ at + word_length (drop at l)
  unfolding word_length
  barred_end e =
      omega (arith, ap run after_minus, pick_true (eqb (get_or (drop at l) 0 0) 45) (suc (run (drop 1 (drop at l)))) (run (drop at l)) e)

  pub plain_end : eqb (get_or (drop at l) 0 0) 45 ≡ false → at + run (drop at l) ≡ at + word_length (drop at l)
  unfolding word_length
  plain_end e = ap (λ k. at + k) (sym (pick_false _ _ _ e))
