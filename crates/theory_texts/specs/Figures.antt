-- Digits at the start of a text, and the numbers that they spell.
use Rattle.std.specs.Prelude.{Bool, true, false, ◌||◌, List, [], ◌∷◌, ◌++◌, ◌≡◌, refl, ℕ, suc, ◌≤◌, eqb, leb, length, get_or, take}
use Rattle.std.proofs.Common.{⊎_elim, ap, arith, eqb-true, ne_eqb, leb-true}
use Rattle.model.specs.Base.{pick, all}
use Rattle.model.specs.Book.{between}
use Rattle.texts.specs.Decimals.{is_digit}
use Rattle.texts.specs.ClauseFile.{is_blank}
use Rattle.theory_forms.specs.Logic.{either, and_split, or_split}
use Rattle.theory_texts.specs.Breaks.{breaks, before_end}
use Rattle.theory_texts.specs.Words.{is_solid}
use Rattle.theory_texts.specs.Spans.{span}

pub digit_range : (x : ℕ) → is_digit x ≡ true → (48 ≤ x) × (x ≤ 57)
unfolding is_digit between
digit_range x h =
    let s = and_split (leb 48 x) (leb x 57) h in (leb-true 48 x s.0, leb-true x 57 s.1)

pub digit_solid : (x : ℕ) → is_digit x ≡ true → is_solid x ≡ true
unfolding is_solid is_blank
digit_solid x h =
    let r = digit_range x h in
    rw (ne_eqb x 32 (λ e. omega arith), ne_eqb x 9 (λ e. omega arith), ne_eqb x 10 (λ e. omega arith), ne_eqb x 13 (λ e. omega arith))

-- Blanks and line ends are no digits.
pub break_no_digit : (b : List ℕ) → breaks b ≡ true → is_digit (get_or b 0 0) ≡ false
unfolding breaks before_end is_blank is_digit between
break_no_digit [] h = refl
break_no_digit (x ∷ b) h =
    ⊎_elim
    (λ e. ⊎_elim
    (λ f. ⊎_elim (λ g. rw (eqb-true x 32 g)) (λ g. rw (eqb-true x 9 g)) (or_split (eqb x 32) (eqb x 9) f))
    (λ f. rw (eqb-true x 10 f))
    (or_split (is_blank x) (eqb x 10) e))
    (λ e. rw (eqb-true x 13 (and_split (eqb x 13) (eqb (get_or b 0 0) 10) e).0))
    (or_split (is_blank x || eqb x 10) (before_end x b) h)

-- The digits that a text begins with.
abbrev pub on_digit : List ℕ → Bool
on_digit b = is_digit (get_or b 0 0)

abbrev pub run : List ℕ → ℕ
run b = span on_digit b

pub run_digits : (ds r : List ℕ) → all is_digit ds ≡ true → on_digit r ≡ false → run (ds ++ r) ≡ length ds
unfolding span all pick is_digit between
run_digits [] [] h e = refl
run_digits [] (x ∷ r) h e = rw e
run_digits (x ∷ ds) r h e =
    let s = and_split (is_digit x) (all is_digit ds) h in rw s.0 (ap suc (run_digits ds r s.1 e))

pub run_all : (b : List ℕ) → all is_digit (take (run b) b) ≡ true
unfolding span all pick
run_all [] = refl
run_all (x ∷ b) =
    ⊎_elim
    (λ e. rw e (rw e (run_all b)))
    (λ e. rw e)
    (either (is_digit x))
