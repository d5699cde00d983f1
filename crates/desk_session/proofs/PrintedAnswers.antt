-- What is printed, by the answers of the calls, and the room that it takes.
use mathlib.Core.Bool.{Bool, true, false}
use mathlib.Core.List.{List, [], ◌++◌, append-nil}
use mathlib.Core.Option.{Option, none, some}
use mathlib.Core.Path.{◌≡◌, refl, sym, ap, ◌∙◌}
use Prim.Native.Nat.{ℕ, ◌+◌, ◌-◌, ◌*◌, ◌≤◌, ◌<◌}
use native.Mathlib.Omega.{arith}
use borrow.Author.Tests.{eq-eqb, lt-ltb, le-ltb}
use borrow.Author.Rules.{part_to_end}
use lib.Dec.{ltb}
use lib.ListN.{length, take, drop, replicate}
use Rattle.model.specs.Base.{pick, first_of, only_if}
use Rattle.model.specs.Limits.{sheet_length, most_options}
use Rattle.model.specs.Book.{options_of, codes_of, pieces, book_nodes}
use Rattle.model.specs.Sheet.{sheet_of}
use Rattle.calls.specs.Refusals.{Refusal, refusal_number}
use Rattle.calls.specs.Outcomes.{Answer, refused, accepted, Outcome, outcome}
use Rattle.calls.specs.Chains.{book_refusal, load_refusal}
use Rattle.calls.specs.Calls.{Ran, load_of, run_of, report_of}
use Rattle.texts.specs.Decimals.{decimal}
use Rattle.calls.specs.Desk.{lines, all_keyed, with_no_lines, line, printed, refused_word, contradiction_word, settled_word}
use Rattle.calls.specs.Desk.{stopped_word, first_line, option_lines, desk_budget, screen_length, desk_of}
use Rattle.call_laws.specs.Books.{accepted_book}
use Rattle.call_laws.specs.PlacedOutputs.{lines_first}
use Rattle.call_answers.specs.AnswerMeaning.{after_call, on_sheet}
use Rattle.call_books.proofs.BookTests.{codes_room}
use Rattle.common_decimal.specs.Placed.{after, filled}
use Rattle.theory_texts.specs.Decimals.{twenty_digits}
use Rattle.common_decimal.proofs.PlacedBytes.{placed_within}
use Rattle.desk_printing.proofs.PlacedLines.{length_line}
use Rattle.desk_session.specs.Session.{told_lines, ran_lines, session_of}

-- The room of an accepted book's codes.
module _ (book : List ℕ) (good : book_refusal book ≡ none) where
  pub few_options : options_of book ≤ most_options
  few_options = (accepted_book book good).options

  pub codes_fit : 8 + 13 * options_of book ≤ length book
  unfolding options_of
  codes_fit = codes_room book (options_of book) good refl

-- The lines of its options, by its codes and the first marks, as they are lent.
pub lines_lent :
    (book marks : List ℕ) {n m : ℕ} →
    n ≡ options_of book →
    m ≡ n →
    option_lines (pieces 13 m (take (length book - 8) (drop 8 book))) (take n marks) ≡ option_lines (codes_of book) marks
unfolding codes_of
lines_lent book marks e f = rw (part_to_end book 8, f, e) (lines_first 13 (options_of book) (drop 8 book) marks)

-- A first line has a word of at most 13 letters, a space, at most 20 digits and its end.
short_word : (c s : Bool) → length (pick c contradiction_word (pick s settled_word stopped_word)) ≤ 13
unfolding contradiction_word settled_word stopped_word pick
short_word true s = omega arith
short_word false true = omega arith
short_word false false = omega arith

pub short_first : (c : Bool) (ran : Ran) → ran.count < 18446744073709551616 → length (first_line c ran) ≤ 35
unfolding first_line
short_first c ran h =
    omega (
      arith,
      length_line (pick c contradiction_word (pick ran.settled settled_word stopped_word)) (decimal ran.count),
      short_word c ran.settled,
      twenty_digits ran.count h,
    )

-- What is printed of a report, by its answer.
module _ (book : List ℕ) (ran : Ran) (marks : List ℕ) (told : Outcome (List ℕ) Bool) where
  pub told_consistent :
      after_call (accepted false) marks ≡ told →
      first_line false ran ++ option_lines (codes_of book) marks ≡ told_lines book ran told
  unfolding told_lines printed pick
  told_consistent e = rw (← e)

  pub told_contradictory : after_call (accepted true) marks ≡ told → first_line true ran ≡ told_lines book ran told
  unfolding told_lines printed pick
  told_contradictory e = rw (← e) (sym (append-nil (first_line true ran)))

  pub told_refused :
      (r : Refusal) →
      after_call (refused r) marks ≡ told →
      line refused_word (decimal (refusal_number r)) ≡ told_lines book ran told
  unfolding told_lines printed
  told_refused r e = rw (← e)

-- What is printed of a run, by its answer.
module _ (book s : List ℕ) (done : Outcome (List ℕ) Ran) where
  pub ran_accepted :
      (ran : Ran) →
      after_call (accepted ran) s ≡ done →
      told_lines book ran (report_of s (replicate screen_length 0)) ≡ ran_lines book done
  unfolding ran_lines printed
  ran_accepted ran e = rw (← e)

  pub ran_refused : (r : Refusal) → after_call (refused r) s ≡ done → line refused_word (decimal (refusal_number r)) ≡ ran_lines book done
  unfolding ran_lines printed
  ran_refused r e = rw (← e)

-- What is printed of the choices, and of the book.
unfoldable pub chosen_lines : List ℕ → Outcome (List ℕ) (Unit {0}) → List ℕ
chosen_lines book chosen = printed chosen.answer (λ v. ran_lines book (run_of chosen.lent desk_budget))

unfoldable pub loaded_lines : List ℕ → List ℕ → Outcome (List ℕ) (Unit {0}) → List ℕ
loaded_lines book input loaded =
    printed loaded.answer (λ u. chosen_lines book (on_sheet (all_keyed book (lines input) (with_no_lines loaded.lent))))

pub desk_is : (book input : List ℕ) → loaded_lines book input (load_of book (replicate sheet_length 0)) ≡ desk_of book input
unfolding loaded_lines chosen_lines ran_lines told_lines desk_of
desk_is book input = refl

module _ (book input s : List ℕ) (loaded : Answer (Unit {0})) (load : after_call loaded s ≡ load_of book (replicate sheet_length 0)) where
  pub load_refused : (r : Refusal) → loaded ≡ refused r → printed loaded (λ u. []) ≡ desk_of book input
  unfolding loaded_lines printed
  load_refused r e = rw (← desk_is book input, ← load, e)

  -- With an accepted book.
  module _
      (done : loaded ≡ accepted tt)
      (s' : List ℕ)
      (chosen : Answer (Unit {0}))
      (key : after_call chosen s' ≡ on_sheet (all_keyed book (lines input) (with_no_lines s)))
    where
      through : chosen_lines book (after_call chosen s') ≡ desk_of book input
      unfolding loaded_lines printed
      through =
          let all : chosen_lines book (on_sheet (all_keyed book (lines input) (with_no_lines s))) ≡ desk_of book input =
          rw (← desk_is book input, ← load, done) in
          ap (chosen_lines book) key ∙ all

      pub keys_refused : (r : Refusal) → chosen ≡ refused r → printed chosen (λ u. []) ≡ desk_of book input
      unfolding chosen_lines printed
      keys_refused r e = rw e (rw e at through)

      pub keys_accepted : chosen ≡ accepted tt → ran_lines book (run_of s' desk_budget) ≡ desk_of book input
      unfolding chosen_lines printed
      keys_accepted e = rw e at through

-- A book that was loaded is accepted.
pub loaded_good :
    (book target l : List ℕ) →
    length target ≡ sheet_length →
    after_call (accepted tt) l ≡ load_of book target →
    book_refusal book ≡ none
unfolding load_of load_refusal outcome first_of only_if
loaded_good book target l h e = go (book_refusal book) (rw (eq-eqb (length target) sheet_length h) at e)
  where
    go :
        (o : Option Refusal) →
        after_call (accepted (tt {0})) l ≡ outcome o (tt {0}) target (sheet_of (options_of book) (book_nodes book)) →
        o ≡ none
    go none f = refl
    go (some r) f =
        let g : accepted (tt {0}) ≡ refused r = ap (λ o. o.answer) f in
        let z : ◌≡◌ {A = ℕ} 0 1 = cc in absurd (omega arith)

-- Where it is printed.
module _ (book input out : List ℕ) where
  pub session_short : length out < 16384 → after 0 out ≡ session_of book input out
  unfolding session_of pick
  session_short h = rw (lt-ltb (length out) 16384 h)

  pub session_printed : {bytes : List ℕ} → 16384 ≤ length out → bytes ≡ desk_of book input → filled bytes out ≡ session_of book input out
  unfolding session_of pick
  session_printed h e = rw (le-ltb (length out) 16384 h, e)

  -- Whatever is printed stands in the buffer.
  pub session_within : {r : ℕ} {l : List ℕ} → after r l ≡ session_of book input out → r ≤ length l
  unfolding session_of pick
  session_within {r} {l} e = go (ltb (length out) 16384) e
    where
      go : (t : Bool) → after r l ≡ pick t (after 0 out) (filled (desk_of book input) out) → r ≤ length l
      go true f = omega (arith, ap (λ w. w.count) f)
      go false f = placed_within (desk_of book input) out f
