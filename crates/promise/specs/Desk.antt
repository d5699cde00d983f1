-- The desk program, in terms of the calls: what it writes for the bytes of a book and of its standard input.
use Rattle.std.specs.Prelude.{◌≡◌}
use mathlib.Core.List.{List, [], ◌∷◌, ◌++◌}
use Prim.Native.Nat.{ℕ}
use Rattle.std.proofs.Math.ListN.{length, replicate}
use Rattle.model.specs.Base.{pick}
use Rattle.model.specs.Limits.{sheet_length}
use Rattle.model.specs.Propagation.{Report, report}
use Rattle.model.specs.Book.{options_of, codes_of, clauses_of_book}
use Rattle.texts.specs.Decimals.{decimal}
use Rattle.calls.specs.Refusals.{Refusal, refusal_number}
use Rattle.calls.specs.Outcomes.{refused, accepted, Outcome}
use Rattle.calls.specs.Calls.{Ran, load_of, run_of, report_of}
use Rattle.calls.specs.Lines.{State, counted}
use Rattle.calls.specs.History.{choice_clauses}
use Rattle.calls.specs.Desk.{lines, keyed, all_keyed, with_no_lines, line, refused_word}
use Rattle.calls.specs.Desk.{first_line, option_lines, desk_budget, screen_length, desk_of}
use Rattle.promise.specs.Reports.{reported}

-- "A refusal prints only `refused` and its number, a space between."
abbrev pub refusal_line : Refusal → List ℕ
refusal_line r = line refused_word (decimal (refusal_number r))

-- The run and the report on the order as it was keyed, both accepted, and what is written: "Line 1: contradiction if reported, else
-- settled or stopped; a space; the steps. Then, unless contradictory, a line for each option: code, space, in, out or open." The report is
-- that of the clauses of the book's bodies, and of one for each line that was keyed.
pub record Printed (book : List ℕ) (order : State) (written : List ℕ) : Type 0 where
  pub ran : Ran
  pub told : Report
  pub run_says : (run_of order.sheet desk_budget).answer ≡ accepted ran
  pub report_says :
      report_of (run_of order.sheet desk_budget).lent (replicate screen_length 0) ≡ reported told (replicate screen_length 0)
  pub told_is : told ≡ report (options_of book) (clauses_of_book book ++ choice_clauses (counted order))
  pub one_an_option : length told.marks ≡ options_of book
  pub prints :
      written
      ≡ first_line told.contradictory ran
      ++ pick told.contradictory [] (option_lines (codes_of book) told.marks)

-- The program "reads `book.bin`", "then choices from standard input, one a line"; it "keys them in order, then makes one run with a
-- budget of 100,000". A refusal "ends the program": the first that is met, of the book or of a line.
module _ (book input : List ℕ) where
  abbrev load : Outcome (List ℕ) (Unit {0})
  load = load_of book (replicate sheet_length 0)

  -- What the first line is keyed on. Document 02, U2: "The desk program begins with an empty list."
  abbrev first : State
  first = with_no_lines load.lent

  pub record DeskWrites : Type 0 where
    pub book_refused :
        (r : Refusal) →
        (load_refused : load.answer ≡ refused r) →
        desk_of book input ≡ refusal_line r
    pub line_refused :
        (before rest : List (List ℕ)) (one : List ℕ) (r : Refusal) →
        (lines_are : lines input ≡ before ++ (one ∷ rest)) →
        (load_accepted : load.answer ≡ accepted tt) →
        (earlier_accepted : (all_keyed book before first).answer ≡ accepted tt) →
        (one_refused : (keyed book one (all_keyed book before first).lent).answer ≡ refused r) →
        desk_of book input ≡ refusal_line r
    pub all_accepted :
        (load_accepted : load.answer ≡ accepted tt) →
        (lines_accepted : (all_keyed book (lines input) first).answer ≡ accepted tt) →
        Printed book (all_keyed book (lines input) first).lent (desk_of book input)
