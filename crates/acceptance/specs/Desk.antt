-- The desk program: what it writes for the bytes of a book and of its standard input.
use Rattle.std.specs.Prelude.{true, List, [], ◌∷◌, ◌++◌, map, ◌↔◌, ◌≡◌, ℕ, ◌<◌, length, replicate, get_or}
use Rattle.model.specs.Base.{pick, placed}
use Rattle.model.specs.Literal.{pos, neg}
use Rattle.model.specs.Clauses.{Clause, Derived, Contradictory}
use Rattle.model.specs.Propagation.{Report, report}
use Rattle.model.specs.Book.{options_of, codes_of, clauses_of_book}
use Rattle.texts.specs.Decimals.{decimal}
use Rattle.calls.specs.Refusals.{Refusal, refusal_number}
use Rattle.calls.specs.Outcomes.{refused, accepted}
use Rattle.calls.specs.Lines.{State, counted}
use Rattle.calls.specs.Calls.{Ran, load_of, run_of, report_of}
use Rattle.calls.specs.History.{choice_clauses}
use Rattle.calls.specs.Desk.{lines, keyed, all_keyed, with_no_lines, line, refused_word, first_line, option_lines}
use Rattle.calls.specs.Desk.{desk_budget, screen_length, desk_of}
use Rattle.theory_meaning.specs.ExactReports.{report_tells}
use Rattle.promise.proofs.Desk as desks

-- The program "reads `book.bin`", "then choices from standard input, one a line"; it "keys them in order, then makes one run with a budget
-- of 100,000". Document 02, U2: it "begins with an empty list".
module _ (book input : List ℕ) where
  abbrev first : State
  first = with_no_lines (load_of book (replicate 4098 0)).lent

  -- "A refusal prints only `refused` and its number, a space between, and ends the program": the book's,
  pub book_refused :
      (r : Refusal) →
      (load_refused : (load_of book (replicate 4098 0)).answer ≡ refused r) →
      desk_of book input ≡ line refused_word (decimal (refusal_number r))
  book_refused = (desks.desk_writes book input).book_refused

  -- or that of the first line that is refused.
  pub line_refused :
      (before rest : List (List ℕ)) (one : List ℕ) (r : Refusal) →
      (lines_are : lines input ≡ before ++ (one ∷ rest)) →
      (load_accepted : (load_of book (replicate 4098 0)).answer ≡ accepted tt) →
      (earlier_accepted : (all_keyed book before first).answer ≡ accepted tt) →
      (one_refused : (keyed book one (all_keyed book before first).lent).answer ≡ refused r) →
      desk_of book input ≡ line refused_word (decimal (refusal_number r))
  line_refused = (desks.desk_writes book input).line_refused

  module _
      (load_accepted : (load_of book (replicate 4098 0)).answer ≡ accepted tt)
      (lines_accepted : (all_keyed book (lines input) first).answer ≡ accepted tt)
    where
      -- The order as it was keyed; what the book and the keyed lines mean, "the clauses of every body, and for each accepted choice the
      -- clause of its mark alone"; and the report of these clauses.
      abbrev order : State
      order = (all_keyed book (lines input) first).lent

      abbrev cs : List Clause
      cs = clauses_of_book book ++ map (λ l. l ∷ []) (counted order)

      abbrev told : Report
      told = report (options_of book) cs

      -- "Line 1: contradiction if reported, else settled or stopped; a space; the steps. Then, unless contradictory, a line for each
      -- option: code, space, in, out or open."
      pub prints_what_the_order_means :
          (ran : Ran)
          × ((run_of order.sheet 100000).answer ≡ accepted ran)
          × (report_of (run_of order.sheet 100000).lent (replicate 512 0)
          ≡ record { answer = accepted told.contradictory; lent = placed told.marks (replicate 512 0) })
          × (desk_of book input
          ≡ first_line told.contradictory ran ++ pick told.contradictory [] (option_lines (codes_of book) told.marks))
      unfolding choice_clauses desk_budget screen_length
      prints_what_the_order_means =
          let w = (desks.desk_writes book input).all_accepted load_accepted lines_accepted in
          (w.ran, w.run_says, rw (← w.told_is) w.report_says, rw (← w.told_is) w.prints)

      -- So "contradiction" stands there exactly if the book and the keyed lines are contradictory, and otherwise an option is in, out or
      -- open exactly if they derive it so.
      pub what_is_told :
          (length told.marks ≡ options_of book)
          × ((told.contradictory ≡ true) ↔ Contradictory cs)
          × ((consistent : Contradictory cs → ⊥) →
          (v : ℕ) →
          (is_option : v < options_of book) →
          ((get_or told.marks v 0 ≡ 1) ↔ Derived cs (pos v))
          × ((get_or told.marks v 0 ≡ 2) ↔ Derived cs (neg v))
          × ((get_or told.marks v 0 ≡ 0) ↔ ((Derived cs (pos v) → ⊥) × (Derived cs (neg v) → ⊥))))
      what_is_told =
          let t = report_tells (options_of book) cs in
          (t.width, t.conflicts, λ fine v h. (t.is_in fine v h, t.is_out fine v h, t.is_open fine v h))
