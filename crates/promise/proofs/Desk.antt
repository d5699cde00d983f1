-- The desk program writes what `DeskWrites` says, by demand 3 for the list of its keyings and its run.
use Rattle.std.specs.Prelude.{true, ◌≡◌, refl}
use mathlib.Core.List.{List, [], ◌∷◌, ◌++◌}
use Rattle.std.proofs.Math.Path.{sym, ap}
use Rattle.std.proofs.Common.{◌∙◌, arith}
use Prim.Native.Nat.{ℕ, ◌≤◌}
use Rattle.std.proofs.Math.ListN.{length, replicate, length-replicate}
use Rattle.model.specs.Limits.{sheet_length}
use Rattle.model.specs.Propagation.{Report, report}
use Rattle.model.specs.Sheet.{is_sheet}
use Rattle.model.specs.Book.{options_of, clauses_of_book}
use Rattle.calls.specs.Refusals.{sheet_refused}
use Rattle.calls.specs.Outcomes.{accepted, Outcome}
use Rattle.calls.specs.Chains.{load_refusal}
use Rattle.calls.specs.Calls.{check_of, load_of, run_of, report_of}
use Rattle.calls.specs.Lines.{State, counted}
use Rattle.calls.specs.History.{Call, run, after_call, after_calls, Account, loaded, account_call, account_calls}
use Rattle.calls.specs.History.{choice_clauses, meaning}
use Rattle.calls.specs.Index.{fresh_count}
use Rattle.calls.specs.Desk.{lines, go_on, all_keyed, with_no_lines, printed}
use Rattle.calls.specs.Desk.{desk_budget, screen_length, desk_of}
use Rattle.theory_forms.specs.Logic.{none_due}
use Rattle.theory_meaning.specs.ExactReports.{report_tells}
use Rattle.theory_index.specs.Right.{fresh_right}
use Rattle.theory_index.specs.WithIndex.{run_right}
use Rattle.call_laws.specs.Accepted.{accepted_due}
use Rattle.call_laws.specs.Effects.{run_outcome, after_append}
use Rattle.call_laws.specs.PlacedOutputs.{lines_placed}
use Rattle.call_laws.specs.Keyed.{Keyings, keyings_account, keyed_calls, keyed_append}
use Rattle.call_laws.specs.Rekeyed.{account_append}
use Rattle.promise.specs.Refusals.{check_none, accepted_exactly}
use Rattle.promise.specs.Reports.{reported}
use Rattle.promise.specs.Lists.{Demand3}
use Rattle.promise.proofs.Lists.{demand_3}
use Rattle.promise.specs.Desk.{DeskWrites}

module _ (book input : List ℕ) where
  abbrev load : Outcome (List ℕ) (Unit {0})
  load = load_of book (replicate sheet_length 0)

  abbrev first : State
  first = with_no_lines load.lent

  -- A book that is loaded is accepted.
  loaded_book : load.answer ≡ accepted tt → check_of book ≡ accepted tt
  unfolding load_of load_refusal
  loaded_book e =
      let none = (accepted_due (load_refusal book (replicate sheet_length 0)) tt tt _ _ (sym e)).0 in
      (check_none book).1 (none_due _ sheet_refused _ none).1

  -- Lines that are all accepted leave what a list of keyings leaves, so demand 3 speaks of the sheet, and of what a run makes of it.
  module _
      (good : load.answer ≡ accepted tt)
      (cs : List Call)
      (only : Keyings cs)
      (order : State)
      (e : order ≡ after_calls cs first)
    where
      abbrev s : List ℕ
      s = order.sheet

      abbrev done : (calls : List Call) → Demand3 book first calls
      unfolding with_no_lines
      done calls = demand_3 book (replicate sheet_length 0) _ 0 (loaded_book good) (length-replicate {A = ℕ} sheet_length 0) calls

      keyed_sheet : is_sheet s ≡ true
      keyed_sheet = rw e (done cs).means.is_a_sheet

      -- The account has the book that was loaded, and its choices are the lines that were keyed.
      abbrev account : Account
      account = account_calls cs first (loaded book first)

      same_book : account.book ≡ book
      unfolding with_no_lines
      same_book = (keyings_account only first (loaded book first) refl).0

      lines_chosen : account.choices ≡ counted order
      unfolding with_no_lines
      lines_chosen =
          (keyings_account only first (loaded book first) refl).1 ∙ sym (done cs).lines_are ∙ ap counted (sym e)

      -- What is told: the clauses of the book's bodies, and one for each line that was keyed.
      abbrev told : Report
      told = report (options_of book) (clauses_of_book book ++ choice_clauses (counted order))

      account_told : report (options_of account.book) (meaning account) ≡ told
      unfolding meaning
      account_told = λ i. report (options_of (same_book i)) (clauses_of_book (same_book i) ++ choice_clauses (lines_chosen i))

      -- The report fits the screen, since a book has no more options than the screen has bytes. (The desk keeps no index: its run does what
      -- one with the fresh count as its index does.)
      report_told : report_of (run_of s desk_budget).lent (replicate screen_length 0) ≡ reported told (replicate screen_length 0)
      unfolding after_calls after_call account_calls account_call screen_length
      report_told =
          let index = fresh_count s in
          let last : List Call = run index desk_budget ∷ [] in
          let screen : List ℕ = replicate screen_length 0 in
          let same_run = ap (λ o. o.lent.own) (run_right s index (fresh_right s) desk_budget) in
          let left : (after_calls (cs ++ last) first).sheet ≡ (run_of s desk_budget).lent = rw (after_append cs last first, ← e) same_run in
          let same : account_calls (cs ++ last) first (loaded book first) ≡ account = account_append cs last first (loaded book first) in
          let few = ((accepted_exactly book).0 (loaded_book good)).options in
          let room : options_of account.book ≤ length screen =
          rw same_book (omega (arith, few, length-replicate {A = ℕ} screen_length 0)) in
          (rw (left, same) at ((done (cs ++ last)).means.report_is screen (rw same room))) ∙ ap (λ r. reported r screen) account_told

  pub desk_writes : DeskWrites book input
  unfolding desk_of printed all_keyed go_on
  desk_writes =
      record {
        book_refused = λ r e. rw e;
        line_refused = λ before rest one r parts good fine e.
            rw (good, parts, keyed_append book before (one ∷ rest) first fine, e);
        all_accepted = λ good fine.
            let order = (all_keyed book (lines input) first).lent in
            let (cs, only, left) = keyed_calls book (lines input) first in
            let ran = ap (λ o. o.answer) (run_outcome order.sheet desk_budget (keyed_sheet good cs only order left)) in
            let says = report_told good cs only order left in
            let marks = (told good cs only order left).marks in
            let width = (report_tells (options_of book) (clauses_of_book book ++ choice_clauses (counted order))).width in
            record {
              ran = _;
              told = told good cs only order left;
              run_says = ran;
              report_says = says;
              told_is = refl;
              one_an_option = width;
              prints = rw (good, fine, ran, says, lines_placed book marks (replicate screen_length 0) width);
            };
      }
