-- Demand 3: one theorem about every list of keyings, withdrawals, single steps and runs, refused ones included, from a freshly loaded
-- sheet and any lines.
use Rattle.std.specs.Prelude.{List, ◌≡◌, ℕ, ◌≤◌, length}
use mathlib.Core.Logic.Iff
use Rattle.std.proofs.Common.{ap, ◌∙◌}
use Rattle.model.specs.Clauses.{Contradictory}
use Rattle.model.specs.Propagation.{report}
use Rattle.model.specs.Limits.{sheet_length}
use Rattle.model.specs.Sheet.{clauses_in}
use Rattle.model.specs.Book.{options_of}
use Rattle.calls.specs.Outcomes.{accepted}
use Rattle.calls.specs.Calls.{check_of, report_of}
use Rattle.calls.specs.Lines.{Line, State}
use Rattle.calls.specs.History.{Call, after_calls, Account, loaded, account_calls, meaning}
use Rattle.theory_rewriting.specs.Steps.{steps_bound}
use Rattle.call_laws.specs.Valuations.{same_report, same_contradictory, same_derived}
use Rattle.theory_forms.specs.Sheets.{sheet_shaped}
use Rattle.call_laws.specs.Effects.{Keeps, Agrees, calls_effect}
use Rattle.call_laws.specs.SettledLists.{ends_no_rule, sheet_normal}
use Rattle.promise.specs.Reports.{reported, report_given, propagation_exact}
use Rattle.promise.specs.Lists.{Demand3, order_of, loaded_agrees}

-- The theorem from any state whose sheet keeps a book's rules.
from_rules :
    (book : List ℕ) (start : State) →
    Agrees (loaded book start) start →
    (calls : List Call) →
    Demand3 book start calls
from_rules book start h calls =
    record {
      means =
          record {
            is_a_sheet = k.sheet;
            options = k.options;
            report_is = given;
            report_says = λ out room.
                rw (given out room) (propagation_exact (options_of account.book) (meaning account) out room);
          };
      lines_are = there_agrees.ledger;
      settled = λ q.
          let calm = ends_no_rule calls start (loaded book start) h q in
          let normal = sheet_normal left k.sheet calm in
          record {
            no_rule = calm;
            falsum = Iff.trans normal.0 (same_contradictory k.models);
            units = λ fine l.
                let fine_here : Contradictory (clauses_in left) → ⊥ = λ c. fine ((same_contradictory k.models).0 c) in
                Iff.trans (normal.1 fine_here l) (same_derived k.models fine_here l);
          };
      bounded = λ before stretch rest parts quiet.
          let b = (calls_effect before start (loaded book start) h).agrees in
          let there = after_calls before start in
          let done = (calls_effect stretch there (account_calls before start (loaded book start)) b).steps quiet in
          steps_bound (sheet_shaped there.sheet b.keeps.sheet) done;
    }
  where
    left : List ℕ
    left = (after_calls calls start).sheet

    account : Account
    account = account_calls calls start (loaded book start)

    there_agrees : Agrees account (after_calls calls start)
    there_agrees = (calls_effect calls start (loaded book start) h).agrees

    k : Keeps account left
    k = there_agrees.keeps

    given :
        (out : List ℕ) →
        options_of account.book ≤ length out →
        report_of left out ≡ reported (report (options_of account.book) (meaning account)) out
    given out room =
        report_given left out k.sheet (rw k.options room)
        ∙ ap (λ r. reported r out) (rw k.options (same_report k.models (options_of account.book)))

-- "For every list of choices, single steps and runs, refused ones included, from a freshly loaded sheet, each on the sheet that the
-- one before left": every accepted book, every target that a load fills, every list of calls with any arguments. Document 02, U2:
-- "Withdrawals, refused ones too, now stand in the list of demand 3, which starts with any lent lines." U5: every call names an index of
-- its own, any numbers.
pub demand_3 :
    (book target : List ℕ) (lines : List Line) (count : ℕ) →
    (book_accepted : check_of book ≡ accepted tt) →
    (target_long_enough : length target ≡ sheet_length) →
    (calls : List Call) →
    Demand3 book (order_of book target lines count) calls
demand_3 book target lines count ok long calls =
    from_rules book (order_of book target lines count) (loaded_agrees book target lines count ok long) calls
