-- Demand 3: what one theorem says of every list of keyings, withdrawals, single steps and runs, refused ones included, from a freshly
-- loaded sheet and any lines.
use Rattle.std.specs.Prelude.{true, List, ◌++◌, ◌↔◌, ◌≡◌, refl, ℕ, ◌≤◌, length}
use Rattle.model.specs.Literal.{Literal}
use Rattle.model.specs.Clauses.{Derived, Contradictory}
use Rattle.model.specs.Propagation.{report}
use Rattle.model.specs.Rules.{NoRule}
use Rattle.model.specs.Strategy.{most_steps}
use Rattle.model.specs.Limits.{sheet_length}
use Rattle.model.specs.Sheet.{options_in, nodes_in, is_sheet, is_unit, Falsum}
use Rattle.model.specs.Book.{options_of}
use Rattle.calls.specs.Outcomes.{accepted}
use Rattle.calls.specs.Calls.{check_of, load_of, report_of}
use Rattle.calls.specs.Lines.{Line, State, counted}
use Rattle.calls.specs.History.{Call, after_calls, Account, loaded, account_calls, meaning}
use Rattle.calls.specs.History.{is_stretch, steps_of, ends_settled}
use Rattle.call_laws.specs.Books.{accepted_book}
use Rattle.call_laws.specs.LoadingAndWriting.{load_accepted}
use Rattle.call_laws.specs.Effects.{Agrees, loaded_keeps}
use Rattle.promise.specs.Refusals.{check_none}
use Rattle.promise.specs.Reports.{reported, Reported}

-- "After the list the sheet reports what the loaded rules with all accepted choices mean, those keyed after a settled run too."
-- It is a sheet of the book's N, and a report on it, into any output of at least N bytes, is, byte for byte and in its result, the
-- propagation on the clauses of every body together with one clause for each accepted choice: the account that the list gives.
pub record Means (account : Account) (sheet : List ℕ) : Type 0 where
  pub is_a_sheet : is_sheet sheet ≡ true
  pub options : options_in sheet ≡ options_of account.book
  pub report_is :
      (out : List ℕ) →
      (out_has_room : options_of account.book ≤ length out) →
      report_of sheet out ≡ reported (report (options_of account.book) (meaning account)) out
  pub report_says :
      (out : List ℕ) →
      (out_has_room : options_of account.book ≤ length out) →
      Reported (options_of account.book) (meaning account) out (report_of sheet out)

-- "No rule applies to the sheet; it holds the lone contradiction exactly when those rules and choices are contradictory, and
-- otherwise its bare marks are exactly the forced ones."
pub record Normal (account : Account) (sheet : List ℕ) : Type 0 where
  pub no_rule : NoRule (nodes_in sheet)
  pub falsum : Falsum sheet ↔ Contradictory (meaning account)
  pub units :
      (consistent : Contradictory (meaning account) → ⊥) →
      (l : Literal) →
      (is_unit l sheet ≡ true) ↔ Derived (meaning account) l

-- "No stretch of the list without an accepted choice does more steps than the cube of n + 2l, for n nodes and l option marks at its
-- start." Every way to cut the list into what is before, the stretch and the rest. Document 02, U2: a stretch "holds no accepted
-- withdrawal either"; U4: "The step bound counts each kind 6 node twice."
abbrev pub Bounded : List Call → State → Type 0
Bounded calls start =
    (before stretch rest : List Call) →
    (calls_are : calls ≡ before ++ (stretch ++ rest)) →
    (nothing_rekeyed : is_stretch stretch (after_calls before start) ≡ true) →
    steps_of stretch (after_calls before start) ≤ most_steps (nodes_in (after_calls before start).sheet)

-- A list of calls on a state that begins with a freshly loaded book. The account is "reckoned from those first lines and the accepted
-- calls"; the counted lines are its ledger after every list.
pub record Demand3 (book : List ℕ) (start : State) (calls : List Call) : Type 0 where
  pub means : Means (account_calls calls start (loaded book start)) (after_calls calls start).sheet
  pub lines_are : counted (after_calls calls start) ≡ (account_calls calls start (loaded book start)).ledger
  pub settled :
      (said_settled : ends_settled calls start ≡ true) →
      Normal (account_calls calls start (loaded book start)) (after_calls calls start).sheet
  pub bounded : Bounded calls start

-- What is lent to the first call: the sheet as a load leaves it, and any lines.
abbrev pub order_of : List ℕ → List ℕ → List Line → ℕ → State
order_of book target lines count = record { sheet = (load_of book target).lent; lines = lines; count = count }

-- That state agrees with the account of a loaded book.
pub loaded_agrees :
    (book target : List ℕ) (lines : List Line) (count : ℕ) →
    check_of book ≡ accepted tt →
    length target ≡ sheet_length →
    let start = order_of book target lines count in
    Agrees (loaded book start) start
loaded_agrees book target lines count ok long =
    let fine = (check_none book).0 ok in
    rw (load_accepted book target fine long) (record { keeps = loaded_keeps book _ (accepted_book book fine); ledger = refl })
