-- Document 02, U6: "A sheet is complete from now on if it is not contradictory and every option that some rule of the loaded book or some
-- choice names is marked 1 or 2."
use Rattle.std.specs.Prelude.{Bool, true, false, List, ◌⊎◌, ◌↔◌, ◌≡◌, ℕ, ◌<◌, length}
use mathlib.Core.Logic.Iff
use Rattle.model.specs.Literal.{pos, neg}
use Rattle.model.specs.Clauses.{Clause, Derived, Contradictory}
use Rattle.model.specs.Propagation as propagation
use Rattle.model.specs.Sheet.{options_in, is_sheet, clauses_in, report_in}
use Rattle.model.specs.Book.{options_of}
use Rattle.calls.specs.Refusals.{sheet_refused}
use Rattle.calls.specs.Outcomes.{refused, accepted}
use Rattle.calls.specs.Lines.{Line, State, counted}
use Rattle.calls.specs.Named.{is_named}
use Rattle.calls.specs.Conditions.{has_lines_in_order}
use Rattle.calls.specs.Calls.{check_of, load_of, complete_of}
use Rattle.calls.specs.History.{Call, after_calls, Account, loaded, account_calls, meaning}
use Rattle.promise.specs.Complete as promised
use Rattle.promise.proofs.Complete.{complete_as_pair}

-- The clauses of n options are not contradictory, and every option that is named is derived in or out.
abbrev pub Complete : ℕ → List Clause → (ℕ → Bool) → Type 0
Complete n cs named =
    (Contradictory cs → ⊥)
    × ((v : ℕ) →
    (is_option : v < n) →
    (is_named : named v ≡ true) →
    Derived cs (pos v) ⊎ Derived cs (neg v))

not_either : {A B : Type 0} → A ↔ B → (A → ⊥) ↔ (B → ⊥)
not_either w = ((λ no b. no (w.1 b)), λ no a. no (w.0 a))

-- A sheet, an accepted book of its N and lines in order are lent. "The mention is judged on the book and the choices": `is_named` asks the
-- lent book and the counted lines, and what the sheet itself names plays no part.
module _
    (order : State)
    (book : List ℕ)
    (sheet_is_one : is_sheet order.sheet ≡ true)
    (book_accepted : check_of book ≡ accepted tt)
    (same_n : options_of book ≡ options_in order.sheet)
    (lines_in_order : has_lines_in_order order ≡ true)
  where
    lent : promised.Lent order book
    lent =
        record {
          is_a_sheet = sheet_is_one;
          book_accepted = book_accepted;
          same_options = same_n;
          lines_in_order = lines_in_order;
        }

    pub complete_exactly :
        (complete_of order book ≡ accepted true)
        ↔ Complete (options_in order.sheet) (clauses_in order.sheet) (is_named book (counted order))
    complete_exactly = Iff.trans (promised.complete_exact order book lent).says_complete (complete_as_pair _ _ _)

    pub incomplete_exactly :
        (complete_of order book ≡ accepted false)
        ↔ (Complete (options_in order.sheet) (clauses_in order.sheet) (is_named book (counted order)) → ⊥)
    incomplete_exactly =
        Iff.trans (promised.complete_exact order book lent).says_incomplete (not_either (complete_as_pair _ _ _))

    -- What was complete by document 01's words, "not contradictory and every option is 1 or 2", is complete now.
    pub complete_as_before :
        (was_complete : propagation.complete (report_in order.sheet) ≡ true) →
        complete_of order book ≡ accepted true
    complete_as_before = promised.complete_as_before order book lent

-- For every list of demand 3, with the account's book and the lines as they are then: complete exactly if the account is consistent and
-- every option that its book or its lines name is derived in or out; 11 where the lines are not in order, and lines that were in order
-- stay so.
module _
    (book target : List ℕ)
    (lines : List Line)
    (count : ℕ)
    (book_accepted : check_of book ≡ accepted tt)
    (target_long_enough : length target ≡ 4098)
    (calls : List Call)
  where
    abbrev start : State
    start = record { sheet = (load_of book target).lent; lines = lines; count = count }

    abbrev end : State
    end = after_calls calls start

    abbrev account : Account
    account = account_calls calls start (loaded book start)

    pub complete_after :
        (lines_in_order : has_lines_in_order end ≡ true) →
        (complete_of end account.book ≡ accepted true)
        ↔ Complete (options_of account.book) (meaning account) (is_named account.book account.ledger)
    complete_after o =
        Iff.trans
        ((promised.complete_after book target lines count book_accepted target_long_enough calls).says o).says_complete
        (complete_as_pair _ _ _)

    pub incomplete_after :
        (lines_in_order : has_lines_in_order end ≡ true) →
        (complete_of end account.book ≡ accepted false)
        ↔ (Complete (options_of account.book) (meaning account) (is_named account.book account.ledger) → ⊥)
    incomplete_after o =
        Iff.trans
        ((promised.complete_after book target lines count book_accepted target_long_enough calls).says o).says_incomplete
        (not_either (complete_as_pair _ _ _))

    pub else_refused :
        (lines_not_in_order : has_lines_in_order end ≡ false) →
        complete_of end account.book ≡ refused sheet_refused
    else_refused = (promised.complete_after book target lines count book_accepted target_long_enough calls).else_refused

    pub lines_stay_in_order : (lines_in_order : has_lines_in_order start ≡ true) → has_lines_in_order end ≡ true
    lines_stay_in_order = (promised.complete_after book target lines count book_accepted target_long_enough calls).stays_in_order
