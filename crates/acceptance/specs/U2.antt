-- Document 02, U2: "Taking line k back (counted from 0) removes it, moves later lines up, loads the sheet afresh and keys the remaining
-- lines in order. This is allowed while a run stands stopped: the run's work is dropped and the next run counts from zero."
use Rattle.std.specs.Prelude.{Bool, true, false, List, [], ◌∷◌, ◌++◌, ◌≡◌, refl, ℕ, ◌≤◌, length}
use Rattle.std.proofs.Common.{ap}
use Rattle.model.specs.Literal.{pos, neg}
use Rattle.model.specs.Book.{options_of}
use Rattle.calls.specs.Outcomes.{accepted}
use Rattle.calls.specs.Lines.{Line, State, counted, without}
use Rattle.calls.specs.Index.{fresh_count}
use Rattle.calls.specs.Calls.{check_of, load_of, key_with, withdraw_with, run_with, report_of}
use Rattle.calls.specs.History.{Call, key, withdraw, after_call, after_calls, loaded, account_calls, is_stretch}
use Rattle.call_laws.specs.Rekeyed.{keying, keyings}
use Rattle.promise.specs.Withdrawals as withdrawals
use Rattle.promise.proofs.Withdrawals as withdrawal_proofs

-- The calls that key lines in order (`keyings`), each lent the fresh count of its sheet as its index.
pub no_line_is_no_call : (t : State) → keyings [] t ≡ []
unfolding keyings
no_line_is_no_call t = refl

pub first_line_is_keyed_first :
    (v : ℕ) (ls : List Line) (t : State) →
    (keyings (pos v ∷ ls) t
    ≡ key (fresh_count t.sheet) v false ∷ keyings ls (after_call (key (fresh_count t.sheet) v false) t))
    × (keyings (neg v ∷ ls) t
    ≡ key (fresh_count t.sheet) v true ∷ keyings ls (after_call (key (fresh_count t.sheet) v true) t))
unfolding keyings keying
first_line_is_keyed_first v ls t = (refl, refl)

-- An accepted withdrawal, from whatever state of an order; a load of the same book into any target of 4,098 numbers, with 64 slots that
-- hold anything and no line counted.
module _
    (order : State)
    (book index : List ℕ)
    (k : ℕ)
    (taken_back : (withdraw_with order book index k).answer ≡ accepted tt)
    (target : List ℕ)
    (target_long_enough : length target ≡ 4098)
    (slots : List Line)
    (all_slots : length slots ≡ 64)
  where
    abbrev fresh : State
    fresh = record { sheet = (load_of book target).lent; lines = slots; count = 0 }

    -- The sheet is the very one of the book freshly loaded, once the remaining lines are keyed by the calls; none of these is refused.
    pub taken_back_as_afresh :
        ((withdraw_with order book index k).lent.own.sheet ≡ (after_calls (keyings (without k (counted order)) fresh) fresh).sheet)
        × ((account_calls (keyings (without k (counted order)) fresh) fresh (loaded book fresh)).choices ≡ without k (counted order))
    taken_back_as_afresh =
        let w = withdrawals.taken_back_as_afresh order book index k taken_back target target_long_enough slots all_slots in
        (w.sheet, w.none_refused)

    -- "The next run counts from zero": whatever was run before, it answers and leaves what a run on that sheet does.
    pub next_run_counts_from_zero :
        (run_index : List ℕ) (budget : ℕ) →
        run_with (withdraw_with order book index k).lent.own.sheet run_index budget
        ≡ run_with (after_calls (keyings (without k (counted order)) fresh) fresh).sheet run_index budget
    next_run_counts_from_zero run_index budget = ap (λ s. run_with s run_index budget) taken_back_as_afresh.0

-- "The run's work is dropped": the last line keyed, taken back with the book that was loaded, whatever steps and runs came between, gives
-- the report from before its keying. (No line before it may stand unkeyed: its mark would be a choice from now on.)
pub taken_back_as_never_keyed :
    (book target : List ℕ) (lines : List Line) (count : ℕ) (before between : List Call) (v : ℕ) (negative : Bool) (index index' : List ℕ) →
    let start : State = record { sheet = (load_of book target).lent; lines = lines; count = count } in
    let here = after_calls before start in
    let account = account_calls before start (loaded book start) in
    let keyed = after_call (key index v negative) here in
    (book_accepted : check_of book ≡ accepted tt) →
    (target_long_enough : length target ≡ 4098) →
    (same_book : account.book ≡ book) →
    (no_line_unkeyed : account.choices ≡ account.ledger) →
    (key_accepted : (key_with here index v negative).answer ≡ accepted tt) →
    (only_steps_between : is_stretch between keyed ≡ true) →
    (withdraw_accepted : (withdraw_with (after_calls between keyed) book index' here.count).answer ≡ accepted tt) →
    (out : List ℕ) →
    (out_has_room : options_of book ≤ length out) →
    report_of (after_calls (before ++ (key index v negative ∷ (between ++ (withdraw book index' here.count ∷ [])))) start).sheet out
    ≡ report_of here.sheet out
taken_back_as_never_keyed = withdrawal_proofs.taken_back_as_never_keyed
