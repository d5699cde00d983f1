-- Document 02, U2: taking a choice back. "The run's work is dropped". The theorem is about any state of an order, however it was reached.
use Rattle.std.specs.Prelude.{Bool, true, ◌≡◌, ℕ, ◌≤◌}
use mathlib.Core.List.{List, [], ◌∷◌, ◌++◌, append-nil}
use Rattle.std.proofs.Math.Path.{sym, ap}
use Rattle.std.proofs.Common.{◌∙◌, arith, add-one}
use Rattle.std.proofs.Math.ListN.{length, drop}
use Rattle.std.proofs.Math.Seq.{length-take-le, take-append_seam, drop-append-add}
use Rattle.model.specs.Literal.{literal}
use Rattle.model.specs.Limits.{sheet_length}
use Rattle.model.specs.Propagation.{report}
use Rattle.model.specs.Book.{options_of, clauses_of_book}
use Rattle.calls.specs.Outcomes.{accepted, if_accepted}
use Rattle.calls.specs.Chains.{key_refusal}
use Rattle.calls.specs.Lines.{Line, State, without}
use Rattle.calls.specs.Calls.{check_of, key_of, key_with, withdraw_with, report_of}
use Rattle.calls.specs.History.{Call, key, withdraw, after_call, after_calls, Account, loaded, with_choice, without_line}
use Rattle.calls.specs.History.{account_call, account_calls, is_stretch, choice_clauses, meaning}
use Rattle.theory_index.specs.WithIndex.{with_accepted}
use Rattle.call_laws.specs.Accepted.{key_accepted}
use Rattle.call_laws.specs.Rekeyed.{account_append, quiet_calls}
use Rattle.promise.specs.Reports.{reported}
use Rattle.promise.specs.Lists.{order_of}
use Rattle.promise.proofs.Lists.{demand_3}

-- The last line keyed, taken back with the book that was loaded: "the run's work is dropped", and the report is the one from before the
-- keying, whatever steps and runs came between. No line before it may stand unkeyed (its mark would be a choice from now on).
module _
    (book target : List ℕ)
    (lines : List Line)
    (count : ℕ)
    (before between : List Call)
    (v : ℕ)
    (negative : Bool)
    (index index' : List ℕ)
  where
    abbrev start : State
    start = order_of book target lines count

    abbrev here : State
    here = after_calls before start

    abbrev account : Account
    account = account_calls before start (loaded book start)

    abbrev keyed : State
    keyed = after_call (key index v negative) here

    abbrev calls : List Call
    calls = before ++ (key index v negative ∷ (between ++ (withdraw book index' here.count ∷ [])))

    -- The report goes by the account's book and choices.
    same_account :
        (a b : Account) →
        a.book ≡ b.book →
        a.choices ≡ b.choices →
        report (options_of a.book) (meaning a) ≡ report (options_of b.book) (meaning b)
    unfolding meaning
    same_account a b e f = λ i. report (options_of (e i)) (clauses_of_book (e i) ++ choice_clauses (f i))

    -- The account in the end.
    reckoned :
        (key_with here index v negative).answer ≡ accepted tt →
        is_stretch between keyed ≡ true →
        (withdraw_with (after_calls between keyed) book index' here.count).answer ≡ accepted tt →
        account_calls calls start (loaded book start) ≡ without_line (with_choice account (literal v negative)) book here.count
    unfolding account_calls account_call if_accepted
    reckoned e quiet f =
        let l = literal v negative in
        let last : List Call = withdraw book index' here.count ∷ [] in
        let there = after_calls between keyed in
        account_append before (key index v negative ∷ (between ++ last)) start (loaded book start)
        ∙ ap (λ o. account_calls (between ++ last) keyed (if_accepted o account (λ _. with_choice account l))) e
        ∙ account_append between last keyed (with_choice account l)
        ∙ ap (account_calls last there) (quiet_calls between keyed (with_choice account l) quiet)
        ∙ ap (λ o. if_accepted o (with_choice account l) (λ _. without_line (with_choice account l) book here.count)) f

    -- Its choices are those from before.
    last_removed : (ls : List Line) (l : Line) (k : ℕ) → k ≡ length ls → without k (ls ++ (l ∷ [])) ≡ ls
    unfolding without
    last_removed ls l k e =
        let rest = drop-append-add ls (l ∷ []) 1 in
        rw e
        (λ i. take-append_seam ls (l ∷ []) i ++ (ap (λ n. drop n (ls ++ (l ∷ []))) (sym (add-one (length ls))) ∙ rest) i)
        ∙ append-nil ls

    pub taken_back_as_never_keyed :
        (book_accepted : check_of book ≡ accepted tt) →
        (target_long_enough : length target ≡ sheet_length) →
        (same_book : account.book ≡ book) →
        (no_line_unkeyed : account.choices ≡ account.ledger) →
        (key_accepted : (key_with here index v negative).answer ≡ accepted tt) →
        (only_steps_between : is_stretch between keyed ≡ true) →
        (withdraw_accepted : (withdraw_with (after_calls between keyed) book index' here.count).answer ≡ accepted tt) →
        (out : List ℕ) →
        (out_has_room : options_of book ≤ length out) →
        report_of (after_calls calls start).sheet out ≡ report_of here.sheet out
    unfolding key_with key_of
    taken_back_as_never_keyed ok long same all_in e quiet f out room =
        let l = literal v negative in
        let d = demand_3 book target lines count ok long in
        let none = (with_accepted (λ u. u.sheet) here index tt _ (key_refusal here v) e).0 in
        let order = (key_accepted here v none).lines in
        let few = length-take-le here.count here.lines (omega (arith, order.slots, order.few)) in
        let long_as : here.count ≡ length account.ledger = sym (ap length (sym (d before).lines_are) ∙ few) in
        let choices : without here.count (account.ledger ++ (l ∷ [])) ≡ account.choices =
        last_removed account.ledger l here.count long_as ∙ sym all_in in
        let end = reckoned e quiet f in
        let left : Account = without_line (with_choice account l) book here.count in
        let room_end : options_of (account_calls calls start (loaded book start)).book ≤ length out =
        rw (ap (λ a. a.book) end) room in
        (d calls).means.report_is out room_end
        ∙ ap (λ a. reported (report (options_of a.book) (meaning a)) out) end
        ∙ ap (λ r. reported r out) (same_account left account (sym same) choices)
        ∙ sym ((d before).means.report_is out (rw same room))
