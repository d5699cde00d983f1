-- The wound that began it: "the program drew its conclusions in the order it met the rules. After an option was dropped, forty
-- rules moved; the book meant the same as before, yet the program left an aerial open that it had settled a month earlier."
-- Here the order of the rules does not matter, nor does the order of the choices.
use mathlib.Core.List.{List, Permᴰ}
use Rattle.std.specs.Prelude.{◌≡◌, ℕ, ◌≤◌, length}
use Rattle.std.proofs.Math.Path.{sym, ap}
use Rattle.std.proofs.Common.{◌∙◌}
use Rattle.model.specs.Limits.{sheet_length}
use Rattle.model.specs.Book.{options_of, bodies_of, clauses_of_body, clauses_of_book}
use Rattle.calls.specs.Outcomes.{accepted}
use Rattle.calls.specs.Lines.{Line, State}
use Rattle.calls.specs.Calls.{check_of, report_of}
use Rattle.calls.specs.History.{Call, after_calls, Account, loaded, account_calls, meaning}
use Rattle.call_laws.specs.Valuations.{same_both, same_report}
use Rattle.call_laws.specs.Effects.{kept_options}
use Rattle.call_laws.specs.Reordered.{reordered_models, reordered_choices}
use Rattle.promise.specs.Reports.{reported}
use Rattle.promise.specs.Lists.{order_of, loaded_agrees}
use Rattle.promise.proofs.Lists.{demand_3}

-- Two accepted books of one N, any lines, any two lists of calls. Where the books that the two accounts end with have the same bodies in
-- any order (`List.Permᴰ`: the library's permutations), and their choices are the same in any order, the reports are the same, byte for
-- byte and in the result. Withdrawals are among the calls: what was taken back leaves no trace, and a book lent to one may have its rules
-- in another order.
module _
    (book other target target' : List ℕ)
    (lines lines' : List Line)
    (count count' : ℕ)
    (calls calls' : List Call)
  where
    abbrev start : State
    start = order_of book target lines count

    abbrev start' : State
    start' = order_of other target' lines' count'

    abbrev account : Account
    account = account_calls calls start (loaded book start)

    abbrev account' : Account
    account' = account_calls calls' start' (loaded other start')

    pub order_does_not_matter :
        (book_accepted : check_of book ≡ accepted tt) →
        (other_accepted : check_of other ≡ accepted tt) →
        (target_long_enough : length target ≡ sheet_length) →
        (target'_long_enough : length target' ≡ sheet_length) →
        (same_n : options_of book ≡ options_of other) →
        (same_bodies : Permᴰ (bodies_of account.book) (bodies_of account'.book)) →
        (same_choices : Permᴰ account.choices account'.choices) →
        (out : List ℕ) →
        (out_has_room : options_of book ≤ length out) →
        report_of (after_calls calls start).sheet out ≡ report_of (after_calls calls' start').sheet out
    unfolding meaning clauses_of_book
    order_does_not_matter ok ok' long long' n p q out room =
        let d = (demand_3 book target lines count ok long calls).means in
        let d' = (demand_3 other target' lines' count' ok' long' calls').means in
        let b = kept_options calls start (loaded book start) (loaded_agrees book target lines count ok long) in
        let b' = kept_options calls' start' (loaded other start') (loaded_agrees other target' lines' count' ok' long') in
        let models = same_both (reordered_models clauses_of_body p) (reordered_choices q) in
        let here = d.report_is out (rw b room) in
        let there = d'.report_is out (rw (b', ← n) room) in
        (rw b at here) ∙ ap (λ r. reported r out) (same_report models (options_of book)) ∙ sym (rw (b', ← n) at there)
