-- Demand 3, one theorem: "For every list of choices, single steps and runs, refused ones included, from a freshly loaded sheet, each on
-- the sheet that the one before left and nobody else writing it". Document 02, U2: "Withdrawals, refused ones too, now stand in the list
-- of demand 3, which starts with any lent lines."
use Rattle.std.specs.Prelude.{true, false, ◌⊎◌, ◌↔◌, ◌≡◌, ℕ, ◌+◌, ◌*◌, ◌≤◌, ◌<◌, length, take, drop, replicate, get_or}
use mathlib.Core.List.{List, [], ◌∷◌, ◌++◌, Permᴰ}
use Rattle.std.proofs.Math.Option.{none}
use Rattle.model.specs.Base.{placed}
use Rattle.model.specs.Literal.{Literal, pos, neg}
use Rattle.model.specs.Code.{leasts, literals}
use Rattle.model.specs.Clauses.{Clause, Derived, Contradictory}
use Rattle.model.specs.Propagation.{report}
use Rattle.model.specs.Rules as rules
use Rattle.model.specs.Sheet.{options_in, nodes_in, is_sheet, is_unit, Falsum}
use Rattle.model.specs.Book.{options_of, bodies_of}
use Rattle.calls.specs.Outcomes.{accepted}
use Rattle.calls.specs.Lines.{Line, State, counted}
use Rattle.calls.specs.Calls.{Ran, check_of, load_of, report_of, run_with}
use Rattle.calls.specs.Index.{fresh_count}
use Rattle.calls.specs.History.{Call, run, after_calls, Account, loaded, account_calls, meaning, is_stretch, steps_of, ends_settled}
use Rattle.promise.proofs.Lists as lists
use Rattle.promise.proofs.Runs as runs
use Rattle.promise.proofs.Order as order

module _
    (book target : List ℕ)
    (lines : List Line)
    (count : ℕ)
    (book_accepted : check_of book ≡ accepted tt)
    (target_long_enough : length target ≡ 4098)
  where
    -- "A freshly loaded sheet", and any lines.
    abbrev start : State
    start = record { sheet = (load_of book target).lent; lines = lines; count = count }

    -- The sheet after a list of calls; the account that the list gives: its book, the choices that stand, and the lines "reckoned from
    -- those first lines and the accepted calls"; and what they mean, "the clauses of every body, and for each accepted choice the clause
    -- of its mark alone".
    abbrev left : List Call → List ℕ
    left calls = (after_calls calls start).sheet

    abbrev account : List Call → Account
    account calls = account_calls calls start (loaded book start)

    abbrev cs : List Call → List Clause
    cs calls = meaning (account calls)

    abbrev n : List Call → ℕ
    n calls = options_of (account calls).book

    pub demand_3 :
        (calls : List Call) →
        -- "After the list the sheet reports what the loaded rules with all accepted choices mean, those keyed after a settled run too": it
        -- is a sheet of the book's N, the counted lines are those of the account, and into every output of at least N bytes
        (is_sheet (left calls) ≡ true)
        × (options_in (left calls) ≡ n calls)
        × (counted (after_calls calls start) ≡ (account calls).ledger)
        × ((out : List ℕ) →
        (out_has_room : n calls ≤ length out) →
        -- the report is literal propagation on these clauses,
        (report_of (left calls) out
        ≡ record { answer = accepted (report (n calls) (cs calls)).contradictory; lent = placed (report (n calls) (cs calls)).marks out })
        -- it says contradiction exactly if they are contradictory, all 3 then, and keeps what stands past N,
        × (((report_of (left calls) out).answer ≡ accepted true) ⊎ ((report_of (left calls) out).answer ≡ accepted false))
        × (((report_of (left calls) out).answer ≡ accepted true) ↔ Contradictory (cs calls))
        × (Contradictory (cs calls) → take (n calls) (report_of (left calls) out).lent ≡ replicate (n calls) 3)
        × (length (report_of (left calls) out).lent ≡ length out)
        × (drop (n calls) (report_of (left calls) out).lent ≡ drop (n calls) out)
        -- and otherwise says in, out or open of an option exactly if they derive it so.
        × ((consistent : Contradictory (cs calls) → ⊥) →
        (v : ℕ) →
        (is_option : v < n calls) →
        ((get_or (report_of (left calls) out).lent v 0 ≡ 1) ↔ Derived (cs calls) (pos v))
        × ((get_or (report_of (left calls) out).lent v 0 ≡ 2) ↔ Derived (cs calls) (neg v))
        × ((get_or (report_of (left calls) out).lent v 0 ≡ 0)
        ↔ ((Derived (cs calls) (pos v) → ⊥) × (Derived (cs calls) (neg v) → ⊥)))))
        -- "Where the list ends in a run that says settled, no rule applies to the sheet; it holds the lone contradiction exactly when those
        -- rules and choices are contradictory, and otherwise its bare marks are exactly the forced ones."
        × ((ends_so : ends_settled calls start ≡ true) →
        ((r p i j : ℕ) → rules.step r p i j (nodes_in (left calls)) ≡ none)
        × (Falsum (left calls) ↔ Contradictory (cs calls))
        × ((consistent : Contradictory (cs calls) → ⊥) → (l : Literal) → (is_unit l (left calls) ≡ true) ↔ Derived (cs calls) l))
        -- "No stretch of the list without an accepted choice does more steps than the cube of n + 2l, for n nodes and l option marks at its
        -- start." Document 02, U2: a stretch "holds no accepted withdrawal either"; U4: the bound "counts each kind 6 node twice".
        × ((before stretch rest : List Call) →
        (calls_are : calls ≡ before ++ (stretch ++ rest)) →
        (nothing_rekeyed : is_stretch stretch (after_calls before start) ≡ true) →
        let ns = nodes_in (left before) in
        let x = length ns + leasts ns + 2 * literals ns in
        steps_of stretch (after_calls before start) ≤ x * x * x)
    demand_3 calls =
        let d = lists.demand_3 book target lines count book_accepted target_long_enough calls in
        let m = d.means in (
          m.is_a_sheet,
          m.options,
          d.lines_are,
          (λ out room.
              let s = m.report_says out room in (
                m.report_is out room,
                s.result,
                s.says_contradiction,
                s.all_three,
                s.length_stays,
                s.rest_stays,
                λ fine v h. (s.is_in fine v h, s.is_out fine v h, s.is_open fine v h),
              )),
          (λ q. let w = d.settled q in (w.no_rule, w.falsum, w.units)),
          d.bounded,
        )

    -- Its hypotheses can be met: after any list a run with a right index is accepted, and whatever follows it counts no more than the cube.
    pub run_counts :
        (calls before rest : List Call) (index : List ℕ) (budget : ℕ) →
        (calls_are : calls ≡ before ++ (run index budget ∷ rest)) →
        (index_right : take (2 * options_in (left before)) index ≡ fresh_count (left before)) →
        let ns = nodes_in (left before) in
        let x = length ns + leasts ns + 2 * literals ns in
        (ran : Ran) × ((run_with (left before) index budget).answer ≡ accepted ran) × (ran.count ≤ x * x * x)
    run_counts calls before rest index budget parts right =
        let w = runs.run_counts book target lines count book_accepted target_long_enough calls before rest index budget parts right in
        (w.ran, w.says, w.few)

    -- With a budget of at least the cube it says settled, and the sheet that it leaves is a normal form.
    pub run_settles :
        (before : List Call) (index : List ℕ) (budget : ℕ) →
        (index_right : take (2 * options_in (left before)) index ≡ fresh_count (left before)) →
        let ns = nodes_in (left before) in
        let x = length ns + leasts ns + 2 * literals ns in
        (budget_enough : x * x * x ≤ budget) →
        let calls = before ++ (run index budget ∷ []) in
        (ran : Ran)
        × ((run_with (left before) index budget).answer ≡ accepted ran)
        × (ran.settled ≡ true)
        × ((r p i j : ℕ) → rules.step r p i j (nodes_in (left calls)) ≡ none)
        × (Falsum (left calls) ↔ Contradictory (cs calls))
        × ((consistent : Contradictory (cs calls) → ⊥) → (l : Literal) → (is_unit l (left calls) ≡ true) ↔ Derived (cs calls) l)
    run_settles before index budget right enough =
        let w = runs.run_settles book target lines count book_accepted target_long_enough before index budget right enough in
        (w.ran, w.says, w.settled, w.normal.no_rule, w.normal.falsum, w.normal.units)

-- Why it is asked: "the old program drew its conclusions in the order it met the rules". Here two accepted books of one N, any lines and
-- any two lists of calls: where the accounts end with the same bodies in any order and the same choices in any order (`List.Permᴰ`: the
-- library's permutations), the reports are the same, byte for byte and in the result.
pub order_does_not_matter :
    (book other target target' : List ℕ) (lines lines' : List Line) (count count' : ℕ) (calls calls' : List Call) →
    let start : State = record { sheet = (load_of book target).lent; lines = lines; count = count } in
    let start' : State = record { sheet = (load_of other target').lent; lines = lines'; count = count' } in
    let account = account_calls calls start (loaded book start) in
    let account' = account_calls calls' start' (loaded other start') in
    (book_accepted : check_of book ≡ accepted tt) →
    (other_accepted : check_of other ≡ accepted tt) →
    (target_long_enough : length target ≡ 4098) →
    (target'_long_enough : length target' ≡ 4098) →
    (same_n : options_of book ≡ options_of other) →
    (same_bodies : Permᴰ (bodies_of account.book) (bodies_of account'.book)) →
    (same_choices : Permᴰ account.choices account'.choices) →
    (out : List ℕ) →
    (out_has_room : options_of book ≤ length out) →
    report_of (after_calls calls start).sheet out ≡ report_of (after_calls calls' start').sheet out
order_does_not_matter = order.order_does_not_matter
