-- Document 02, U2: taking a choice back. "Taking line k back .. loads the sheet afresh and keys the remaining lines in order". The theorem
-- is about any state of an order, however it was reached.
use Rattle.std.specs.Prelude.{true, ◌≡◌, refl, ℕ, ◌+◌, ◌*◌, ◌≤◌, ltb}
use mathlib.Core.List.{List}
use Rattle.std.proofs.Math.Path.{sym, ap}
use Rattle.std.proofs.Common.{◌∙◌, arith}
use Rattle.std.proofs.Math.ListN.{length}
use Rattle.std.proofs.Math.Seq.{length-take-le}
use Rattle.model.specs.Base.{all}
use Rattle.model.specs.Literal.{option}
use Rattle.model.specs.Code.{weight}
use Rattle.model.specs.Limits.{sheet_length, most_weight, literal_weight}
use Rattle.model.specs.Sheet.{nodes_in, sheet_of, options_in}
use Rattle.model.specs.Book.{options_of, book_nodes}
use Rattle.calls.specs.Outcomes.{accepted}
use Rattle.calls.specs.Chains.{withdraw_refusal}
use Rattle.calls.specs.Lines.{Line, most_lines, State, counted, without}
use Rattle.calls.specs.Calls.{withdraw_of, withdraw_with}
use Rattle.calls.specs.History.{after_calls, loaded, account_calls}
use Rattle.theory_formats.specs.Loading.{loaded_sheet, loaded_shaped}
use Rattle.theory_forms.specs.Sheets.{nodes_made, options_made}
use Rattle.theory_index.specs.WithIndex.{with_accepted}
use Rattle.call_laws.specs.Books.{accepted_book}
use Rattle.call_laws.specs.Accepted.{withdraw_accepted}
use Rattle.call_laws.specs.LoadingAndWriting.{load_accepted}
use Rattle.call_laws.specs.OrderLines.{without_length, known_without}
use Rattle.call_laws.specs.Rekeyed.{keyings, all_rekeyed}
use Rattle.promise.specs.Lists.{order_of}

-- A withdrawal leaves the very sheet that its book, freshly loaded, has once the standing lines are keyed by the calls; and none of
-- these keyings is refused. (Each is lent the fresh count of its sheet as its index.)
pub record AsKeyedAfresh (order : State) (book index : List ℕ) (k : ℕ) (fresh : State) : Type 0 where
  pub sheet :
      (withdraw_with order book index k).lent.own.sheet
      ≡ (after_calls (keyings (without k (counted order)) fresh) fresh).sheet
  pub none_refused :
      (account_calls (keyings (without k (counted order)) fresh) fresh (loaded book fresh)).choices
      ≡ without k (counted order)

-- Whatever order it is taken back from, whatever the target of the load holds, and whatever stands in the empty slots.
pub taken_back_as_afresh :
    (order : State) (book index : List ℕ) (k : ℕ) →
    (taken_back : (withdraw_with order book index k).answer ≡ accepted tt) →
    (target : List ℕ) →
    (target_long_enough : length target ≡ sheet_length) →
    (slots : List Line) →
    (all_slots : length slots ≡ most_lines) →
    AsKeyedAfresh order book index k (order_of book target slots 0)
unfolding withdraw_with withdraw_of all
taken_back_as_afresh order book index k e target long slots full =
    let done = with_accepted (λ u. u.sheet) order index tt _ (withdraw_refusal order book k) e in
    let w = withdraw_accepted order book k done.0 in
    let lines = w.order.lines in
    let good = accepted_book book w.order.book in
    let standing = without k (counted order) in
    let s : List ℕ = sheet_of (options_of book) (book_nodes book) in
    let start : State = record { sheet = s; lines = slots; count = 0 } in
    let n : options_in s ≡ options_in order.sheet = options_made (options_of book) (book_nodes book) ∙ w.order.same in
    let few = length-take-le order.count order.lines (omega (arith, lines.slots, lines.few)) in
    let many = without_length k (counted order) (omega (arith, few, w.line)) in
    let nodes : nodes_in s ≡ book_nodes book = nodes_made good.options (loaded_shaped book good) good.weight in
    let room : weight (nodes_in s) + literal_weight * length standing ≤ most_weight = rw nodes (omega (arith, w.room, many, few)) in
    let known : all (λ l. ltb (option l) (options_in s)) standing ≡ true =
    rw n (known_without (options_in order.sheet) k (counted order) lines.known) in
    let all_in =
    all_rekeyed standing start (loaded book start) (loaded_sheet book good)
    (record { slots = full; few = omega arith; known = refl }) known room (omega (arith, many, few, lines.few)) in
    rw (load_accepted book target w.order.book long)
    (record { sheet = ap (λ x. x.own.sheet) done.2 ∙ sym all_in.sheet; none_refused = all_in.choices })
