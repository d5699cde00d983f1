-- What stays so, whatever calls come: lines that are in order, and that the account's book is accepted.
use Rattle.std.specs.Prelude.{Bool, List, [], ◌∷◌, ◌≡◌, ℕ}
use Rattle.std.proofs.Math.Option.{none}
use Rattle.std.proofs.Common.{◌∙◌, arith}
use Rattle.model.specs.Literal.{literal}
use Rattle.model.specs.Sheet.{options_in}
use Rattle.calls.specs.Outcomes.{if_accepted}
use Rattle.calls.specs.Chains.{book_refusal, key_refusal, withdraw_refusal}
use Rattle.calls.specs.Lines.{State, counted}
use Rattle.calls.specs.Calls.{key_of, withdraw_of, key_with, withdraw_with}
use Rattle.calls.specs.History.{Call, key, withdraw, step, run, with_sheet, after_call, after_calls}
use Rattle.calls.specs.History.{Account, with_choice, without_line, account_call, account_calls}
use Rattle.theory_index.specs.WithIndex.{with_cases}
use Rattle.call_laws.specs.Accepted.{InOrder, key_accepted, withdraw_accepted}
use Rattle.call_laws.specs.Effects.{same_options}
use Rattle.call_laws.specs.OrderLines.{option_literal, withdrawn_counted, moved_length, known_without}
use Rattle.call_laws.specs.Rekeyed.{keyed_in_order}

-- Another sheet of the same N.
other_sheet : (t : State) (s : List ℕ) → options_in s ≡ options_in t.sheet → InOrder t → InOrder (with_sheet t s)
other_sheet t s e o = record { slots = o.slots; few = o.few; known = rw e o.known }

key_keeps : (t : State) (index : List ℕ) (v : ℕ) (negative : Bool) → InOrder t → InOrder (key_with t index v negative).lent.own
unfolding key_with key_of
key_keeps t index v negative o =
    with_cases (λ u. u.sheet) t index tt _ (key_refusal t v) (λ x. InOrder x.lent.own) (λ r. o) (λ e right.
    let w = key_accepted t v e in
    keyed_in_order t (literal v negative) w.sheet o w.free (rw (option_literal v negative) w.known) w.room)

withdraw_keeps :
    (t : State) (b index : List ℕ) (k : ℕ) →
    InOrder t →
    options_in (withdraw_with t b index k).lent.own.sheet ≡ options_in t.sheet →
    InOrder (withdraw_with t b index k).lent.own
unfolding withdraw_with withdraw_of
withdraw_keeps t b index k o =
    with_cases (λ u. u.sheet) t index tt _ (withdraw_refusal t b k)
    (λ x. options_in x.lent.own.sheet ≡ options_in t.sheet → InOrder x.lent.own)
    (λ r same. o)
    (λ e right same.
    let w = withdraw_accepted t b k e in
    record {
      slots = moved_length k t.count t.lines w.line (omega (arith, o.slots, o.few)) ∙ o.slots;
      few = omega (arith, o.few);
      known =
          rw (same, withdrawn_counted k t.count t.lines w.line (omega (arith, o.slots, o.few)))
          (known_without (options_in t.sheet) k (counted t) o.known);
    })

call_keeps : (c : Call) (t : State) → InOrder t → InOrder (after_call c t)
unfolding after_call
call_keeps c t o = go c (same_options c t)
  where
    go : (c : Call) → options_in (after_call c t).sheet ≡ options_in t.sheet → InOrder (after_call c t)
    go (key index v negative) e = key_keeps t index v negative o
    go (withdraw b index k) e = withdraw_keeps t b index k o e
    go (step index r p i j) e = other_sheet t _ e o
    go (run index b) e = other_sheet t _ e o

pub calls_keep : (cs : List Call) (t : State) → InOrder t → InOrder (after_calls cs t)
unfolding after_calls
calls_keep [] t o = o
calls_keep (c ∷ cs) t o = calls_keep cs (after_call c t) (call_keeps c t o)

-- The account's book.
call_book : (c : Call) (t : State) (a : Account) → book_refusal a.book ≡ none → book_refusal (account_call c t a).book ≡ none
unfolding account_call key_with key_of withdraw_with withdraw_of if_accepted
call_book (key index v negative) t a h =
    with_cases (λ u. u.sheet) t index tt _ (key_refusal t v)
    (λ o. book_refusal (if_accepted o.answer a (λ _. with_choice a (literal v negative))).book ≡ none)
    (λ r. h)
    (λ e right. h)
call_book (withdraw b index k) t a h =
    with_cases (λ u. u.sheet) t index tt _ (withdraw_refusal t b k)
    (λ o. book_refusal (if_accepted o.answer a (λ _. without_line a b k)).book ≡ none)
    (λ r. h)
    (λ e right. (withdraw_accepted t b k e).order.book)
call_book (step index r p i j) t a h = h
call_book (run index b) t a h = h

pub calls_book :
    (cs : List Call) (t : State) (a : Account) →
    book_refusal a.book ≡ none →
    book_refusal (account_calls cs t a).book ≡ none
unfolding account_calls
calls_book [] t a h = h
calls_book (c ∷ cs) t a h = calls_book cs (after_call c t) (account_call c t a) (call_book c t a h)
