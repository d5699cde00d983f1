-- Lines keyed one after another on a sheet that has room for all their marks: none is refused. Lists of calls in parts, and calls that
-- leave the account as it is.
use Rattle.std.specs.Prelude.{Bool, true, false, not, List, [], ◌∷◌, ◌++◌, ◌≡◌, refl, ℕ, ◌+◌, ◌*◌, ◌≤◌, ◌<◌, ltb, length, set}
use Rattle.std.proofs.Common.{append-nil, append_assoc, sym, ap, ◌∙◌, arith, ltb-true, lt-ltb, le-ltb, ne_eqb, length-set}
use Rattle.std.proofs.Math.Option.{none}
use Rattle.model.specs.Base.{all, first_of, only_if, pick}
use Rattle.model.specs.Literal.{pos, neg, option, literal}
use Rattle.model.specs.Code.{weight}
use Rattle.model.specs.Limits.{most_weight, literal_weight}
use Rattle.model.specs.Sheet.{options_in, nodes_in, is_sheet}
use Rattle.model.specs.Results.{appended}
use Rattle.calls.specs.Outcomes.{Answer, refused, accepted, outcome, if_accepted}
use Rattle.calls.specs.Lines.{Line, most_lines, State, counted, with_marks}
use Rattle.calls.specs.Chains.{key_refusal}
use Rattle.calls.specs.Index.{fresh_count}
use Rattle.calls.specs.Calls.{key_of, key_with, withdraw_with}
use Rattle.calls.specs.History.{Call, key, withdraw, step, run, after_call, after_calls, Account, with_choice, without_line}
use Rattle.calls.specs.History.{account_call, account_calls, rekeys, is_stretch}
use Rattle.theory_forms.specs.Logic.{true_false, and_split}
use Rattle.theory_index.specs.Right.{fresh_right}
use Rattle.theory_index.specs.WithIndex.{beside, key_right}
use Rattle.call_laws.specs.Accepted.{InOrder, in_order_lines, Keyable}
use Rattle.call_laws.specs.OrderLines.{keyed_counted, known_more, mark_put}

-- A keying for which nothing is refused.
pub keyable_none : (t : State) (v : ℕ) → Keyable t v → key_refusal t v ≡ none
unfolding key_refusal first_of only_if
keyable_none t v w =
    let free = w.free in
    let s = t.sheet in
    rw (
      w.sheet,
      in_order_lines t w.lines,
      ne_eqb t.count most_lines (λ e. absurd (omega arith)),
      lt-ltb v (options_in s) w.known,
      le-ltb most_weight (weight (nodes_in s) + literal_weight) w.room,
    )

-- The state that it leaves.
abbrev pub keyed_state : State → Line → State
keyed_state t l = record { sheet = appended t.sheet l; lines = set t.lines t.count l; count = t.count + 1 }

-- Lines in order stay in order.
pub keyed_in_order :
    (t : State) (l : Line) →
    is_sheet t.sheet ≡ true →
    InOrder t →
    t.count < most_lines →
    option l < options_in t.sheet →
    weight (nodes_in t.sheet) + literal_weight ≤ most_weight →
    InOrder (keyed_state t l)
keyed_in_order t l sheet o free known room =
    let marked = mark_put t.sheet l sheet known room in
    let now = keyed_counted t.lines t.count l (omega (arith, o.slots)) in
    record {
      slots = length-set t.lines t.count l ∙ o.slots;
      few = omega arith;
      known = rw (now, marked.options) (known_more (options_in t.sheet) (counted t) l o.known known);
    }

-- The call that keys a line, with the fresh count of the sheet that it is lent as its index; and those that key lines one after another.
unfoldable pub keying : State → Line → Call
keying t (pos v) = key (fresh_count t.sheet) v false
keying t (neg v) = key (fresh_count t.sheet) v true

unfoldable pub keyings : List Line → State → List Call
keyings [] t = []
keyings (l ∷ ls) t = keying t l ∷ keyings ls (after_call (keying t l) t)

-- What it leaves of the state and of the account, where it is accepted.
pub key_outcome :
    (t : State) (v : ℕ) (negative : Bool) →
    key_refusal t v ≡ none →
    key_of t v negative ≡ record { answer = accepted tt; lent = keyed_state t (literal v negative) }
unfolding key_of outcome
key_outcome t v negative e = rw e

fresh_outcome :
    (t : State) (v : ℕ) (negative : Bool) →
    key_refusal t v ≡ none →
    let index = fresh_count t.sheet in
    key_with t index v negative
    ≡ beside (λ u. u.sheet) index (record { answer = accepted tt; lent = keyed_state t (literal v negative) })
fresh_outcome t v negative e =
    let index = fresh_count t.sheet in
    key_right t index (fresh_right t.sheet) v negative ∙ ap (beside (λ u. u.sheet) index) (key_outcome t v negative e)

keying_done :
    (t : State) (a : Account) (l : Line) →
    key_refusal t (option l) ≡ none →
    (after_call (keying t l) t ≡ keyed_state t l) × (account_call (keying t l) t a ≡ with_choice a l)
unfolding keying option after_call account_call if_accepted literal pick
keying_done t a (pos v) e =
    let o = fresh_outcome t v false e in
    (ap (λ x. x.lent.own) o, ap (λ x. if_accepted x.answer a (λ _. with_choice a (pos v))) o)
keying_done t a (neg v) e =
    let o = fresh_outcome t v true e in
    (ap (λ x. x.lent.own) o, ap (λ x. if_accepted x.answer a (λ _. with_choice a (neg v))) o)

-- All of them.
pub record Rekeyed (ls : List Line) (t : State) (a : Account) : Type 0 where
  pub sheet : (after_calls (keyings ls t) t).sheet ≡ with_marks t.sheet ls
  pub choices : (account_calls (keyings ls t) t a).choices ≡ a.choices ++ ls

pub all_rekeyed :
    (ls : List Line) (t : State) (a : Account) →
    is_sheet t.sheet ≡ true →
    InOrder t →
    all (λ l. ltb (option l) (options_in t.sheet)) ls ≡ true →
    weight (nodes_in t.sheet) + literal_weight * length ls ≤ most_weight →
    t.count + length ls ≤ most_lines →
    Rekeyed ls t a
unfolding after_calls account_calls with_marks all keyings
all_rekeyed [] t a sheet o known room few = record { sheet = refl; choices = sym (append-nil a.choices) }
all_rekeyed (l ∷ ls) t a sheet o known room few =
    let w = and_split (ltb (option l) (options_in t.sheet)) _ known in
    let here = ltb-true (option l) (options_in t.sheet) w.0 in
    let one = mark_put t.sheet l sheet here (omega arith) in
    let may : Keyable t (option l) =
    record { sheet = sheet; lines = o; free = omega arith; known = here; room = omega arith } in
    let done = keying_done t a l (keyable_none t (option l) may) in
    let later =
    all_rekeyed ls (keyed_state t l) (with_choice a l) one.sheet
    (keyed_in_order t l sheet o (omega arith) here (omega arith))
    (rw one.options w.1) (omega (arith, one.weight)) (omega arith) in
    record {
      sheet = ap (λ u. (after_calls (keyings ls u) u).sheet) done.0 ∙ later.sheet;
      choices =
          (λ i. (account_calls (keyings ls (done.0 i)) (done.0 i) (done.1 i)).choices)
          ∙ later.choices
          ∙ append_assoc a.choices (l ∷ []) ls;
    }

-- One list of calls after another, for the account.
pub account_append :
    (cs ds : List Call) (t : State) (a : Account) →
    account_calls (cs ++ ds) t a ≡ account_calls ds (after_calls cs t) (account_calls cs t a)
unfolding account_calls after_calls
account_append [] ds t a = refl
account_append (c ∷ cs) ds t a = account_append cs ds (after_call c t) (account_call c t a)

-- A call that neither keys nor withdraws leaves the account.
quiet_call : (c : Call) (t : State) (a : Account) → rekeys c t ≡ false → account_call c t a ≡ a
unfolding account_call rekeys if_accepted
quiet_call (key index v negative) t a e = go (key_with t index v negative).answer e
  where
    go :
        (o : Answer (Unit {0})) →
        if_accepted o false (λ _. true) ≡ false →
        if_accepted o a (λ _. with_choice a (literal v negative)) ≡ a
    go (refused r) e = refl
    go (accepted u) e = true_false e
quiet_call (withdraw b index k) t a e = go (withdraw_with t b index k).answer e
  where
    go :
        (o : Answer (Unit {0})) →
        if_accepted o false (λ _. true) ≡ false →
        if_accepted o a (λ _. without_line a b k) ≡ a
    go (refused r) e = refl
    go (accepted u) e = true_false e
quiet_call (step index r p i j) t a e = refl
quiet_call (run index b) t a e = refl

pub quiet_calls : (cs : List Call) (t : State) (a : Account) → is_stretch cs t ≡ true → account_calls cs t a ≡ a
unfolding account_calls is_stretch
quiet_calls [] t a e = refl
quiet_calls (c ∷ cs) t a e =
    let w = and_split (not (rekeys c t)) _ e in
    rw (quiet_call c t a (not_true_false (rekeys c t) w.0)) (quiet_calls cs (after_call c t) a w.1)
  where
    not_true_false : (b : Bool) → not b ≡ true → b ≡ false
    not_true_false true e = sym e
    not_true_false false e = refl
