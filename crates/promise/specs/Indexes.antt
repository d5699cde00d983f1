-- Document 02, U5: an index of mentions. "Keep beside the sheet, option after option, two 16-bit numbers each: the count of its marks and
-- the place of the first (65,535 if none)."
use Rattle.std.specs.Prelude.{Bool, not, List, [], ◌∷◌, ◌≡◌, refl, ℕ, ◌*◌, ◌≤◌, length, take, drop}
use Rattle.std.proofs.Math.Option.{Option}
use Rattle.std.proofs.Common.{sym, ap, ◌∙◌, arith}
use borrow.Author.Tests.{ltb-false, le-ltb}
use Rattle.model.specs.Base.{only_if, first_of, placed}
use Rattle.model.specs.Limits.{sheet_length}
use Rattle.model.specs.Sheet.{options_in, nodes_in, is_sheet}
use Rattle.model.specs.Book.{options_of}
use Rattle.calls.specs.Refusals.{Refusal, sheet_refused, output_refused}
use Rattle.calls.specs.Outcomes.{accepted, Outcome, outcome}
use Rattle.calls.specs.Lines.{Line, State}
use Rattle.calls.specs.Index.{mark_count, fresh_count, Indexed}
use Rattle.calls.specs.Conditions.{index_length, has_short_index}
use Rattle.calls.specs.Chains.{key_refusal, withdraw_refusal, step_refusal, run_refusal, fill_refusal}
use Rattle.calls.specs.Calls.{Ran, check_of, key_of, withdraw_of, step_of, run_of, fill_of, with_index, key_with, withdraw_with, step_with, run_with}
use Rattle.calls.specs.History.{Call, key, withdraw, step, run, after_call, after_calls}
use Rattle.theory_forms.specs.Logic.{only_none, none_due}
use Rattle.theory_forms.specs.Placed.{placed_rest}
use Rattle.theory_index.specs.Entries.{fresh_length}
use Rattle.theory_index.specs.Right.{Right, right_long, placed_right, placed_long}
use Rattle.theory_index.specs.WithIndex.{with_accepted, beside, key_right, withdraw_right, step_right, run_right}
use Rattle.call_laws.specs.Accepted.{accepted_due}
use Rattle.call_laws.specs.Effects.{same_options, steps_name, after_step, after_run}
use Rattle.promise.specs.Lists.{order_of, loaded_agrees}

-- An index that is up to date for a sheet, by what it held before: its first numbers, two an option, "equal a fresh count of the sheet";
-- "numbers past twice N stay".
pub record UpToDate (sheet before after : List ℕ) : Type 0 where
  pub fresh : take (2 * options_in sheet) after ≡ fresh_count sheet
  pub rest_stays : drop (2 * options_in sheet) after ≡ drop (2 * options_in sheet) before
  pub length_stays : length after ≡ length before

-- "Every choice, withdrawal, step and run brings the index up to date, and it must then equal a fresh count of the sheet": of the one that
-- it leaves. "One call fills it from any sheet, whatever it held."
pub record BroughtUpToDate : Type 0 where
  pub key :
      (order : State) (index : List ℕ) (v : ℕ) (negative : Bool) →
      let o = key_with order index v negative in
      (is_accepted : o.answer ≡ accepted tt) →
      UpToDate o.lent.own.sheet index o.lent.index
  pub withdraw :
      (order : State) (book index : List ℕ) (k : ℕ) →
      let o = withdraw_with order book index k in
      (is_accepted : o.answer ≡ accepted tt) →
      UpToDate o.lent.own.sheet index o.lent.index
  pub step :
      (sheet index : List ℕ) (r p i j : ℕ) →
      let o = step_with sheet index r p i j in
      (is_accepted : o.answer ≡ accepted tt) →
      UpToDate o.lent.own index o.lent.index
  pub run :
      (sheet index : List ℕ) (budget : ℕ) (ran : Ran) →
      let o = run_with sheet index budget in
      (is_accepted : o.answer ≡ accepted ran) →
      UpToDate o.lent.own index o.lent.index
  pub fill :
      (sheet index : List ℕ) →
      let o = fill_of sheet index in
      (is_accepted : o.answer ≡ accepted tt) →
      UpToDate sheet index o.lent

-- An index with the fresh count put at its start.
placed_up : (s index : List ℕ) → index_length s ≤ length index → UpToDate s index (placed (fresh_count s) index)
placed_up s index h =
    record {
      fresh = placed_right s index;
      rest_stays = placed_rest (fresh_count s) index (fresh_length s);
      length_stays = placed_long s index h;
    }

-- A call with an index that is accepted, and leaves a sheet of the same N.
accepted_up :
    {L A : Type 0} (sheet : L → List ℕ) (held : L) (index : List ℕ) (own : Option Refusal) (a : A) (filled : L) (x : A) →
    let o = with_index sheet held index (outcome own a held filled) in
    options_in (sheet o.lent.own) ≡ options_in (sheet held) →
    o.answer ≡ accepted x →
    UpToDate (sheet o.lent.own) index o.lent.index
accepted_up sheet held index own a filled x same e =
    let w = with_accepted sheet held index a filled own e in
    let n = sym (ap (λ left. options_in (sheet left.own)) w.2) ∙ same in
    rw w.2 (placed_up (sheet filled) index (omega (arith, n, right_long (sheet held) index w.1)))

-- A sheet alone, as the state of an order without lines.
abbrev alone : List ℕ → State
alone s = record { sheet = s; lines = []; count = 0 }

-- A fill that is accepted.
filled_up : (s index : List ℕ) → (fill_of s index).answer ≡ accepted tt → UpToDate s index (fill_of s index).lent
unfolding fill_of fill_refusal outcome
filled_up s index e =
    let clear = (accepted_due (fill_refusal s index) tt tt index _ (sym e)).0 in
    let short = only_none (has_short_index s index) output_refused (none_due (not (is_sheet s)) sheet_refused _ clear).1 in
    rw (clear, fill_of) (placed_up s index (ltb-false (length index) (index_length s) short))

pub brought_up_to_date : BroughtUpToDate
unfolding key_with key_of withdraw_with withdraw_of step_with step_of run_with run_of after_call
brought_up_to_date =
    record {
      key = λ t x v n e. accepted_up (λ u. u.sheet) t x (key_refusal t v) tt _ tt (same_options (key x v n) t) e;
      withdraw = λ t b x k e. accepted_up (λ u. u.sheet) t x (withdraw_refusal t b k) tt _ tt (same_options (withdraw b x k) t) e;
      step = λ s x r p i j e. accepted_up (λ u. u) s x (step_refusal s r p i j) tt _ tt (same_options (step x r p i j) (alone s)) e;
      run = λ s x b ran e. accepted_up (λ u. u) s x (run_refusal s) _ _ ran (same_options (run x b) (alone s)) e;
      fill = filled_up;
    }

-- "No step raises any option's count": whatever is lent to a single step or to a run, and whatever it answers.
abbrev pub NamedNoMore : List ℕ → List ℕ → Type 0
NamedNoMore left lent = (v : ℕ) → mark_count v (nodes_in left) ≤ mark_count v (nodes_in lent)

pub record NoStepRaisesACount : Type 0 where
  pub step : (sheet index : List ℕ) (r p i j : ℕ) → NamedNoMore (step_with sheet index r p i j).lent.own sheet
  pub run : (sheet index : List ℕ) (budget : ℕ) → NamedNoMore (run_with sheet index budget).lent.own sheet

pub no_step_raises_a_count : NoStepRaisesACount
no_step_raises_a_count =
    record {
      step = λ s index. after_step s index (λ left. NamedNoMore left s) (λ v. omega arith) (λ h k ms t v. steps_name v s h t);
      run = λ s index. after_run s index (λ left. NamedNoMore left s) (λ v. omega arith) (λ h k ms t v. steps_name v s h t);
    }

-- A call with this index in place of its own.
unfoldable pub lend : List ℕ → Call → Call
lend index (key own v negative) = key index v negative
lend index (withdraw book own k) = withdraw book index k
lend index (step own r p i j) = step index r p i j
lend index (run own budget) = run index budget

-- The index that a call leaves.
unfoldable pub index_after : Call → State → List ℕ
index_after (key index v negative) t = (key_with t index v negative).lent.index
index_after (withdraw book index k) t = (withdraw_with t book index k).lent.index
index_after (step index r p i j) t = (step_with t.sheet index r p i j).lent.index
index_after (run index budget) t = (run_with t.sheet index budget).lent.index

-- What a list of calls leaves of a state and an index, where each is lent both as the one before left them; and those calls, each with
-- the index that it is lent.
abbrev pub lent_one : Call → Indexed State → Indexed State
lent_one c h = record { own = after_call (lend h.index c) h.own; index = index_after (lend h.index c) h.own }

unfoldable pub lent_on : List Call → Indexed State → Indexed State
lent_on [] h = h
lent_on (c ∷ cs) h = lent_on cs (lent_one c h)

unfoldable pub as_lent : List Call → Indexed State → List Call
as_lent [] h = []
as_lent (c ∷ cs) h = lend h.index c ∷ as_lent cs (lent_one c h)

-- A state and an index that is right for its sheet: every further call answers what it answers without an index, so none is refused for
-- its index.
pub record IndexRight (h : Indexed State) : Type 0 where
  pub fresh : take (2 * options_in h.own.sheet) h.index ≡ fresh_count h.own.sheet
  pub key : (v : ℕ) (negative : Bool) → (key_with h.own h.index v negative).answer ≡ (key_of h.own v negative).answer
  pub withdraw :
      (book : List ℕ) (k : ℕ) →
      (withdraw_with h.own book h.index k).answer ≡ (withdraw_of h.own book k).answer
  pub step :
      (r p i j : ℕ) →
      (step_with h.own.sheet h.index r p i j).answer ≡ (step_of h.own.sheet r p i j).answer
  pub run : (budget : ℕ) → (run_with h.own.sheet h.index budget).answer ≡ (run_of h.own.sheet budget).answer

-- A list of calls from a state and an index: the index is right after it, as long as it was, and the state is the one that demand 3 speaks
-- of, for the calls as they were lent.
pub record LentOn (start : Indexed State) (calls : List Call) : Type 0 where
  pub index_right : IndexRight (lent_on calls start)
  pub length_stays : length (lent_on calls start).index ≡ length start.index
  pub state_is : (lent_on calls start).own ≡ after_calls (as_lent calls start) start.own

right_answers : (h : Indexed State) → Right h.own.sheet h.index → IndexRight h
right_answers h r =
    record {
      fresh = r;
      key = λ v n. ap (λ o. o.answer) (key_right h.own h.index r v n);
      withdraw = λ b k. ap (λ o. o.answer) (withdraw_right h.own h.index r b k);
      step = λ x p i j. ap (λ o. o.answer) (step_right h.own.sheet h.index r x p i j);
      run = λ b. ap (λ o. o.answer) (run_right h.own.sheet h.index r b);
    }

-- One call more: the index that it leaves has the fresh count of the sheet left at its start.
beside_placed :
    {L A : Type 0} (sheet : L → List ℕ) (index : List ℕ) {o : Outcome (Indexed L) A} {p : Outcome L A} →
    o ≡ beside sheet index p →
    o.lent.index ≡ placed (fresh_count (sheet o.lent.own)) index
beside_placed sheet index e = ap (λ x. x.lent.index) e ∙ ap (λ x. placed (fresh_count (sheet x.lent.own)) index) (sym e)

index_placed :
    (c : Call) (t : State) (index : List ℕ) →
    Right t.sheet index →
    index_after (lend index c) t ≡ placed (fresh_count (after_call (lend index c) t).sheet) index
unfolding index_after lend after_call
index_placed (key own v negative) t index r = beside_placed (λ u. u.sheet) index (key_right t index r v negative)
index_placed (withdraw book own k) t index r = beside_placed (λ u. u.sheet) index (withdraw_right t index r book k)
index_placed (step own s p i j) t index r = beside_placed (λ u. u) index (step_right t.sheet index r s p i j)
index_placed (run own budget) t index r = beside_placed (λ u. u) index (run_right t.sheet index r budget)

lent_so : (calls : List Call) (start : Indexed State) → Right start.own.sheet start.index → LentOn start calls
unfolding lent_on as_lent after_calls
lent_so [] start r = record { index_right = right_answers start r; length_stays = refl; state_is = refl }
lent_so (c ∷ cs) start r =
    let t = start.own in
    let index = start.index in
    let d = lend index c in
    let s = (after_call d t).sheet in
    let e = index_placed c t index r in
    let now : Right s (index_after d t) = rw e (placed_right s index) in
    let long = placed_long s index (omega (arith, right_long t.sheet index r, same_options d t)) in
    let later = lent_so cs (lent_one c start) now in
    record {
      index_right = later.index_right;
      length_stays = later.length_stays ∙ ap length e ∙ long;
      state_is = later.state_is;
    }

-- From a freshly loaded book, any lines, and an index of at least twice N numbers, whatever they are.
module _ (book target : List ℕ) (lines : List Line) (count : ℕ) (index : List ℕ) where
  abbrev order : State
  order = order_of book target lines count

  -- The index once it is filled from the loaded sheet.
  abbrev pub filled : Indexed State
  filled = record { own = order; index = (fill_of order.sheet index).lent }

  -- The fill is accepted; and whatever calls follow, each lent the sheet, the lines and the index as the one before left them, none is
  -- refused for its index, which is right after each and as long as it was.
  pub index_lent_on :
      (book_accepted : check_of book ≡ accepted tt) →
      (target_long_enough : length target ≡ sheet_length) →
      (index_has_room : 2 * options_of book ≤ length index) →
      ((fill_of order.sheet index).answer ≡ accepted tt) × ((calls : List Call) → LentOn filled calls)
  unfolding fill_of fill_refusal outcome first_of only_if
  index_lent_on ok long room =
      let k = (loaded_agrees book target lines count ok long).keeps in
      let s = order.sheet in
      let e : fill_of s index ≡ record { answer = accepted tt; lent = placed (fresh_count s) index } =
      rw (k.sheet, le-ltb (length index) (index_length s) (omega (arith, k.options))) in
      (ap (λ o. o.answer) e, λ calls. lent_so calls filled (rw e (placed_right s index)))
