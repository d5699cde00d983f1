-- Demand 3 put to use: runs in the midst of any list. These theorems rest on demand 3 alone for what they say of steps and of normal
-- forms, so it holds of lists that there are.
use Rattle.std.proofs.Math.Bool.{true}
use mathlib.Core.List.{List, [], ◌∷◌, ◌++◌}
use Rattle.std.specs.Prelude.{◌≡◌, ℕ, suc, ◌≤◌, length}
use Rattle.std.proofs.Math.Path.{refl}
use Rattle.std.proofs.Common.{ap, ◌∙◌, arith}
use Rattle.model.specs.Strategy as strategy
use Rattle.model.specs.Strategy.{most_steps}
use Rattle.model.specs.Limits.{sheet_length}
use Rattle.model.specs.Sheet.{nodes_in, is_sheet}
use Rattle.calls.specs.Outcomes.{accepted, if_accepted}
use Rattle.calls.specs.Calls.{check_of, run_with}
use Rattle.calls.specs.Lines.{Line, State}
use Rattle.calls.specs.History.{Call, run, after_calls, rekeys, is_stretch}
use Rattle.calls.specs.History.{steps_of_call, steps_of, says_settled, ends_settled}
use Rattle.theory_index.specs.Right.{Right}
use Rattle.theory_index.specs.WithIndex.{run_right}
use Rattle.call_laws.specs.Effects.{run_outcome}
use Rattle.call_laws.specs.SettledLists.{ends_last, run_enough}
use Rattle.promise.specs.Lists.{order_of}
use Rattle.promise.proofs.Lists.{demand_3}
use Rattle.promise.specs.Runs.{Counts, Settles}

module _ (book target : List ℕ) (lines : List Line) (count : ℕ) where
  abbrev start : State
  start = order_of book target lines count

  -- The sheet after some calls, and the count of a run there, by demand 3.
  module _
      (ok : check_of book ≡ accepted tt)
      (long : length target ≡ sheet_length)
      (before : List Call)
    where
      abbrev here : List ℕ
      here = (after_calls before start).sheet

      here_sheet : is_sheet here ≡ true
      here_sheet = (demand_3 book target lines count ok long before).means.is_a_sheet

      -- What a run says that is lent a right index there.
      said :
          (index : List ℕ) (budget : ℕ) →
          Right here index →
          let r = strategy.run budget (nodes_in here) in
          (run_with here index budget).answer ≡ accepted (record { settled = r.settled; count = r.count })
      said index budget right =
          ap (λ o. o.answer) (run_right here index right budget) ∙ ap (λ o. o.answer) (run_outcome here budget here_sheet)

      counted :
          (calls rest : List Call) (index : List ℕ) (budget : ℕ) →
          calls ≡ before ++ (run index budget ∷ rest) →
          Right here index →
          (strategy.run budget (nodes_in here)).count ≤ most_steps (nodes_in here)
      unfolding is_stretch rekeys steps_of steps_of_call if_accepted
      counted calls rest index budget parts right =
          let bound = (demand_3 book target lines count ok long calls).bounded before (run index budget ∷ []) rest parts refl in
          omega (arith, rw (said index budget right) at bound)

  -- "Whatever the budgets, no stretch of the list without an accepted choice does more steps than the cube of n + 2l", and "the step
  -- bound counts each kind 6 node twice": a run in the midst of any list is a stretch. Document 02, U5: it is lent an index that is right,
  -- which is to say neither stale nor short.
  pub run_counts :
      (book_accepted : check_of book ≡ accepted tt) →
      (target_long_enough : length target ≡ sheet_length) →
      (calls before rest : List Call) (index : List ℕ) (budget : ℕ) →
      (calls_are : calls ≡ before ++ (run index budget ∷ rest)) →
      (index_right : Right (after_calls before start).sheet index) →
      Counts (after_calls before start).sheet index budget
  run_counts ok long calls before rest index budget parts right =
      record { ran = _; says = said ok long before index budget right; few = counted ok long before calls rest index budget parts right }

  -- "Where the list ends in a run that says settled, no rule applies to the sheet": with a budget of at least that cube it does say
  -- settled.
  pub run_settles :
      (book_accepted : check_of book ≡ accepted tt) →
      (target_long_enough : length target ≡ sheet_length) →
      (before : List Call) (index : List ℕ) (budget : ℕ) →
      (index_right : Right (after_calls before start).sheet index) →
      (budget_enough : most_steps (nodes_in (after_calls before start).sheet) ≤ budget) →
      Settles book start before index budget
  unfolding says_settled if_accepted
  run_settles ok long before index budget right enough =
      let says = said ok long before index budget right in
      let more = before ++ (run index (suc budget) ∷ []) in
      let few = counted ok long before more [] index (suc budget) refl right in
      let settled = run_enough budget (nodes_in (here ok long before)) (omega arith) in
      let calls = before ++ (run index budget ∷ []) in
      let last : ends_settled calls start ≡ true = rw (ends_last before (run index budget) start, says_settled, says) settled in
      record {
        ran = _;
        says = says;
        settled = settled;
        normal = (demand_3 book target lines count ok long calls).settled last;
      }
