-- A run under way: the sheet that so many steps of the strategy have led to, and what it says where it ends.
use Rattle.std.specs.Prelude.{Bool, true, false, List, ◌≡◌, ℕ, ◌+◌, ◌≤◌}
use Rattle.std.proofs.Math.Option.{none, some}
use Rattle.std.proofs.Common.{sym, subst, ◌∙◌, zero-add, suc-add, arith}
use Rattle.std.proofs.Math.Path.{ap}
use Rattle.model.specs.Base.{is_some, maybe, then}
use Rattle.model.specs.Code.{Node, weight}
use Rattle.model.specs.Limits.{most_weight}
use Rattle.model.specs.Rules as M
use Rattle.model.specs.Strategy as S
use Rattle.model.specs.Strategy.{Redex, next, next_step, contract}
use Rattle.model.specs.Sheet.{options_in, nodes_in, sheet_of}
use Rattle.model.specs.Results.{stepped, run_through}
use Rattle.theory_rewriting.specs.Steps.{Steps, done, more, steps_shaped, steps_weight, steps_bound}
use Rattle.theory_rewriting.specs.Strategy.{none_iff, next_applies}
use Rattle.theory_rewriting.specs.Runs as R
use Rattle.theory_rewriting.specs.Runs.{StrategySteps, run_steps, strategy_step_of, run_is, run_spent}
use Rattle.theory_forms.specs.Sheets.{Formed, sheet_is, formed_made, nodes_made, options_made}

-- A run's steps are steps, and bounded as they are.
pub strategy_steps : {k : ℕ} {ns ms : List Node} → StrategySteps k ns ms → Steps k ns ms
strategy_steps R.done = done
strategy_steps (R.more {ns = ns} e t) =
    let w = strategy_step_of ns e in
    more w.0.rule w.0.place w.0.i w.0.j w.2 (strategy_steps t)

pub run_bounded : (s : List ℕ) (budget : ℕ) → Formed s → (S.run budget (nodes_in s)).count ≤ S.most_steps (nodes_in s)
run_bounded s budget h = steps_bound h.shaped (strategy_steps (run_steps budget (nodes_in s)))

-- Steps after steps.
steps_after :
    {k : ℕ} {ns ms : List Node} →
    StrategySteps k ns ms →
    {os : List Node} →
    next_step ms ≡ some os →
    StrategySteps (k + 1) ns os
steps_after (R.done {ns}) {os} e = subst (λ n. StrategySteps n ns os) (sym (zero-add 1)) (R.more e R.done)
steps_after (R.more {k} {ns} d t) {os} e = subst (λ n. StrategySteps n ns os) (sym (suc-add k 1)) (R.more d (steps_after t e))

-- So many steps lead from one sheet to another.
pub record Reached (start : List ℕ) (count : ℕ) (s : List ℕ) : Type 0 where
  pub sheet : Formed s
  pub steps : StrategySteps count (nodes_in start) (nodes_in s)
  pub same : s ≡ sheet_of (options_in start) (nodes_in s)

pub reached_start : (s : List ℕ) → Formed s → Reached s 0 s
reached_start s h = record { sheet = h; steps = R.done; same = sheet_is s h }

-- The strategy's step applies, and one step more is done.
module _ {start s : List ℕ} {count : ℕ} (r : Reached start count s) {x : Redex} (e : next (nodes_in s) ≡ some x) where
  pub next_here : is_some (M.step x.rule x.place x.i x.j (nodes_in s)) ≡ true
  unfolding is_some
  next_here = ap is_some (next_applies (nodes_in s) e).1

  pub reached_more : Reached start (count + 1) (stepped s x.rule x.place x.i x.j)
  unfolding stepped next_step then contract maybe
  reached_more =
      let a = next_applies (nodes_in s) e in
      let h = r.sheet in
      let form = h.shaped in
      let one = more x.rule x.place x.i x.j a.1 done in
      let light : weight a.0 ≤ most_weight = omega (arith, h.weight, steps_weight form one) in
      let after = steps_shaped form one in
      let back = nodes_made h.options after light in
      let options : options_in s ≡ options_in start = ap options_in r.same ∙ options_made (options_in start) (nodes_in s) in
      let stepping : next_step (nodes_in s) ≡ some a.0 = ap (λ o. then o (λ y. contract y (nodes_in s))) e ∙ a.1 in
      rw a.1
      (record {
        sheet = formed_made h.options after light;
        steps = rw back (steps_after r.steps stepping);
        same = ap (sheet_of (options_in s)) (sym back) ∙ ap (λ n. sheet_of n (nodes_in (sheet_of (options_in s) a.0))) options;
      })

-- What a run says and leaves, where no rule applies within the budget, and where the budget is spent and a rule still applies.
pub record Ends (start : List ℕ) (budget : ℕ) (settled : Bool) (count : ℕ) (s : List ℕ) : Type 0 where
  pub says : settled ≡ (S.run budget (nodes_in start)).settled
  pub counts : count ≡ (S.run budget (nodes_in start)).count
  pub leaves : s ≡ run_through start budget

run_ends :
    (start s : List ℕ) (budget count : ℕ) (t : Bool) →
    Reached start count s →
    S.run budget (nodes_in start) ≡ record { settled = t; count = count; nodes = nodes_in s } →
    Ends start budget t count s
unfolding run_through
run_ends start s budget count t r e =
    record {
      says = sym (ap (λ x. x.settled) e);
      counts = sym (ap (λ x. x.count) e);
      leaves = r.same ∙ ap (λ x. sheet_of (options_in start) x.nodes) (sym e);
    }

module _ {start s : List ℕ} {count : ℕ} (r : Reached start count s) (budget : ℕ) where
  pub run_done : count ≤ budget → next (nodes_in s) ≡ none → Ends start budget true count s
  run_done le e = run_ends start s budget count true r (run_is budget r.steps le ((none_iff (nodes_in s)).0 e))

  pub run_over : count ≡ budget → {x : Redex} → next (nodes_in s) ≡ some x → Ends start budget false count s
  run_over same e =
      run_ends start s budget count false r (ap (λ b. S.run b (nodes_in start)) (sym same) ∙ run_spent r.steps e)
