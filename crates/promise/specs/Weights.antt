-- "No step raises the weight": whatever is lent to a single step or to a run, and whatever it answers.
use Rattle.std.specs.Prelude.{List, ℕ, ◌≤◌}
use Rattle.std.proofs.Common.{ap, subst, arith}
use Rattle.model.specs.Code.{weight}
use Rattle.model.specs.Sheet.{nodes_in}
use Rattle.calls.specs.Index.{fresh_count}
use Rattle.calls.specs.Calls.{run_of, step_with, run_with}
use Rattle.theory_index.specs.Right.{fresh_right}
use Rattle.theory_index.specs.WithIndex.{run_right}
use Rattle.call_laws.specs.Effects.{steps_lighter, after_step, after_run}

-- What is left weighs at most what was lent.
abbrev pub Lighter : List ℕ → List ℕ → Type 0
Lighter left lent = weight (nodes_in left) ≤ weight (nodes_in lent)

pub record NoStepRaisesTheWeight : Type 0 where
  pub step : (sheet index : List ℕ) (r p i j : ℕ) → Lighter (step_with sheet index r p i j).lent.own sheet
  pub run : (sheet index : List ℕ) (budget : ℕ) → Lighter (run_with sheet index budget).lent.own sheet
  -- The desk keeps no index: its run does what one with the fresh count as its index does.
  pub desk_run : (sheet : List ℕ) (budget : ℕ) → Lighter (run_of sheet budget).lent sheet

pub no_step_raises_the_weight : NoStepRaisesTheWeight
no_step_raises_the_weight =
    record {
      step = λ s index. after_step s index (λ left. Lighter left s) (omega arith) (λ h k ms. steps_lighter s h);
      run = run;
      desk_run = λ s budget.
          subst (λ left. Lighter left s)
          (ap (λ o. o.lent.own) (run_right s (fresh_count s) (fresh_right s) budget))
          (run s (fresh_count s) budget);
    }
  where
    run : (s index : List ℕ) (budget : ℕ) → Lighter (run_with s index budget).lent.own s
    run s index = after_run s index (λ left. Lighter left s) (omega arith) (λ h k ms. steps_lighter s h)
