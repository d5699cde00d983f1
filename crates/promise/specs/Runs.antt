-- Demand 3 put to use: what a run says that is made in the midst of any list.
use Rattle.std.proofs.Math.Bool.{true}
use mathlib.Core.List.{List, [], ◌∷◌, ◌++◌}
use Rattle.std.specs.Prelude.{◌≡◌, ℕ, ◌≤◌}
use Rattle.model.specs.Strategy.{most_steps}
use Rattle.model.specs.Sheet.{nodes_in}
use Rattle.calls.specs.Outcomes.{accepted}
use Rattle.calls.specs.Calls.{Ran, run_with}
use Rattle.calls.specs.Lines.{State}
use Rattle.calls.specs.History.{Call, run, after_calls, loaded, account_calls}
use Rattle.promise.specs.Lists.{Normal}

-- A run on a sheet is accepted, and its count is at most the cube of n + 2l, where n "counts each kind 6 node twice".
pub record Counts (sheet index : List ℕ) (budget : ℕ) : Type 0 where
  pub ran : Ran
  pub says : (run_with sheet index budget).answer ≡ accepted ran
  pub few : ran.count ≤ most_steps (nodes_in sheet)

-- What a run with this budget says after a list of calls: settled, and the sheet that it leaves is a normal form of the account.
pub record Settles (book : List ℕ) (start : State) (before : List Call) (index : List ℕ) (budget : ℕ) : Type 0 where
  pub ran : Ran
  pub says : (run_with (after_calls before start).sheet index budget).answer ≡ accepted ran
  pub settled : ran.settled ≡ true
  pub normal :
      Normal
      (account_calls (before ++ (run index budget ∷ [])) start (loaded book start))
      (after_calls (before ++ (run index budget ∷ [])) start).sheet
