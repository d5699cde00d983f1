-- The sheet that steps leave is a sheet, of as many options.
use Rattle.std.specs.Prelude.{true, List, ◌≡◌, ℕ, ◌≤◌, length}
use Rattle.std.proofs.Common.{arith}
use Rattle.model.specs.Base.{maybe}
use Rattle.model.specs.Code.{Node, weight}
use Rattle.model.specs.Limits.{most_weight}
use Rattle.model.specs.Rules as rules
use Rattle.model.specs.Sheet.{options_in, nodes_in, is_sheet, sheet_of}
use Rattle.model.specs.Results.{stepped, run_through}
use Rattle.calls.specs.Conditions.{applies, index_length}
use Rattle.theory_forms.specs.Logic.{is_some_of}
use Rattle.theory_forms.specs.Sheets.{sheet_shaped, sheet_options, sheet_weight, sheet_made, nodes_made, options_made}
use Rattle.theory_rewriting.specs.Steps.{Steps, done, more, steps_shaped, steps_weight}
use Rattle.theory_rewriting.specs.Runs.{run_steps}
use Rattle.theory_rewriting.specs.Reached.{strategy_steps}

pub record Left (s t : List ℕ) : Type 0 where
  pub sheet : is_sheet t ≡ true
  pub options : options_in t ≡ options_in s

-- So an index that was long enough for the one is so for the other.
pub left_room :
    {s t : List ℕ} (index : List ℕ) →
    Left s t →
    index_length s ≤ length index →
    (is_sheet t ≡ true) × (index_length t ≤ length index)
left_room index left room = (left.sheet, omega (arith, left.options))

module _ (s : List ℕ) (h : is_sheet s ≡ true) where
  pub steps_left : {k : ℕ} {ms : List Node} → Steps k (nodes_in s) ms → Left s (sheet_of (options_in s) ms)
  steps_left {ms = ms} t =
      let form = sheet_shaped s h in
      let light : weight ms ≤ most_weight = omega (arith, sheet_weight s h, steps_weight form t) in
      record { sheet = sheet_made (sheet_options s h) (steps_shaped form t) light; options = options_made (options_in s) ms }

  -- Its nodes are those that the steps end with.
  pub steps_nodes : {k : ℕ} {ms : List Node} → Steps k (nodes_in s) ms → nodes_in (sheet_of (options_in s) ms) ≡ ms
  steps_nodes t =
      let form = sheet_shaped s h in
      nodes_made (sheet_options s h) (steps_shaped form t) (omega (arith, sheet_weight s h, steps_weight form t))

  pub stepped_left : (r p i j : ℕ) → applies s r p i j ≡ true → Left s (stepped s r p i j)
  unfolding stepped maybe
  stepped_left r p i j e =
      let w = is_some_of (rules.step r p i j (nodes_in s)) e in
      rw w.1 (steps_left (more r p i j w.1 done))

  pub run_left : (budget : ℕ) → Left s (run_through s budget)
  unfolding run_through
  run_left budget = steps_left (strategy_steps (run_steps budget (nodes_in s)))
