-- `rule_factor::group_of` meets its contract, by the test for a literal.
use mathlib.Core.Path.{◌≡◌, refl, sym, ap, ◌∙◌}
use Prim.Native.Nat.{ℕ}
use native.Mathlib.Omega.{arith}
use Rattle.theory_forms.specs.Logic.{pick_true, pick_false}
use Rattle.theory_forms.specs.Scan.{is_literal}
use Rattle.rule_factor.specs.Walks.{group_here}
use Rattle.rule_factor.proofs.group_of.Goals as goal
use Rattle.rule_factor.proofs.group_of.Goals.{After-is_literal}

seen : (c : goal.After-is_literal) → c.is_literal.result ≡ is_literal c.args.x
seen c = c.is_literal.ensures ∙ ap is_literal c.from.ensures

pub returns-then-is_literal : goal.returns-then-is_literal
unfolding group_here
returns-then-is_literal c =
    rw (pick_true {A = ℕ} _ 0 1 (sym (seen (goal.at.returns-then-is_literal c).After-is_literal) ∙ c.if-is_literal.true)) (refl, omega arith)

pub returns-else-is_literal : goal.returns-else-is_literal
unfolding group_here
returns-else-is_literal c = rw (pick_false {A = ℕ} _ 0 1 (sym (seen (goal.at.returns-else-is_literal c).After-is_literal) ∙ c.if-is_literal.false)) (refl, omega arith)
