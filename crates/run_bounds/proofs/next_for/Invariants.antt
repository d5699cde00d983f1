-- `run_bounds::next_for` meets its contract. Invariant: no rule after the first, below the present one, is for the kind.
use mathlib.Core.Path.{◌≡◌}
use Prim.Native.Nat.{ℕ, ◌<◌}
use Rattle.rule_table.specs.Columns.{kind_for}
use Rattle.run_bounds.proofs.next_for.Given as goal

abbrev pub invariant-loop-next : goal.invariant-loop-next
invariant-loop-next l = (s : ℕ) → l.rule < s → s < l.next → kind_for s ≡ l.kind → ⊥
