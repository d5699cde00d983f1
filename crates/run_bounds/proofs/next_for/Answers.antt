use mathlib.Core.Path.{◌≡◌, ◌∙◌}
use Prim.Native.Nat.{◌+◌}
use native.Mathlib.Omega.{arith}
use Rattle.search_sizes.specs.Ranges.{range_more}
use Rattle.rule_table.specs.Columns.{kind_for}
use Rattle.run_bounds.proofs.next_for.Goals as goal

pub loop-next-preserved : goal.loop-next-preserved
loop-next-preserved c =
    let a = c.args in
    λ s l m. range_more (λ k. kind_for k ≡ a.kind → ⊥) {from = a.rule + 1} c.loop-next.next
    (λ k l m. c.loop-next.invariant k (omega arith) m) (λ e. c.if-kind_for-kind.false (c.kind_for.ensures ∙ e)) s (omega arith) m
