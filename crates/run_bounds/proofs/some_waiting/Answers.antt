use mathlib.Core.Path.{◌≡◌, subst}
use Prim.Native.Nat.{◌+◌}
use native.Mathlib.Omega.{arith}
use borrow.Author.Tests.{leb-false}
use lib.Dec.{leb}
use lib.ListN.{get_or}
use Rattle.theory_forms.specs.Logic.{or_neither}
use Rattle.run_bounds.specs.BoundTables.{High}
use Rattle.run_bounds.proofs.RisingBounds.{high_more}
use Rattle.run_bounds.proofs.some_waiting.Goals as goal

pub loop-k-preserved : goal.loop-k-preserved
loop-k-preserved c =
    let a = c.args in
    let x = get_or a.low.now (a.from + c.loop-k.k) 0 in
    let sum : a.from + c.loop-k.k + 1 ≡ a.from + (c.loop-k.k + 1) = omega arith in
    λ e. let both = or_neither c.loop-k.some (leb x a.rule) e in
    subst (λ k. High (a.rule + 1) a.from k a.low.now) sum
    (high_more (a.from + c.loop-k.k) a.low.now (c.loop-k.invariant both.0) (omega (arith, leb-false x a.rule both.1)))
