use mathlib.Core.Path.{◌≡◌, subst}
use Prim.Native.Nat.{◌+◌, ◌-◌, ◌<◌}
use native.Mathlib.Omega.{arith}
use lib.ListN.{get_or}
use Rattle.search_sizes.specs.Ranges.{block, range_join}
use Rattle.search_sizes.specs.SizeTables.{NonePast}
use Rattle.search_sizes.proofs.before_blocks.Goals as goal

pub loop-q-preserved : goal.loop-q-preserved
loop-q-preserved c =
    let a = c.args in
    let q = c.loop-q.q in
    let none_here = c.some_reaching.ensures c.if-not-some_reaching.true in
    let sum : q - block + block ≡ q = omega arith in
    let here = subst (λ to. NonePast a.place (q - block) to a.sizes.now) sum none_here in
    (omega (arith, c.loop-q.invariant.0), range_join (λ k. a.place < k + get_or a.sizes.now k 0 → ⊥) q here c.loop-q.invariant.1)
