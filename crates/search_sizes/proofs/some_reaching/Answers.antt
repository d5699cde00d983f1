use mathlib.Core.Path.{◌≡◌, subst}
use Prim.Native.Nat.{◌+◌, ◌-◌, ◌<◌}
use native.Mathlib.Omega.{arith}
use borrow.Author.Tests.{ltb-false}
use lib.Dec.{ltb}
use lib.ListN.{get_or}
use Rattle.theory_forms.specs.Logic.{or_neither}
use Rattle.search_sizes.specs.Ranges.{range_more}
use Rattle.search_sizes.specs.SizeTables.{NonePast}
use Rattle.search_sizes.proofs.some_reaching.Goals as goal

pub loop-k-preserved : goal.loop-k-preserved
loop-k-preserved c =
    let a = c.args in
    let q = a.from + c.loop-k.k in
    let x = get_or a.sizes.now q 0 in
    let y = a.place - a.from - c.loop-k.k in
    let sum : q + 1 ≡ a.from + (c.loop-k.k + 1) = omega arith in
    λ e. let both = or_neither c.loop-k.some (ltb y x) e in
    subst (λ to. NonePast a.place a.from to a.sizes.now) sum
    (range_more (λ m. a.place < m + get_or a.sizes.now m 0 → ⊥) q (c.loop-k.invariant both.0)
    (λ h. omega (arith, ltb-false y x both.1, c.requires.1)))
