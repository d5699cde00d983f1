use mathlib.Core.Path.{◌≡◌, ap, ◌∙◌}
use native.Mathlib.Omega.{arith}
use lib.ListN.{get_or}
use Rattle.run_bounds_after.specs.Resized.{fallen_size}
use Rattle.run_bounds_after.proofs.FallenSizes.{shrunk_more}
use Rattle.run_bounds_after.proofs.shrink.Goals as goal

pub loop-q-preserved : goal.loop-q-preserved
loop-q-preserved c =
    let a = c.args in
    let q = c.loop-q.q in
    let x = c.fallen.result in
    let made : x ≡ fallen_size a.place a.by q (get_or a.sizes.now q 0) =
    c.fallen.ensures ∙ ap (fallen_size a.place a.by q) (c.loop-q.invariant.after q (omega arith)) in
    shrunk_more q a.place a.by a.sizes.now c.loop-q.sizes (omega (arith, c.requires.to_in_bounds.0)) made c.loop-q.invariant
