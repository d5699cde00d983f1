use native.Mathlib.Omega.{arith}
use lib.ListN.{length-take}
use Rattle.report_propagation.proofs.Looking.{breaks_more, breaks_all}
use Rattle.report_propagation.proofs.look_inside.Goals as goal

pub loop-place-preserved : goal.loop-place-preserved
loop-place-preserved c =
    let e = c.learn.ensures in
    let size = length-take c.in_ok-n.n c.breaking.new.places in
    breaks_more c.loop-place.invariant (omega (arith, size, c.loop-place-test.true)) c.from.ensures e.value e.failed_after e.trail_after

pub returns : goal.returns
returns c =
    let w = c.loop-place.invariant in
    let size = length-take c.in_ok-n.n c.breaking.new.places in
    breaks_all w (omega (arith, size, w.broken.few, c.loop-place-test.false, c.breaking.auto.places))
