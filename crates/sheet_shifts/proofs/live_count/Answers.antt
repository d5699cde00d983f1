use Rattle.std.proofs.Common.{arith}
use Rattle.std.proofs.Math.ListN.{get_or-eq_default}
use Rattle.sheet_shifts.proofs.Shifting.{live_over, live_more}
use Rattle.sheet_shifts.proofs.live_count.Goals as goal

pub returns-then-x-eq0 : goal.returns-then-x-eq0
returns-then-x-eq0 c = omega (arith, live_over c.args.s.now c.loop-i.i c.if-x-eq0.true)

pub loop-i-preserved : goal.loop-i-preserved
loop-i-preserved c = omega (arith, live_more c.args.s.now c.loop-i.i (omega arith) c.if-x-eq0.false)

pub returns : goal.returns
returns c =
    let l = c.args.s.now in
    omega (arith, live_over l c.loop-i.i (get_or-eq_default l 0 (omega arith)))
