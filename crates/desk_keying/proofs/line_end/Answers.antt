use mathlib.Core.Path.{◌≡◌}
use native.Mathlib.Omega.{arith}
use lib.ListN.{length}
use Rattle.desk_keying.proofs.KeyedLines.{ending_here, ending_later, ending_none}
use Rattle.desk_keying.proofs.line_end.Goals as goal

pub loop-i-init : goal.loop-i-init
loop-i-init c = omega arith

pub returns-then-byte-eq10 : goal.returns-then-byte-eq10
returns-then-byte-eq10 c =
    (omega (arith, ending_here c.args.s.now c.loop-i.i (omega arith) c.if-byte-eq10.true, c.loop-i.invariant), omega arith)

pub loop-i-preserved : goal.loop-i-preserved
loop-i-preserved c =
    omega (arith, ending_later c.args.s.now c.loop-i.i (omega arith) c.if-byte-eq10.false, c.loop-i.invariant)

pub returns : goal.returns
returns c =
    let s = c.args.s.now in
    let e : c.loop-i.i ≡ length s = omega arith in
    (omega (arith, ending_none s, rw e at c.loop-i.invariant), omega arith)
