use mathlib.Core.Path.{◌≡◌, ap, ◌∙◌}
use native.Mathlib.Omega.{arith}
use lib.ListN.{get_or, drop}
use Rattle.theory_reading.specs.Spans.{arity, span_none, span_end, span_step}
use Rattle.common_nodes.proofs.span_of.Goals as goal

pub returns-then-pending-eq0 : goal.returns-then-pending-eq0
returns-then-pending-eq0 c = omega (arith, rw c.if-pending-eq0.true at c.loop-i.invariant.1, span_none (drop c.loop-i.i c.args.s.now))

pub loop-i-preserved : goal.loop-i-preserved
loop-i-preserved c =
    let s = c.args.s.now in
    let i = c.loop-i.i in
    let announced : c.arity_of.result ≡ arity (get_or s i 0) = c.arity_of.ensures.0 ∙ ap arity c.from.ensures in
    (omega arith, c.loop-i.invariant.1 ∙ span_step c.loop-i.pending i s (omega arith) (omega arith) ∙ rw announced)

pub returns : goal.returns
returns c = omega (arith, span_end c.loop-i.pending c.loop-i.i c.args.s.now)
