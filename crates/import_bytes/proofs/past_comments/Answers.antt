use mathlib.Core.Path.{refl}
use native.Mathlib.Omega.{arith}
use Rattle.import_bytes.proofs.CommentLines.{past_line, past_last, other_here, nothing_here}
use Rattle.import_bytes.proofs.past_comments.Goals as goal

pub loop-at-init : goal.loop-at-init
loop-at-init c = record { within = omega arith; same_file = refl }

pub returns-else-text-at-eq99 : goal.returns-else-text-at-eq99
returns-else-text-at-eq99 c =
    let n = c in
    let text = n.args.text.now in
    (n.loop-at.invariant.within, n.loop-at.invariant.same_file, other_here text n.loop-at.at c.if-text-at-eq99.false)

pub line_end-end-requires : goal.line_end-end-requires
line_end-end-requires c = c.loop-at.invariant.within

pub returns-then-text-end : goal.returns-then-text-end
returns-then-text-end c =
    let n = c in
    let text = n.args.text.now in
    let call = c.line_end-end in
    let past = past_last text n.loop-at.at call.result n.loop-at.invariant c.if-text-at-eq99.true call.ensures.0 c.if-text-end.true call.ensures.1 in
    (past.within, past.same_file, nothing_here text call.result c.if-text-end.true)

pub loop-at-smaller : goal.loop-at-smaller
loop-at-smaller c =
    let call = c.line_end-end in
    omega (arith, call.ensures.0, c.if-text-end.false, c.loop-at-test.true)

pub loop-at-preserved : goal.loop-at-preserved
loop-at-preserved c =
    let n = c in
    let text = n.args.text.now in
    let call = c.line_end-end in
    past_line text n.loop-at.at call.result n.loop-at.invariant c.if-text-at-eq99.true call.ensures.0 c.if-text-end.false

pub returns-after-loop-at : goal.returns-after-loop-at
returns-after-loop-at c =
    let n = c in
    let text = n.args.text.now in
    (n.loop-at.invariant.within, n.loop-at.invariant.same_file, nothing_here text n.loop-at.at c.loop-at-test.false)

pub overflow_add-at : goal.overflow_add-at
overflow_add-at c = omega (arith, c.if-text-end.false)
