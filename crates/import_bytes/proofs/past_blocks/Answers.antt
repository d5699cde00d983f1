use mathlib.Core.Path.{refl, sym, ◌∙◌}
use native.Mathlib.Omega.{arith}
use Rattle.import_bytes.proofs.CommentLines.{block_passed}
use Rattle.import_bytes.proofs.past_blocks.Goals as goal

pub loop-i-init : goal.loop-i-init
loop-i-init c = (c.requires, refl)

pub loop-i-preserved : goal.loop-i-preserved
loop-i-preserved c =
    let n = c in
    let a = n.args in
    block_passed a.text.now a.at n.loop-i.i n.loop-i.invariant (omega (arith, n.loop-i.invariant.0, c.loop-i-test.true))
    (sym c.goes_on.ensures ∙ c.if-goes_on.true)
