use mathlib.Core.Path.{refl, sym, ◌∙◌}
use native.Mathlib.Omega.{arith}
use mathlib.Core.Path.{◌≡◌, subst}
use lib.ListN.{length}
use Rattle.theory_texts.specs.Spans.{Passed, passed_more, passed_stop, passed_end}
use Rattle.theory_texts.specs.Breaks.{breaks}
use Rattle.import_bytes.proofs.past_blanks.Goals as goal

pub loop-i-init : goal.loop-i-init
loop-i-init c = (c.requires, refl)

pub returns-then-not-breaks_at : goal.returns-then-not-breaks_at
returns-then-not-breaks_at c =
    let n = c in
    let a = n.args in
    passed_stop breaks a.text.now a.at n.loop-i.i n.loop-i.invariant (omega arith)
    (sym c.breaks_at.ensures ∙ c.if-not-breaks_at.true)

pub loop-i-preserved : goal.loop-i-preserved
loop-i-preserved c =
    let n = c in
    let a = n.args in
    passed_more breaks a.text.now a.at n.loop-i.i n.loop-i.invariant (omega arith)
    (sym c.breaks_at.ensures ∙ c.if-not-breaks_at.false)

pub returns : goal.returns
returns c =
    let a = c.args in
    let end = length a.text.now in
    let all_passed : c.loop-i.i ≡ end = omega (arith, c.loop-i.invariant.0) in
    passed_end breaks a.text.now a.at end (subst (Passed breaks a.text.now a.at) all_passed c.loop-i.invariant) (omega arith)
