use mathlib.Core.Logic.{inl, inr, ⊎_elim}
use mathlib.Core.Path.{◌≡◌, sym, ap, ◌∙◌}
use Prim.Native.Nat.{◌+◌}
use native.Mathlib.Omega.{arith}
use Rattle.model.specs.Code.{kind}
use Rattle.model.specs.Sheet.{used_in}
use Rattle.theory_reading.specs.Spans.{span}
use Rattle.report_parts.specs.Parts.{stretch}
use Rattle.report_parts.proofs.Finding.{finding_none, finding_head, finding_part, part_some, parted}
use Rattle.report_parts.proofs.find.Goals as goal
use Rattle.report_parts.proofs.find.Goals.{After-span_of, In-loop-i, Then-k-eq5}

-- It begins a part: the numbers that its tree takes.
spanned : (c : After-span_of) → c.span_of.result ≡ span 1 (stretch c.loop-i.i (2 + used_in c.args.sheet.now) c.args.sheet.now)
spanned c = c.span_of.ensures.0 ∙ ap (λ e. span 1 (stretch c.loop-i.i e c.args.sheet.now)) c.loop-i.invariant.0

pub loop-i-init : goal.loop-i-init
unfolding used_in
loop-i-init c =
    (ap (λ u. 2 + u) c.from-end.ensures, c.requires.formed, finding_none _ c.requires.ends_value c.requires.homes_value)

pub loop-i-preserved-then-k-eq5 : goal.loop-i-preserved-then-k-eq5
loop-i-preserved-then-k-eq5 c =
    let w = c.loop-i.invariant in
    let e = ap kind (sym c.from.ensures) ∙ sym c.kind_of-k.ensures in
    (w.0, w.1, finding_head w.1 w.2 (omega arith) (⊎_elim (λ v. inl (e ∙ v)) (λ v. inr (e ∙ v.1)) c.if-k-eq5.either))

pub loop-i-smaller : goal.loop-i-smaller
loop-i-smaller c =
    let w = c.loop-i.invariant in
    omega (arith, part_some w.1 w.2 (omega arith) (spanned (goal.at.loop-i-smaller c).After-span_of))

pub loop-i-preserved : goal.loop-i-preserved
loop-i-preserved c =
    let w = c.loop-i.invariant in
    (w.0, w.1, finding_part w.1 w.2 (omega arith) (spanned (goal.at.loop-i-preserved c).After-span_of) c.claim.ensures (omega (arith, w.0, w.1.used)))

pub returns : goal.returns
returns c = let w = c.loop-i.invariant in parted w.2 (rw w.0 at c.loop-i-test.false)
