use mathlib.Core.Bool.{Bool}
use mathlib.Core.Path.{◌≡◌, sym, ap, ◌∙◌}
use Prim.Native.Nat.{ℕ, ◌+◌, ◌<◌}
use native.Mathlib.Omega.{arith}
use Rattle.model.specs.Limits.{most_literals}
use Rattle.model.specs.Sheet.{used_in}
use Rattle.theory_forms.specs.Scan.{is_literal}
use Rattle.theory_reading.specs.Leaves.{place_at}
use Rattle.report_parts.proofs.Linking.{literal_place, linking_none, linking_other, linking_more}
use Rattle.report_parts.proofs.link.Goals as goal
use Rattle.report_parts.proofs.link.Goals.{After-place_of-own, then-is_literal, else-is_literal}

-- Whether the number at the place is a literal's, and that a literal's place in the table is below the table's end.
literal : {x y : ℕ} {r b : Bool} → x ≡ y → r ≡ is_literal x → r ≡ b → is_literal y ≡ b
literal e f h = ap is_literal (sym e) ∙ sym f ∙ h

small : (c : After-place_of-own) → c.place_of-own.result < most_literals
small c =
    let w = c.loop-i.invariant in
    let e = c.from-x.ensures in
    rw (c.place_of-own.ensures ∙ ap place_at e)
    (literal_place _ w.1 c.loop-i.i w.2.from (omega arith) (literal e c.is_literal.ensures c.if-is_literal.true))

pub loop-i-init : goal.loop-i-init
unfolding used_in
loop-i-init c = (ap (λ u. 2 + u) c.from-end.ensures, c.requires.formed, linking_none _ c.requires.links_value)

pub overflow_add-own : goal.overflow_add-own
overflow_add-own c = omega (arith, small (goal.at.overflow_add-own c).After-place_of-own)

pub offset_bounds-links-own : goal.offset_bounds-links-own
offset_bounds-links-own c = omega (arith, small (goal.at.offset_bounds-links-own c).After-place_of-own)

pub bounds-links-own : goal.bounds-links-own
bounds-links-own c = omega (arith, small (goal.at.bounds-links-own c).After-place_of-own)

pub offset_bounds-links-own-then-is_literal : goal.offset_bounds-links-own-then-is_literal
offset_bounds-links-own-then-is_literal c = omega (arith, small (goal.at.offset_bounds-links-own-then-is_literal c).After-place_of-own)

pub bounds-links-own-then-is_literal : goal.bounds-links-own-then-is_literal
bounds-links-own-then-is_literal c = omega (arith, small (goal.at.bounds-links-own-then-is_literal c).After-place_of-own)

pub loop-i-preserved : goal.loop-i-preserved
loop-i-preserved c =
    let w = c.loop-i.invariant in
    let e = c.from-x.ensures in (
      w.0,
      w.1,
      elim c.if-is_literal.branch [
        | then-is_literal v ↦
            let one = literal e c.is_literal.ensures v.if-is_literal.true in
            let p = v.place_of-own.ensures ∙ ap place_at e in
            let b : c.loop-i.i < 2 + used_in c.args.sheet.now = omega arith in
            rw v.links-is (linking_more w.2 b one p (rw p (literal_place _ w.1 c.loop-i.i w.2.from b one)) (omega (arith, w.0, w.1.used)))
        | else-is_literal v ↦ rw v.links-is (linking_other w.2 (omega arith) (literal e c.is_literal.ensures v.if-is_literal.false))
      ],
    )
