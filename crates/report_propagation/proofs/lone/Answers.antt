use mathlib.Core.Bool.{Bool, true}
use mathlib.Core.List.{List}
use mathlib.Core.Path.{◌≡◌, sym, ap, ◌∙◌}
use Prim.Native.Nat.{ℕ, ◌+◌, ◌-◌, ◌<◌}
use native.Mathlib.Omega.{arith}
use lib.ListN.{length, get_or}
use Rattle.model.specs.Code.{kind}
use Rattle.theory_forms.specs.Scan.{is_literal}
use Rattle.theory_forms.specs.Sheets.{Formed}
use Rattle.theory_reading.specs.Leaves.{place_at}
use Rattle.report_parts.specs.Parts.{stretch, Part}
use Rattle.report_parts.proofs.Linking.{literal_place}
use Rattle.report_parts.proofs.Finding.{stretch_number, stretch_long}
use Rattle.report_propagation.proofs.Looking.{part_inside}
use Rattle.report_propagation.proofs.LoneLiterals.{together_alone, together_below, scanned_none, scanned_failed, scanned_here}
use Rattle.report_propagation.proofs.LoneLiterals.{scanned_two, scanned_all, scanned_only}
use Rattle.report_propagation.proofs.lone.Goals as goal
use Rattle.report_propagation.proofs.lone.Goals.{then-kind_of-eq4, else-kind_of-eq4}
use Rattle.report_propagation.proofs.lone.Goals.{then-failed-place-ne1+in_default, then-failed-place-ne1+in_default-2, else-failed-place-ne1}

-- A number of the stretch that is lent is one of the sheet's.
number : {s : List ℕ} → Formed s → {i e : ℕ} → Part s i e → (j n : ℕ) {x : ℕ} → n < length (stretch j e s) → x ≡ get_or (stretch j e s) n 0 →
    (j + n < e) × (x ≡ get_or s (j + n) 0)
number {s} sheet {i} {e} part j n l h =
    let m : n < e - j = omega (arith, l, stretch_long j e s (part_inside sheet part).0) in
    (omega arith, h ∙ stretch_number j e n s m)

-- It is a literal, and its place in the table.
literal : {x y : ℕ} {r : Bool} → x ≡ y → r ≡ is_literal x → r ≡ true → is_literal y ≡ true
literal e f h = ap is_literal (sym e) ∙ sym f ∙ h

placed : {x y p : ℕ} → x ≡ y → p ≡ place_at x → p ≡ place_at y
placed e f = f ∙ ap place_at e

pub loop-x-init : goal.loop-x-init
loop-x-init c =
    let p = c.requires in
    let goes_on = p.part.goes_on in
    let four = ap kind (sym c.from.ensures) ∙ sym c.kind_of.ensures in (
      p.formed,
      p.part,
      p.failed_len,
      elim c.if-kind_of-eq4.branch [
        | then-kind_of-eq4 v ↦
            rw v.begin-is
            (scanned_none (omega arith) (omega arith) (together_below p.formed p.part (four ∙ v.if-kind_of-eq4.true)) (omega arith))
        | else-kind_of-eq4 v ↦ rw v.begin-is (scanned_none (omega arith) (omega arith) (together_alone p.part) (omega arith))
      ],
    )

pub bounds-failed-place : goal.bounds-failed-place
bounds-failed-place c =
    let w = c.loop-x.invariant in
    let plain = w.3.plain in
    let n = number w.0 w.1 c.if-kind_of-eq4.begin c.loop-x.x-index c.loop-x-test.true c.from-x.ensures in
    rw (placed n.1 c.place_of-place.ensures)
    (literal_place _ w.0 (c.if-kind_of-eq4.begin + c.loop-x.x-index) (omega (arith, w.1.begins, plain.from, plain.past)) (omega (arith, n.0, w.1.ends))
    (literal n.1 c.is_literal.ensures c.if-not-is_literal.false))

pub returns-in-Some : goal.returns-in-Some
returns-in-Some c =
    let w = c.loop-x.invariant in
    let n = number w.0 w.1 c.if-kind_of-eq4.begin c.loop-x.x-index c.loop-x-test.true c.from-x.ensures in
    scanned_two w.0 w.1 w.2 n.0 (literal n.1 c.is_literal.ensures c.if-not-is_literal.false)
    (placed n.1 c.place_of-place.ensures) c.if-failed-place-ne1.true (rw c.in-Some.is at w.3) c.if-other-place.true

pub loop-x-preserved : goal.loop-x-preserved
loop-x-preserved c =
    let w = c.loop-x.invariant in
    let n = number w.0 w.1 c.if-kind_of-eq4.begin c.loop-x.x-index c.loop-x-test.true c.from-x.ensures in
    let lit = literal n.1 c.is_literal.ensures c.if-not-is_literal.false in
    let place = placed n.1 c.place_of-place.ensures in
    let begin = c.if-kind_of-eq4.begin in
    let next : begin + (c.loop-x.x-index + 1) ≡ begin + c.loop-x.x-index + 1 = omega arith in (
      w.0,
      w.1,
      w.2,
      elim c.if-failed-place-ne1.branch [
        | then-failed-place-ne1+in_default-2 v ↦
            rw (v.only-is, next) (scanned_here w.0 w.1 w.2 n.0 lit place v.if-failed-place-ne1.true w.3
            (λ q e. let same : q ≡ v.in-Some.other = cc in same ∙ v.if-other-place.false))
        | then-failed-place-ne1+in_default v ↦
            rw (v.only-is, next) (scanned_here w.0 w.1 w.2 n.0 lit place v.if-failed-place-ne1.true w.3 (λ q e. let none = v.in_default.is in cc))
        | else-failed-place-ne1 v ↦ rw (v.only-is, next) (scanned_failed w.0 w.1 w.2 n.0 lit w.3 (rw place at v.if-failed-place-ne1.false))
      ],
    )

pub returns-in-Some-only : goal.returns-in-Some-only
returns-in-Some-only c =
    let w = c.loop-x.invariant in
    let size = stretch_long c.if-kind_of-eq4.begin c.args.part.to c.args.sheet.now (part_inside w.0 w.1).0 in
    scanned_only w.0 w.1 w.2 (omega (arith, size, c.loop-x-test.false)) (rw c.in-Some-only.is at w.3)

pub returns-in-None : goal.returns-in-None
returns-in-None c =
    let w = c.loop-x.invariant in
    let size = stretch_long c.if-kind_of-eq4.begin c.args.part.to c.args.sheet.now (part_inside w.0 w.1).0 in
    scanned_all w.0 w.1 w.2 (omega (arith, size, c.loop-x-test.false)) (rw c.in-None.is at w.3)
