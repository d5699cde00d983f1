use mathlib.Core.Bool.{Bool}
use mathlib.Core.List.{List}
use mathlib.Core.Path.{◌≡◌, refl, ◌∙◌}
use Prim.Native.Nat.{ℕ, ◌+◌, ◌<◌}
use native.Mathlib.Numerals.{add-one}
use native.Mathlib.Omega.{arith}
use lib.ListN.{length, take, set, length-set}
use lib.Seq.{take-suc-set}
use Rattle.model.specs.Base.{pick}
use Rattle.model.specs.Propagation.{count_from}
use Rattle.theory_meaning.specs.FailedLiterals.{mark_in, marks_in, marks_more}
use Rattle.report_marks.proofs.put_marks.Goals as goal
use Rattle.report_marks.proofs.put_marks.Goals.{Joined-contradictory, then-contradictory, else-contradictory}

more : (b : Bool) (t out : List ℕ) (v : ℕ) {m : ℕ} → v < length out → m ≡ pick b 3 (mark_in t v) → take v out ≡ marks_in b t v →
    take (v + 1) (set out v m) ≡ marks_in b t (v + 1)
more b t out v {m} h p e = rw (add-one, take-suc-set out v m h, e, p, marks_more b t v)

-- The mark, where the two ways meet.
mark : (c : goal.Joined-contradictory) →
    let a = c.args in
    c.if-contradictory.mark ≡ pick a.contradictory 3 (mark_in a.failed.now c.loop-v.v)
unfolding pick
mark c =
    elim c.if-contradictory.branch [
      | then-contradictory w ↦ w.mark-is ∙ rw w.if-contradictory.true
      | else-contradictory w ↦ w.mark-is ∙ w.mark_of.ensures ∙ rw w.if-contradictory.false
    ]

pub loop-v-init : goal.loop-v-init
unfolding marks_in count_from
loop-v-init c = (refl, refl)

pub loop-v-preserved : goal.loop-v-preserved
loop-v-preserved c =
    let a = c.args in
    let w = c.loop-v.invariant in
    let long = length-set c.loop-v.out c.loop-v.v c.if-contradictory.mark ∙ w.0 in
    let l : c.loop-v.v < length c.loop-v.out = omega (arith, w.0) in
    (long, more a.contradictory a.failed.now c.loop-v.out c.loop-v.v l (mark (goal.at.loop-v-preserved c).Joined-contradictory) w.1)
