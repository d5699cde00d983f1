use mathlib.Core.List.{List, ◌∷◌}
use mathlib.Core.Path.{◌≡◌, sym, ap, ◌∙◌}
use Prim.Native.Nat.{ℕ, suc, ◌+◌, ◌≤◌, ◌<◌}
use native.Mathlib.Numerals.{add-one}
use native.Mathlib.Omega.{arith}
use lib.ListN.{length, get_or, drop, set, length-set}
use lib.Seq.{drop-cons, drop-length}
use Rattle.model.specs.Limits.{most_literals}
use Rattle.report_breaking.specs.Stacks.{InTable, raised}
use Rattle.report_breaking.proofs.Among.{among_at}
use Rattle.report_breaking.proofs.Holding.{raised_here, raised_none, raised_end}
use Rattle.report_breaking.proofs.hold.Goals as goal
use Rattle.report_breaking.proofs.hold.Goals.{After-from-place, then-held-place, else-held-place}
use Rattle.report_breaking.proofs.hold.Invariants.{Raising}

module _ {list first : List ℕ} {n : ℕ} {held : List ℕ} {i : ℕ} (r : Raising list first n held i) (l : i < length list) where
  inside : InTable list → length first ≡ most_literals → {y : ℕ} → y ≡ get_or list i 0 → y < length held
  inside h w e = omega (arith, r.wide, h (get_or list i 0) (among_at list i l))

  module _ {y : ℕ} (e : y ≡ get_or list i 0) (in_table : y < length held) where
    next : (x : ℕ) → raised n list first x ≡ raised n (y ∷ drop (suc i) list) held x
    next x = r.same x ∙ ap (λ ls. raised n ls held x) (drop-cons list i 0 l ∙ rw (← e))

    more_here : get_or held y 0 ≡ n → Raising list first n (set held y (n + 1)) (i + 1)
    more_here h = record {
      left = omega arith;
      wide = length-set held y (n + 1) ∙ r.wide;
      same = λ x. rw (add-one i) (next x ∙ raised_here n y (drop (suc i) list) held in_table h x);
    }

    more_none : (get_or held y 0 ≡ n → ⊥) → Raising list first n held (i + 1)
    more_none d =
        record {
          left = omega arith;
          wide = r.wide;
          same = λ x. rw (add-one i) (next x ∙ raised_none n y (drop (suc i) list) held in_table d x);
        }

done : {list first : List ℕ} {n : ℕ} {held : List ℕ} {i : ℕ} → Raising list first n held i → length list ≤ i → (x : ℕ) →
    get_or held x 0 ≡ raised n list first x
done {list} {first} {n} {held} {i} r h x =
    let e : i ≡ length list = omega (arith, r.left) in
    sym (r.same x ∙ rw (e, drop-length list) (raised_end n held x))

-- The literal's place is one of the table's.
in_table : (c : goal.After-from-place) → c.from-place.result < length c.loop-x.held
in_table c =
    let p = c.requires in
    inside c.loop-x.invariant c.loop-x-test.true p.0 p.1 c.from-place.ensures

pub bounds-held-place : goal.bounds-held-place
bounds-held-place c = omega (arith, in_table (goal.at.bounds-held-place c).After-from-place)

pub bounds-held-place-then-held-place : goal.bounds-held-place-then-held-place
bounds-held-place-then-held-place c = omega (arith, in_table (goal.at.bounds-held-place-then-held-place c).After-from-place)

pub loop-x-preserved : goal.loop-x-preserved
loop-x-preserved c =
    let l = c.loop-x-test.true in
    let e = c.from-place.ensures in
    let r = c.loop-x.invariant in
    let h = in_table (goal.at.loop-x-preserved c).After-from-place in
    elim c.if-held-place.branch [
      | then-held-place w ↦ rw w.held-is (more_here r l e h w.if-held-place.true)
      | else-held-place w ↦ rw w.held-is (more_none r l e h w.if-held-place.false)
    ]

pub returns : goal.returns
returns c = done c.loop-x.invariant c.loop-x-test.false
