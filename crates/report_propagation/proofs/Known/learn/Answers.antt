-- `report_propagation::Known::learn` meets its contract: the complement fails from now on where it did not.
use mathlib.Core.List.{List}
use mathlib.Core.Path.{◌≡◌, refl}
use Prim.Native.Nat.{ℕ, ◌+◌, ◌<◌}
use native.Mathlib.Omega.{arith}
use borrow.Author.Tests.{eq-eqb, ne_eqb}
use lib.ListN.{length, get_or}
use Rattle.model.specs.Limits.{most_literals}
use Rattle.model.specs.Base.{pick}
use Rattle.report_propagation.specs.Trails.{unset, fresh}
use Rattle.report_breaking.proofs.Tried.{opposite_below}
use Rattle.report_propagation.proofs.Learning.{unset_fewer}
use Rattle.report_propagation.proofs.Known.learn.Goals as goal
use Rattle.report_propagation.proofs.Known.learn.Goals.{After-opposite_of-other}

inside : (c : goal.After-opposite_of-other) → c.opposite_of-other.result < most_literals
inside c = rw c.opposite_of-other.ensures (opposite_below c.args.k c.requires.k_lt_most_literals)

-- The trail has room.
room : (t : List ℕ) {known o : ℕ} → (length t ≡ most_literals) × (known + unset t ≡ most_literals) → o < most_literals → (get_or t o 0 ≡ 1 → ⊥) →
    known < most_literals
room t {o = o} p small d = omega (arith, p, unset_fewer t o (omega (arith, p.0)) (ne_eqb (get_or t o 0) 1 d))

pub bounds-self-other : goal.bounds-self-other
bounds-self-other c = inside (goal.at.bounds-self-other c).After-opposite_of-other

pub returns-else-self-other-ne1 : goal.returns-else-self-other-ne1
unfolding fresh pick
returns-else-self-other-ne1 c =
    let o = c.opposite_of-other in
    rw (← o.ensures, eq-eqb (get_or c.args.self.now.failed o.result 0) 1 c.if-self-other-ne1.false)
    (record { value = refl; failed_after = refl; trail_after = refl })

pub bounds-self-other-then-self-other-ne1 : goal.bounds-self-other-then-self-other-ne1
bounds-self-other-then-self-other-ne1 c = inside (goal.at.bounds-self-other-then-self-other-ne1 c).After-opposite_of-other

pub overflow_cast-self : goal.overflow_cast-self
overflow_cast-self c = omega (arith, inside (goal.at.overflow_cast-self c).After-opposite_of-other)

pub bounds-self-self : goal.bounds-self-self
bounds-self-self c = room _ c.requires.failed_len (inside (goal.at.bounds-self-self c).After-opposite_of-other) c.if-self-other-ne1.true

pub returns-then-self-other-ne1 : goal.returns-then-self-other-ne1
unfolding fresh pick
returns-then-self-other-ne1 c =
    let o = c.opposite_of-other in
    rw (← o.ensures, ne_eqb (get_or c.args.self.now.failed o.result 0) 1 c.if-self-other-ne1.true)
    (record { value = refl; failed_after = refl; trail_after = refl })
