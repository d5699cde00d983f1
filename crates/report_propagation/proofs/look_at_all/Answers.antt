use mathlib.Core.Path.{◌≡◌, refl, sym, ◌∙◌}
use Prim.Native.Nat.{ℕ, ◌+◌, ◌<◌}
use native.Mathlib.Omega.{arith}
use Rattle.report_propagation.proofs.Watching.{watching_looked, watching_past}
use Rattle.report_propagation.proofs.look_at_all.Goals as goal
use Rattle.report_propagation.proofs.look_at_all.Goals.{then-to-gt0+in_ok-look, else-to-gt0}

-- One place more, at which a part begins.
next : (i j : ℕ) → j < i + 1 → (j ≡ i → ⊥) → j < i
next i j l d = omega arith

pub loop-from-preserved : goal.loop-from-preserved
loop-from-preserved c =
    let w = c.loop-from.invariant in
    let e = c.from-to.ensures in (
      w.0,
      w.1,
      elim c.if-to-gt0.branch [
        | then-to-gt0+in_ok-look v ↦
            let look = rw e at v.in_ok-look.ensures in
            rw (v.seen-is, v.known-is) (watching_looked w.0 w.1 w.2 c.loop-from-test.true (next c.loop-from.from) look)
        | else-to-gt0 v ↦
            rw (v.seen-is, v.known-is)
            (watching_past w.0 w.1 w.2 refl (sym e ∙ omega (arith, v.if-to-gt0.false)))
      ],
    )
