-- `search_common::note` meets its contract.
use mathlib.Core.Bool.{true}
use mathlib.Core.Path.{◌≡◌, sym, ◌∙◌}
use Prim.Native.Nat.{◌≤◌, ◌<◌, ◌*◌}
use native.Mathlib.Omega.{arith}
use Rattle.model.specs.Limits.{kind_factor}
use Rattle.theory_forms.specs.Scan.{is_literal}
use Rattle.search_common.proofs.HeldNotes.{literal_bounds, noted_literal}
use Rattle.search_common.proofs.note.Goals as goal
use Rattle.search_common.proofs.note.Goals.{Then-is_literal}

-- Past the test the number is a literal's, so the table has an entry for it.
literal : (c : goal.Then-is_literal) → is_literal c.args.x ≡ true
literal c = sym c.is_literal.ensures ∙ c.if-is_literal.true

bounds : (c : goal.Then-is_literal) → let x = c.args.x in (kind_factor ≤ x) × (x < 3 * kind_factor)
bounds c = literal_bounds c.args.x (literal c)

pub overflow_sub-k : goal.overflow_sub-k
overflow_sub-k c = (bounds (goal.at.overflow_sub-k c).Then-is_literal).0

pub offset_bounds-held-k : goal.offset_bounds-held-k
offset_bounds-held-k c = omega (arith, bounds (goal.at.offset_bounds-held-k c).Then-is_literal)

pub bounds-held-k : goal.bounds-held-k
bounds-held-k c = omega (arith, bounds (goal.at.bounds-held-k c).Then-is_literal)

pub offset_bounds-held-k-then-held-k : goal.offset_bounds-held-k-then-held-k
offset_bounds-held-k-then-held-k c = omega (arith, bounds (goal.at.offset_bounds-held-k-then-held-k c).Then-is_literal)

pub bounds-held-k-then-held-k : goal.bounds-held-k-then-held-k
bounds-held-k-then-held-k c = omega (arith, bounds (goal.at.bounds-held-k-then-held-k c).Then-is_literal)

pub returns-then-held-k : goal.returns-then-held-k
returns-then-held-k c =
    noted_literal c.args.held.now (literal (goal.at.returns-then-held-k c).Then-is_literal) c.requires.0 c.if-held-k.true
