-- `search_common::may_share` meets its contract.
use mathlib.Core.Path.{sym, ◌∙◌}
use Prim.Native.Nat.{◌≤◌, ◌<◌, ◌*◌}
use native.Mathlib.Omega.{arith}
use Rattle.model.specs.Limits.{kind_factor}
use Rattle.search_common.proofs.HeldNotes.{literal_bounds}
use Rattle.search_common.proofs.may_share.Goals as goal
use Rattle.search_common.proofs.may_share.Goals.{Then-is_literal}

-- A literal's number, so the table has an entry for it.
bounds : (c : goal.Then-is_literal) → let x = c.args.x in (kind_factor ≤ x) × (x < 3 * kind_factor)
bounds c = literal_bounds c.args.x (sym c.is_literal.ensures ∙ c.if-is_literal.true)

pub overflow_sub-result : goal.overflow_sub-result
overflow_sub-result c = (bounds (goal.at.overflow_sub-result c).Then-is_literal).0

pub offset_bounds-held-x : goal.offset_bounds-held-x
offset_bounds-held-x c = omega (arith, bounds (goal.at.offset_bounds-held-x c).Then-is_literal)

pub bounds-held-x : goal.bounds-held-x
bounds-held-x c = omega (arith, bounds (goal.at.bounds-held-x c).Then-is_literal)
