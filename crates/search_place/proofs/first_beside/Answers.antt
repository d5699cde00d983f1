-- `search_place::first_beside` meets its contract: the rule's number says which search it is.
use mathlib.Core.Path.{subst}
use Prim.Native.Nat.{◌≤◌}
use native.Mathlib.Omega.{arith}
use Rattle.theory_rewriting.specs.Heads.{Headed}
use Rattle.search_place.proofs.FirstChildren.{constant_asked, member_asked}
use Rattle.search_place.proofs.first_beside.Goals as goal
use Rattle.search_place.proofs.first_beside.Goals.{In_default, in_default-via-then-rule-lt1, in_default-via-else-rule-lt1+else-rule-lt7+else-rule-lt9}

-- Past the ranges the rule is 9 or 10.
late : (c : goal.In_default) → let r = c.args.rule in (9 ≤ r) × (r ≤ 10)
late c =
    let low : 9 ≤ c.args.rule = elim c.in_default.branch [
      | in_default-via-then-rule-lt1 w ↦ omega arith
      | in_default-via-else-rule-lt1+else-rule-lt7+else-rule-lt9 w ↦ omega arith
    ] in
    let high : c.args.rule ≤ 10 = elim c.in_default.branch [
      | in_default-via-then-rule-lt1 w ↦ omega arith
      | in_default-via-else-rule-lt1+else-rule-lt7+else-rule-lt9 w ↦ omega arith
    ] in
    (low, high)

pub first_constant-requires : goal.first_constant-requires
first_constant-requires c =
    let p = c.requires in
    let l = c.args.part.now in
    let is = c.in-15.is in
    let h = subst (λ r. Headed r l) is p.headed in
    record { stretch = p.stretch; headed = p.headed; sizes_of = p.sizes_of; sought = rw is (member_asked p.stretch h) }

pub first_constant-requires-in-1-to-6 : goal.first_constant-requires-in-1-to-6
first_constant-requires-in-1-to-6 c =
    let s = c.requires.stretch in
    let h = c.requires.headed in
    record { stretch = s; headed = h; sizes_of = c.requires.sizes_of; sought = constant_asked s h (omega arith) c.constant_for-constant.ensures }

pub first_recurring-requires : goal.first_recurring-requires
first_recurring-requires c =
    let p = c.requires in
    record { le_rule = late (goal.at.first_recurring-requires c).In_default; stretch = p.stretch; headed = p.headed; sizes_of = p.sizes_of }
