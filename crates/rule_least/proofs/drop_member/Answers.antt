-- `rule_least::drop_member` meets its contract: the head is written anew, and the member's number goes.
use mathlib.Core.Path.{ap, ap₂, ◌∙◌}
use Prim.Native.Nat.{◌≤◌, ◌<◌}
use native.Mathlib.Omega.{arith}
use lib.ListN.{get_or, length-set}
use Rattle.theory_reading.specs.Spans.{child_at}
use Rattle.theory_rewriting.specs.Heads.{headed_least}
use Rattle.theory_rewriting.specs.Children.{Child, applied_child, headed_group}
use Rattle.rule_least.specs.LeastHeads.{without_member}
use Rattle.rule_least.proofs.LeastNumbers.{least_known}
use Rattle.rule_least.proofs.Dropping.{turns_drop}
use Rattle.rule_least.proofs.drop_member.Goals as goal
use Rattle.rule_least.proofs.drop_member.Goals.{Start}

child : (c : goal.Start) → let l = c.args.part.now in Child l c.requires.headed.children c.args.i (child_at c.args.i l)
child c = applied_child c.requires.stretch c.requires.headed c.args.j (omega arith) c.requires.part_value

-- What the head says: one member at least.
high : (c : goal.Start) → (24640 ≤ get_or c.args.part.now 0 0) × (get_or c.args.part.now 0 0 < 28672)
high c =
    let w = headed_least c.requires.headed (omega arith) in
    let g = rw w.1 at (headed_group c.requires.stretch c.requires.headed) in
    let k = child c in
    omega (arith, (least_known g).number)

pub child_at-at-requires : goal.child_at-at-requires
child_at-at-requires c = let k = child (goal.at.child_at-at-requires c).Start in omega arith

pub bounds-part-at : goal.bounds-part-at
bounds-part-at c = let k = child (goal.at.bounds-part-at c).Start in omega (arith, c.child_at-at.ensures.0)

pub without_member-requires : goal.without_member-requires
without_member-requires c = omega (arith, high (goal.at.without_member-requires c).Start, c.from.ensures)

pub remove-requires : goal.remove-requires
remove-requires c =
    let k = child (goal.at.remove-requires c).Start in simp length-set (omega (arith, c.child_at-at.ensures.0))

pub returns : goal.returns
returns c =
    let l = c.args.part.now in
    let written = c.without_member.ensures ∙ ap₂ without_member c.from.ensures (ap (λ p. get_or l p 0) c.child_at-at.ensures.0) in
    turns_drop c.requires.stretch c.requires.headed c.args.i c.args.j (headed_least c.requires.headed (omega arith)).1 c.requires.part_value written
    (c.remove.auto.s ∙ simp length-set)
    (rw c.child_at-at.ensures.0 at c.remove.ensures)
