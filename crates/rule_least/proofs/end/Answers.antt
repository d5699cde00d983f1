-- `rule_least::end` meets its contract: the head is written anew, and where that is a constant the members' numbers go.
use mathlib.Core.Path.{◌≡◌, refl, ap, ◌∙◌}
use Prim.Native.Nat.{◌≤◌}
use native.Mathlib.Omega.{arith}
use lib.ListN.{length, length-set}
use Rattle.model.specs.Code.{children}
use Rattle.model.specs.Forest.{size}
use Rattle.theory_reading.specs.Spans.{child_at}
use Rattle.theory_rewriting.specs.Heads.{headed_least}
use Rattle.theory_rewriting.specs.Children.{headed_group, group_long, group_few, group_children}
use Rattle.rule_least.specs.LeastHeads.{ended_head}
use Rattle.rule_least.proofs.Ending.{turns_end, turns_rename}
use Rattle.rule_least.proofs.end.Goals as goal
use Rattle.rule_least.proofs.end.Goals.{After-child_at-end, After-children_of-members, Start}

long : (c : goal.Start) → 1 ≤ length c.args.part.now
long c = group_long (headed_group c.requires.stretch c.requires.headed)

-- The number of the members, and where the last one ends.
counted : (c : goal.After-children_of-members) → c.children_of-members.result ≡ size c.requires.headed.children
counted c = c.children_of-members.ensures ∙ ap children c.from-head.ensures ∙ group_children (headed_group c.requires.stretch c.requires.headed)

ended : (c : goal.After-child_at-end) → c.child_at-end.result ≡ child_at (size c.requires.headed.children) c.args.part.now
ended c =
    let l = c.args.part.now in c.child_at-end.ensures.0
    ∙ ap (λ m. child_at m l) (c.children_of-members.ensures ∙ ap children c.from-head.ensures
    ∙ group_children (headed_group c.requires.stretch c.requires.headed))

pub bounds-part-0 : goal.bounds-part-0
bounds-part-0 c = omega (arith, long (goal.at.bounds-part-0 c).Start)

pub child_at-end-requires : goal.child_at-end-requires
child_at-end-requires c =
    let s = c.requires.stretch in
    omega (
      arith,
      long (goal.at.child_at-end-requires c).Start,
      s.short,
      counted (goal.at.child_at-end-requires c).After-children_of-members,
      group_few (headed_group s c.requires.headed),
    )

pub remove-requires : goal.remove-requires
remove-requires c =
    simp length-set (omega (arith, ended (goal.at.remove-requires c).After-child_at-end, c.child_at-end.ensures.1))

pub returns-then-rule-eq16 : goal.returns-then-rule-eq16
returns-then-rule-eq16 c =
    let h = c.requires.headed in
    let written = c.ended_head.ensures ∙ ap (λ x. ended_head x c.args.rule) c.from-head.ensures in
    turns_end c.requires.stretch h c.args.i c.args.j
    (headed_least h (omega (arith, c.requires.le_rule.0))).1 c.if-rule-eq16.true c.requires.part_value written (c.remove.auto.s ∙ simp length-set)
    (rw (ended (goal.at.returns-then-rule-eq16 c).After-child_at-end) at c.remove.ensures)

pub returns-else-rule-eq16 : goal.returns-else-rule-eq16
returns-else-rule-eq16 c =
    let h = c.requires.headed in
    let written = c.ended_head.ensures ∙ ap (λ x. ended_head x c.args.rule) c.from-head.ensures in
    turns_rename c.requires.stretch h c.args.i c.args.j (headed_least h (omega (arith, c.requires.le_rule.0))).1
    (omega (arith, c.if-rule-eq16.false, c.requires.le_rule)) c.requires.part_value written (simp length-set) refl
