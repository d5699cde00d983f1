use Prim.Native.Nat.{◌≤◌}
use native.Mathlib.Omega.{arith}
use Rattle.model.specs.Limits.{most_nodes, sheet_room}
use Rattle.import_clauses.proofs.Pass.{few_rules, begun, few_written, all_written, goes_on, rule_room, rule_more, mark_asked, mark_room, mark_more}
use Rattle.import_clauses.proofs.put_clauses.Goals as goal
use Rattle.import_clauses.proofs.put_clauses.Goals.{At-loop-at}

so_far : (n : goal.At-loop-at) → (n.loop-at.k ≤ most_nodes) × (n.loop-at.next ≤ sheet_room)
so_far n =
    let s = n in
    few_written s.args.out.now s.requires.judged_good s.requires.body_in_bounds n.loop-at.invariant

pub loop-at-init : goal.loop-at-init
loop-at-init c =
    let s = c in
    let call = c.past_blanks-at in
    begun s.args.out.now s.requires.judged_good s.requires.body_in_bounds call.result call.ensures.0 call.ensures.1

pub put_rule-requires : goal.put_rule-requires
put_rule-requires c =
    let n = c in
    let s = n in
    let room = rule_room s.args.out.now s.requires.judged_good s.requires.body_in_bounds n.loop-at.invariant c.loop-at-test.true
    c.if-text-at-eq48.true in
    record { first_lt_next = room.0; first_in_bounds = room.1 }

pub loop-at-preserved-then-text-at-eq48 : goal.loop-at-preserved-then-text-at-eq48
loop-at-preserved-then-text-at-eq48 c =
    let n = c in
    let s = n in
    let put = c.put_rule in
    let past = c.past_blanks-at-then-text-at-eq48 in
    rule_more s.args.out.now s.requires.judged_good s.requires.body_in_bounds n.loop-at.invariant
    c.loop-at-test.true c.if-text-at-eq48.true
    past.result _ put.ensures put.auto.out past.ensures.0 past.ensures.1

pub read_mark-mark-requires : goal.read_mark-mark-requires
read_mark-mark-requires c =
    let n = c in
    let s = n in
    let here = c.loop-at-test.true in
    (here, mark_asked s.args.out.now s.requires.judged_good s.requires.body_in_bounds n.loop-at.invariant here c.if-text-at-eq48.false)

pub put_mark-requires : goal.put_mark-requires
put_mark-requires c =
    let n = c in
    let s = n in
    let mark = c.read_mark-mark in
    mark_room s.args.out.now s.requires.judged_good s.requires.body_in_bounds n.loop-at.invariant c.loop-at-test.true c.if-text-at-eq48.false
    mark.result.option mark.result.barred mark.ensures.0

pub loop-at-smaller : goal.loop-at-smaller
loop-at-smaller c =
    let n = c in
    let s = n in
    let here = c.loop-at-test.true in
    let mark = c.read_mark-mark in
    let on = goes_on s.args.out.now s.requires.judged_good s.requires.body_in_bounds n.loop-at.invariant here mark.result.end mark.ensures.1 in
    omega (arith, on, here, c.past_blanks-at-else-text-at-eq48.ensures.0)

pub loop-at-preserved : goal.loop-at-preserved
loop-at-preserved c =
    let n = c in
    let s = n in
    let mark = c.read_mark-mark in
    let put = c.put_mark in
    let past = c.past_blanks-at-else-text-at-eq48 in
    mark_more s.args.out.now s.requires.judged_good s.requires.body_in_bounds n.loop-at.invariant
    c.loop-at-test.true c.if-text-at-eq48.false
    mark.result.option mark.result.barred mark.ensures.0
    mark.result.end past.result _ mark.ensures.1 put.ensures put.auto.out past.ensures.0 past.ensures.1

pub returns : goal.returns
returns c =
    let n = c in
    let s = n in
    all_written s.args.out.now s.requires.judged_good s.requires.body_in_bounds n.loop-at.invariant c.loop-at-test.false

pub overflow_mul-bodies : goal.overflow_mul-bodies
overflow_mul-bodies c = omega (arith, few_rules c.args.out.now c.requires.judged_good c.requires.body_in_bounds)

pub overflow_add-bodies : goal.overflow_add-bodies
overflow_add-bodies c = omega (arith, c.requires.judged_good.few_options, few_rules c.args.out.now c.requires.judged_good c.requires.body_in_bounds)

pub past_blanks-at-requires : goal.past_blanks-at-requires
past_blanks-at-requires c = c.requires.judged_good.within

pub overflow_add-k : goal.overflow_add-k
overflow_add-k c = omega (arith, (so_far (goal.at.overflow_add-k c).At-loop-at).0)

pub overflow_add-next : goal.overflow_add-next
overflow_add-next c = omega (arith, (so_far (goal.at.overflow_add-next c).At-loop-at).1)

pub overflow_add-next-else-text-at-eq48 : goal.overflow_add-next-else-text-at-eq48
overflow_add-next-else-text-at-eq48 c = omega (arith, (so_far (goal.at.overflow_add-next-else-text-at-eq48 c).At-loop-at).1)

pub past_blanks-at-requires-else-text-at-eq48 : goal.past_blanks-at-requires-else-text-at-eq48
past_blanks-at-requires-else-text-at-eq48 c = c.read_mark-mark.ensures.2
