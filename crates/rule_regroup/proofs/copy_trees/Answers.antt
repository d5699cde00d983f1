use mathlib.Core.Path.{◌≡◌}
use Prim.Native.Nat.{◌+◌, ◌-◌, ◌<◌}
use native.Mathlib.Omega.{arith}
use lib.ListN.{length, drop, length-drop}
use Rattle.common_lists.proofs.Lent.{lent_part}
use Rattle.theory_reading.specs.Spans.{span}
use Rattle.rule_regroup.proofs.Gather.{gathered_none, gathered_end, gathering_none, gathering_shares, gathering_room, gathering_more, gathering_all}
use Rattle.rule_regroup.proofs.copy_trees.Goals as goal

pub loop-passed-init : goal.loop-passed-init
loop-passed-init c =
    let all : c.args.trees - 0 ≡ c.args.trees = omega arith in
    rw all (gathering_none _ _ _ _ _ _ c.requires.part_value)

pub copy_tree-to-requires : goal.copy_tree-to-requires
copy_tree-to-requires c =
    let l = c.args.part.now in
    let from = c.loop-passed.from in
    let inside : from < length l = omega arith in
    let some : 0 < (c.args.trees - c.loop-passed.passed) = omega arith in
    rw (lent_part from l)
    (record {
      in_bounds = (omega (arith, length-drop from l), omega (arith, length-drop from l, c.requires.part_len_bound));
      part_value = gathering_shares c.loop-passed.invariant some inside;
      part_in_bounds = gathering_room c.loop-passed.invariant some inside c.requires.part_in_bounds;
    })

pub loop-passed-preserved : goal.loop-passed-preserved
loop-passed-preserved c =
    let l = c.args.part.now in
    let from = c.loop-passed.from in
    let call = c.copy_tree-to in
    let inside : from < length l = omega arith in
    let some : 0 < (c.args.trees - c.loop-passed.passed) = omega arith in
    let far : c.span_of-from.result ≡ span 1 (drop from l) = rw (lent_part from l) at c.span_of-from.ensures.0 in
    let fewer : c.args.trees - (c.loop-passed.passed + 1) ≡ c.args.trees - c.loop-passed.passed - 1 = omega arith in
    rw (far, fewer) (gathering_more c.loop-passed.invariant some inside call.auto.out (rw (lent_part from l) at call.ensures))

pub returns-then-from-part : goal.returns-then-from-part
returns-then-from-part c =
    let a = c.args in
    gathering_all c.loop-passed.invariant (gathered_end a.groups a.literal (c.args.trees - c.loop-passed.passed) c.loop-passed.from a.part.now (omega arith))

pub returns : goal.returns
returns c =
    let a = c.args in
    gathering_all c.loop-passed.invariant (gathered_none a.groups a.literal (c.args.trees - c.loop-passed.passed) c.loop-passed.from a.part.now (omega arith))
