use mathlib.Core.Path.{◌≡◌, ap}
use Prim.Native.Nat.{◌+◌, ◌-◌, ◌<◌}
use native.Mathlib.Omega.{arith}
use lib.ListN.{length, drop, length-drop}
use Rattle.theory_reading.specs.Spans.{span, span_none, span_end, span_within}
use Rattle.common_lists.proofs.Lent.{lent_part}
use Rattle.rule_factor.specs.Walks.{unit_place}
use Rattle.rule_factor.proofs.Walk.{unit_none, unit_end, unit_found, unit_further, span_further, span_some, place_some, place_none}
use Rattle.rule_factor.proofs.unit_place.Goals as goal

pub loop-passed-init : goal.loop-passed-init
loop-passed-init c =
    let a = c.args in
    let all : a.trees ≡ a.trees - 0 = omega arith in
    (omega arith, omega (arith, ap (λ n. unit_place a.literal n a.part.now) all), omega (arith, ap (λ n. span n a.part.now) all))

pub loop-passed-preserved : goal.loop-passed-preserved
loop-passed-preserved c =
    let a = c.args in
    let l = a.part.now in
    let at = c.loop-passed.at in
    let left = a.trees - c.loop-passed.passed in
    let far : c.span_of-at.result ≡ span 1 (drop at l) = rw (lent_part at l) at c.span_of-at.ensures.0 in
    let fewer : a.trees - (c.loop-passed.passed + 1) ≡ left - 1 = omega arith in
    let more = unit_further a.literal left at l (omega arith) (omega arith) c.if-part-at.false in
    let longer = span_further left at l (omega arith) in
    (omega (arith, span_within 1 (drop at l), length-drop at l), rw (far, fewer) (omega arith), rw (far, fewer) (omega arith))

pub returns-then-at-part : goal.returns-then-at-part
returns-then-at-part c =
    let a = c.args in
    let l = a.part.now in
    let at = c.loop-passed.at in
    let left = a.trees - c.loop-passed.passed in
    let over : unit_place a.literal left (drop at l) ≡ 0 = unit_end a.literal left at l (omega arith) in
    record {
      found = place_none a.literal a.trees l (omega (arith, over, span_end left at l (omega arith)));
      place = omega (arith, over);
      near = omega (arith, over);
    }

pub returns-then-part-at : goal.returns-then-part-at
returns-then-part-at c =
    let a = c.args in
    let l = a.part.now in
    let at = c.loop-passed.at in
    let left = a.trees - c.loop-passed.passed in
    let inside : at < length l = omega arith in
    let some_left : 0 < left = omega arith in
    let here = unit_found a.literal left at l some_left inside c.if-part-at.true in
    record {
      found = place_some a.literal a.trees l (omega (arith, here, span_some left at l some_left inside));
      place = omega (arith, here);
      near = omega (arith, here);
    }

pub returns : goal.returns
returns c =
    let a = c.args in
    let l = a.part.now in
    let at = c.loop-passed.at in
    let left = a.trees - c.loop-passed.passed in
    let end : left ≡ 0 = omega arith in
    let over : unit_place a.literal left (drop at l) ≡ 0 = unit_none a.literal left at l end in
    record {
      found = place_none a.literal a.trees l (omega (arith, over, ap (λ n. span n (drop at l)) end, span_none (drop at l)));
      place = omega (arith, over);
      near = omega (arith, over);
    }
