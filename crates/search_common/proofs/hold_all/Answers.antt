use mathlib.Core.Logic.{inl, inr}
use mathlib.Core.Path.{◌≡◌, ap, ◌∙◌}
use Prim.Native.Nat.{◌+◌, ◌-◌, ◌<◌}
use native.Mathlib.Nat.{sub-zero}
use native.Mathlib.Omega.{arith}
use lib.ListN.{length, get_or, drop}
use Rattle.std.proofs.Common.{rules}
use Rattle.model.specs.Code.{kind}
use Rattle.theory_reading.specs.Spans.{span}
use Rattle.search_sizes.specs.TreeHops.{span_one}
use Rattle.search_common.proofs.HeldNotes.{group_small}
use Rattle.search_common.proofs.Passing.{passing_more, passing_all, passing_other}
use Rattle.search_common.proofs.hold_all.Goals as goal
use Rattle.search_common.proofs.hold_all.Goals.{After-from-at, At-loop}

-- One hop.
hop :
    (c : goal.After-from-at) →
    c.from-at.result ≡ span 1 (drop c.loop.at c.args.part.now)
hop c =
    c.from-at.ensures ∙ c.requires.sizes_of.each c.loop.at (omega arith) (omega arith)

pub returns-then-kind_of-gt3 : goal.returns-then-kind_of-gt3
returns-then-kind_of-gt3 c =
    let kind-is = c.kind_of.ensures ∙ ap kind c.from-in-loop.ensures in
    passing_other c.loop.held c.loop.invariant.3 (omega arith) (omega arith) (omega (arith, kind-is, c.if-kind_of-gt3.true))

pub overflow_add-at : goal.overflow_add-at
overflow_add-at c =
    omega (arith, hop (goal.at.overflow_add-at c).After-from-at, span_one c.loop.at c.args.part.now (omega arith))

pub loop-init : goal.loop-init
loop-init c = rw sub-zero (search rules)

pub loop-preserved : goal.loop-preserved
loop-preserved c =
    let l = c.args.part.now in
    let from = c.loop.at in
    let call = c.hold-groups in
    let inside : from < length l = omega arith in
    let one = span_one from l inside in
    let left = c.children_of-end.result - c.loop.counter in
    let one_less : left - 1 ≡ c.children_of-end.result - (c.loop.counter + 1) = omega arith in
    rw (hop (goal.at.loop-preserved c).After-from-at, ← one_less) (
      omega (arith, one.0, call.ensures.value, group_small (get_or l from 0), c.loop.invariant.0),
      omega (arith, one.1),
      call.auto.held ∙ c.loop.invariant.2,
      passing_more c.loop.invariant.3 (omega arith) inside call.ensures.value call.ensures.carried,
    )

pub returns-then-at-part : goal.returns-then-at-part
returns-then-at-part c = passing_all c.loop.invariant.3 (inr (omega arith))

pub returns-after-loop : goal.returns-after-loop
returns-after-loop c = passing_all c.loop.invariant.3 (inl (omega arith))
