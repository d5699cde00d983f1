use mathlib.Core.Bool.{false}
use mathlib.Core.Logic.{◌⊎◌, inl, inr}
use mathlib.Core.Path.{◌≡◌, sym, ap, ◌∙◌}
use Prim.Native.Nat.{◌+◌, ◌-◌, ◌<◌, ◌≤◌}
use native.Mathlib.Nat.{sub-zero}
use native.Mathlib.Omega.{arith}
use lib.ListN.{length, get_or, drop}
use Rattle.std.proofs.Common.{rules}
use Rattle.model.specs.Code.{children}
use Rattle.theory_forms.specs.Scan.{is_literal}
use Rattle.theory_reading.specs.Spans.{span}
use Rattle.search_sizes.specs.TreeHops.{span_one}
use Rattle.search_common.proofs.HeldNotes.{group_literal, group_inner, holding_more, holding_all}
use Rattle.search_common.proofs.hold.Goals as goal
use Rattle.search_common.proofs.hold.Goals.{then-loop-test+then-from-part, else-loop-test}
use Rattle.search_common.proofs.hold.Goals.{After-from-from, At-loop, Else-is_literal, Left-loop, Start}

-- Past the test the tree is a group.
inner :
    (c : goal.Else-is_literal) →
    let a = c.args in
    is_literal (get_or a.part.now a.at 0) ≡ false
inner c = ap is_literal (sym c.from-head.ensures) ∙ sym c.is_literal.ensures ∙ c.if-is_literal.false

-- One hop.
hop :
    (c : goal.After-from-from) →
    let l = c.args.part.now in
    c.from-from.result ≡ span 1 (drop c.loop.from l)
hop c =
    c.from-from.ensures ∙ c.requires.sizes_of.each c.loop.from (omega arith) (omega arith)

pub bounds-sizes-from : goal.bounds-sizes-from
bounds-sizes-from c = omega arith

pub returns-then-is_literal-clause-value : goal.returns-then-is_literal-clause-value
returns-then-is_literal-clause-value c =
    let literal = ap is_literal (sym c.from-head.ensures) ∙ sym c.is_literal.ensures ∙ c.if-is_literal.true in
    omega (arith, group_literal (get_or c.args.part.now c.args.at 0) literal)

pub loop-init : goal.loop-init
loop-init c = rw sub-zero (search rules)

pub loop-preserved : goal.loop-preserved
loop-preserved c =
    let a = c.args in
    let l = a.part.now in
    let from = c.loop.from in
    let inside : from < length l = omega arith in
    let left = c.children_of-end.result - c.loop.counter in
    let one_less : left - 1 ≡ c.children_of-end.result - (c.loop.counter + 1) = omega arith in
    rw (hop (goal.at.loop-preserved c).After-from-from, ← one_less) (
      omega (arith, span_one from l inside),
      c.note.auto.held ∙ c.loop.invariant.1,
      holding_more a.groups (children (get_or l a.at 0)) (a.at + 1) l a.held.now c.loop.held left from c.loop.invariant.2
          (omega arith) inside c.from.ensures c.note.ensures,
    )

pub returns : goal.returns
returns c =
    let a = c.args in
    let l = a.part.now in
    let group = inner (goal.at.returns c).Else-is_literal in
    let left = c.children_of-end.result - c.loop.counter in
    let over : (left ≡ 0) ⊎ (length l ≤ c.loop.from) = elim c.loop-test.branch [
      | then-loop-test+then-from-part w ↦ inr (omega arith)
      | else-loop-test w ↦ inl (omega arith)
    ] in
    record {
      value = omega (arith, group_inner (get_or l a.at 0) group);
      carried = holding_all a.groups a.at l a.held.now c.loop.held left c.loop.from group c.loop.invariant.2 over;
    }
