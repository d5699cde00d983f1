use mathlib.Core.Path.{◌≡◌, sym, ap, ◌∙◌}
use Prim.Native.Nat.{◌+◌, ◌≤◌, ◌<◌}
use native.Mathlib.Omega.{arith}
use borrow.Author.Count.{below_more}
use lib.ListN.{length, get_or}
use Rattle.model.specs.Limits.{sheet_room}
use Rattle.theory_reading.specs.Spans.{arity}
use Rattle.theory_rewriting.specs.Children.{counted_child}
use Rattle.search_common.proofs.FactorChildren.{found_first, found_none}
use Rattle.search_common.proofs.first_tried.Goals as goal
use Rattle.search_common.proofs.first_tried.Goals.{After-arity_of-j-end, Start}

-- Child i begins within the stretch.
child : (c : goal.Start) → (1 + c.args.i < length c.args.part.now) × (length c.args.part.now ≤ sheet_room)
child c = let w = counted_child c.requires.stretch c.requires.headed c.requires.i_bound in (w.1, w.2)

counted :
    (c : goal.After-arity_of-j-end) →
    let a = c.args in
    c.arity_of-j-end.result ≡ arity (get_or a.part.now (1 + a.i) 0)
counted c = c.arity_of-j-end.ensures.0 ∙ ap arity c.from.ensures

pub overflow_add-i : goal.overflow_add-i
overflow_add-i c = omega (arith, child (goal.at.overflow_add-i c).Start)

pub offset_bounds-part-i : goal.offset_bounds-part-i
offset_bounds-part-i c = omega (arith, child (goal.at.offset_bounds-part-i c).Start)

pub bounds-part-i : goal.bounds-part-i
bounds-part-i c = (child (goal.at.bounds-part-i c).Start).0

pub loop-j-init : goal.loop-j-init
loop-j-init c = λ k l. absurd (omega arith)

pub overflow_add-i-in-loop-j : goal.overflow_add-i-in-loop-j
overflow_add-i-in-loop-j c = omega (arith, child (goal.at.overflow_add-i-in-loop-j c).Start)

pub returns-then-applies : goal.returns-then-applies
returns-then-applies c =
    found_first c.requires.stretch c.requires.headed c.args.i c.requires.i_bound
    (counted (goal.at.returns-then-applies c).After-arity_of-j-end) c.loop-j.j (omega (arith, c.loop-j-test.true))
    (sym c.applies.ensures ∙ c.if-applies.true) c.loop-j.invariant

pub loop-j-preserved : goal.loop-j-preserved
loop-j-preserved c =
    below_more _ c.loop-j.j c.loop-j.invariant (sym c.applies.ensures ∙ c.if-applies.false)

pub returns : goal.returns
returns c =
    found_none c.requires.stretch c.requires.headed c.args.i c.requires.i_bound (counted (goal.at.returns c).After-arity_of-j-end)
    (λ k l. c.loop-j.invariant k (omega arith))
