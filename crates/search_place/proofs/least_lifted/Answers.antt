use mathlib.Core.Path.{◌≡◌, sym, ap, ◌∙◌}
use Prim.Native.Nat.{◌≤◌, ◌<◌}
use native.Mathlib.Omega.{arith}
use lib.ListN.{length, get_or}
use Rattle.model.specs.Base.{is_some}
use Rattle.model.specs.Limits.{sheet_room}
use Rattle.model.specs.Code.{kind, children}
use Rattle.model.specs.Rules.{rewrite}
use Rattle.theory_forms.specs.Scan.{is_literal}
use Rattle.theory_reading.specs.Stretches.{forest_in}
use Rattle.theory_rewriting.specs.Children.{counted_child}
use Rattle.search_sizes.specs.TreeHops.{inner_at, passed_first, hop_within, passed_more}
use Rattle.search_place.proofs.SearchLevels.{j_found}
use Rattle.search_place.proofs.InnerSearch.{lifts_nothing, inner_room, inner_test, inner_none}
use Rattle.search_place.proofs.least_lifted.Goals as goal
use Rattle.search_place.proofs.least_lifted.Goals.{After-children_of-j-end, After-is_literal, At-loop-j, Else-kind_of-ne3, In-loop-j, Start}

-- Child i begins within the stretch.
child : (c : goal.Start) → (c.args.at < length c.args.part.now) × (length c.args.part.now ≤ sheet_room)
child c = let w = counted_child c.requires.stretch c.requires.headed c.requires.i_bound in (w.1, w.2)

-- It is a conjunction, past the test of its kind.
conjunction :
    (c : goal.Else-kind_of-ne3) →
    let a = c.args in
    kind (get_or a.part.now a.at 0) ≡ 3
conjunction c = sym (c.kind_of.ensures ∙ ap kind c.from-head.ensures) ∙ c.if-kind_of-ne3.false

counted :
    (c : goal.After-children_of-j-end) →
    let a = c.args in
    c.children_of-j-end.result ≡ children (get_or a.part.now a.at 0)
counted c = c.children_of-j-end.ensures ∙ ap children c.from-head.ensures

-- The place of inner child j is within the stretch, and its number says what the rule asks.
inside :
    (c : goal.In-loop-j) →
    let a = c.args in
    (c.loop-j.from < length a.part.now) × (length a.part.now ≤ sheet_room)
inside c =
    let p = c.requires in
    let a = c.args in
    let conjunction = sym (c.kind_of.ensures ∙ ap kind c.from-head.ensures) ∙ c.if-kind_of-ne3.false in
    let counted = c.children_of-j-end.ensures ∙ ap children c.from-head.ensures in
    let room = inner_room p.stretch p.headed a.i p.le_rule.0 p.le_rule.1 p.i_bound.0 p.i_bound.1 conjunction c.loop-j.j (omega (arith, counted)) in
    let placed = c.loop-j.invariant.here ∙ sym (inner_at a.at c.loop-j.j a.part.now) in
    (omega (arith, room, placed), (counted_child p.stretch p.headed p.i_bound).2)

tested :
    (c : goal.After-is_literal) →
    let a = c.args in
    c.is_literal.result ≡ is_some (rewrite a.rule a.i c.loop-j.j (forest_in a.part.now))
tested c =
    let p = c.requires in
    let a = c.args in
    let placed = c.loop-j.invariant.here ∙ sym (inner_at a.at c.loop-j.j a.part.now) in
    let read = c.is_literal.ensures ∙ ap is_literal (c.from.ensures ∙ ap (λ k. get_or a.part.now k 0) placed) in
    read
    ∙
    inner_test p.stretch p.headed c.args.i p.le_rule.0 p.le_rule.1 p.i_bound.0 p.i_bound.1
    (sym (c.kind_of.ensures ∙ ap kind c.from-head.ensures) ∙ c.if-kind_of-ne3.false) c.loop-j.j
    (omega (arith, (c.children_of-j-end.ensures ∙ ap children c.from-head.ensures)))

pub offset_bounds-part-at : goal.offset_bounds-part-at
offset_bounds-part-at c = let w = child (goal.at.offset_bounds-part-at c).Start in omega arith

pub bounds-part-at : goal.bounds-part-at
bounds-part-at c = (child (goal.at.bounds-part-at c).Start).0

pub returns-then-kind_of-ne3 : goal.returns-then-kind_of-ne3
returns-then-kind_of-ne3 c =
    let p = c.requires in
    let read = c.kind_of.ensures ∙ ap kind c.from-head.ensures in
    lifts_nothing p.stretch p.headed c.args.i p.le_rule.0 p.le_rule.1 p.i_bound.0 p.i_bound.1 (λ e. c.if-kind_of-ne3.true (read ∙ e))

pub overflow_add-from : goal.overflow_add-from
overflow_add-from c = let w = child (goal.at.overflow_add-from c).Start in omega arith

pub loop-j-init : goal.loop-j-init
loop-j-init c = passed_first

pub offset_bounds-part-from : goal.offset_bounds-part-from
offset_bounds-part-from c = let w = inside (goal.at.offset_bounds-part-from c).In-loop-j in omega arith

pub bounds-part-from : goal.bounds-part-from
bounds-part-from c = (inside (goal.at.bounds-part-from c).In-loop-j).0

pub returns-then-is_literal : goal.returns-then-is_literal
returns-then-is_literal c =
    let a = c.args in
    λ p. j_found a.rule p (forest_in a.part.now) a.i c.loop-j.j
    (sym (tested (goal.at.returns-then-is_literal c).After-is_literal) ∙ c.if-is_literal.true) c.loop-j.invariant.before

pub offset_bounds-sizes-from : goal.offset_bounds-sizes-from
offset_bounds-sizes-from c = let w = inside (goal.at.offset_bounds-sizes-from c).In-loop-j in omega arith

pub bounds-sizes-from : goal.bounds-sizes-from
bounds-sizes-from c =
    omega (arith, (inside (goal.at.bounds-sizes-from c).In-loop-j).0, c.requires.sizes_of.long)

pub overflow_add-from-in-loop-j : goal.overflow_add-from-in-loop-j
overflow_add-from-in-loop-j c =
    let w = inside (goal.at.overflow_add-from-in-loop-j c).In-loop-j in
    omega (arith, hop_within c.requires.sizes_of w.0 c.from-from.ensures)

pub loop-j-preserved : goal.loop-j-preserved
loop-j-preserved c =
    let none_here = sym (tested (goal.at.loop-j-preserved c).After-is_literal) ∙ c.if-is_literal.false in
    passed_more c.requires.sizes_of (inside (goal.at.loop-j-preserved c).In-loop-j).0 c.from-from.ensures c.loop-j.invariant none_here

pub returns : goal.returns
returns c =
    let p = c.requires in
    inner_none p.stretch p.headed c.args.i p.le_rule.0 p.le_rule.1 p.i_bound.0 p.i_bound.1 (conjunction (goal.at.returns c).Else-kind_of-ne3)
    (λ j l. c.loop-j.invariant.before j (omega (arith, counted (goal.at.returns c).After-children_of-j-end)))
