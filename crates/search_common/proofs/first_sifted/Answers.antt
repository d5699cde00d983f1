use mathlib.Core.Bool.{false}
use mathlib.Core.Path.{◌≡◌, refl, sym, ap, ◌∙◌}
use Prim.Native.Nat.{◌+◌, ◌≤◌, ◌<◌}
use native.Mathlib.Omega.{arith}
use lib.ListN.{length, get_or}
use Rattle.model.specs.Base.{is_some}
use Rattle.model.specs.Limits.{sheet_room}
use Rattle.model.specs.Code.{kind, children}
use Rattle.model.specs.Rules.{rewrite}
use Rattle.theory_reading.specs.Spans.{arity}
use Rattle.theory_reading.specs.Stretches.{forest_in}
use Rattle.theory_rewriting.specs.Children.{counted_child}
use Rattle.search_sizes.specs.TreeHops.{inner_at, passed_first, passed_more}
use Rattle.search_common.proofs.FactorChildren.{conjunction_arity, inner_room, other_none, few_none, barred_none, found_first, found_none}
use Rattle.search_common.proofs.first_sifted.Goals as goal
use Rattle.search_common.proofs.first_sifted.Goals.{After-children_of-j-end, In-loop-j, Joined-else-may_share}
use Rattle.search_common.proofs.first_sifted.Goals.{then-groups-lt2-via-then-groups-lt2, then-groups-lt2-via-else-groups-lt2+then-kind_of-ne3}
use Rattle.search_common.proofs.first_sifted.Goals.{else-may_share-via-else-may_share, else-may_share-via-then-may_share+else-applies}

-- Inner child j, of which the conjunction has one, begins within the stretch.
inside :
    (c : goal.In-loop-j) →
    let a = c.args in
    (c.loop-j.from < length a.part.now) × (length a.part.now ≤ sheet_room)
inside c =
    let p = c.requires in
    let x = get_or c.args.part.now (1 + c.args.i) 0 in
    let conjunction : kind x ≡ 3 = sym (c.kind_of.ensures ∙ ap kind c.from-head.ensures) ∙ c.if-kind_of-ne3.false in
    let announced : c.children_of-j-end.result ≡ children x = c.children_of-j-end.ensures ∙ ap children c.from-head.ensures in
    let room = inner_room p.stretch p.headed c.args.i p.i_bound conjunction c.loop-j.j (omega (arith, announced)) in
    let place = c.loop-j.invariant.here ∙ sym (inner_at (1 + c.args.i) c.loop-j.j c.args.part.now) in
    (omega (arith, room, place), (counted_child p.stretch p.headed p.i_bound).2)

-- Child i has as many children as the loop goes over.
announced : (c : goal.After-children_of-j-end) → c.children_of-j-end.result ≡ arity (get_or c.args.part.now (1 + c.args.i) 0)
announced c =
    let x = get_or c.args.part.now (1 + c.args.i) 0 in
    let conjunction : kind x ≡ 3 = sym (c.kind_of.ensures ∙ ap kind c.from-head.ensures) ∙ c.if-kind_of-ne3.false in
    c.children_of-j-end.ensures ∙ ap children c.from-head.ensures ∙ sym (conjunction_arity x conjunction)

-- Inner child j was refused by the table, or tried in vain.
none_here :
    (c : goal.Joined-else-may_share) →
    let a = c.args in
    is_some (rewrite 14 a.i c.loop-j.j (forest_in a.part.now)) ≡ false
none_here c =
    let p = c.requires in
    let place = c.loop-j.invariant.here ∙ sym (inner_at (1 + c.args.i) c.loop-j.j c.args.part.now) in
    elim c.else-may_share.branch [
      | else-may_share-via-else-may_share w ↦ barred_none p.stretch p.headed c.args.i p.i_bound c.args.groups c.args.held.now p.held_len.1
          c.loop-j.j c.from-x.result c.from-x.ensures place c.may_share.ensures w.if-may_share.false
      | else-may_share-via-then-may_share+else-applies w ↦ sym w.applies.ensures ∙ w.if-applies.false
    ]

pub overflow_add-at : goal.overflow_add-at
overflow_add-at c = omega (arith, counted_child c.requires.stretch c.requires.headed c.requires.i_bound)

pub offset_bounds-part-at : goal.offset_bounds-part-at
offset_bounds-part-at c = omega (arith, counted_child c.requires.stretch c.requires.headed c.requires.i_bound)

pub bounds-part-at : goal.bounds-part-at
bounds-part-at c = (counted_child c.requires.stretch c.requires.headed c.requires.i_bound).1

pub returns-then-groups-lt2 : goal.returns-then-groups-lt2
returns-then-groups-lt2 c =
    let a = c.args in
    let p = c.requires in
    found_none p.stretch p.headed a.i p.i_bound refl
    (λ k l. elim c.then-groups-lt2.branch [
      | then-groups-lt2-via-then-groups-lt2 w ↦ few_none p.stretch p.headed a.i p.i_bound a.groups a.held.now p.held_len.1 k w.if-groups-lt2.true
      | then-groups-lt2-via-else-groups-lt2+then-kind_of-ne3 w ↦ other_none p.stretch p.headed a.i p.i_bound
          (λ e. w.if-kind_of-ne3.true (w.kind_of.ensures ∙ ap kind c.from-head.ensures ∙ e)) k
    ])

pub overflow_add-from : goal.overflow_add-from
overflow_add-from c = omega (arith, counted_child c.requires.stretch c.requires.headed c.requires.i_bound)

pub loop-j-init : goal.loop-j-init
loop-j-init c = passed_first

pub offset_bounds-part-from : goal.offset_bounds-part-from
offset_bounds-part-from c = omega (arith, inside (goal.at.offset_bounds-part-from c).In-loop-j)

pub bounds-part-from : goal.bounds-part-from
bounds-part-from c = (inside (goal.at.bounds-part-from c).In-loop-j).0

pub returns-then-applies : goal.returns-then-applies
returns-then-applies c =
    found_first c.requires.stretch c.requires.headed c.args.i c.requires.i_bound
    (announced (goal.at.returns-then-applies c).After-children_of-j-end) c.loop-j.j (omega arith)
    (sym c.applies.ensures ∙ c.if-applies.true) c.loop-j.invariant.before

pub offset_bounds-sizes-from : goal.offset_bounds-sizes-from
offset_bounds-sizes-from c = omega (arith, inside (goal.at.offset_bounds-sizes-from c).In-loop-j)

pub bounds-sizes-from : goal.bounds-sizes-from
bounds-sizes-from c = omega (arith, inside (goal.at.bounds-sizes-from c).In-loop-j, c.requires.sizes_of.long)

pub loop-j-preserved : goal.loop-j-preserved
loop-j-preserved c =
    passed_more c.requires.sizes_of (inside (goal.at.loop-j-preserved c).In-loop-j).0 c.from-from.ensures c.loop-j.invariant
    (none_here (goal.at.loop-j-preserved c).Joined-else-may_share)

pub returns : goal.returns
returns c =
    found_none c.requires.stretch c.requires.headed c.args.i c.requires.i_bound
    (announced (goal.at.returns c).After-children_of-j-end) (λ k l. c.loop-j.invariant.before k (omega arith))
