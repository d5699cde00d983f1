use mathlib.Core.Path.{◌≡◌, ap, ◌∙◌}
use Prim.Native.Nat.{◌≤◌, ◌<◌}
use native.Mathlib.Omega.{arith}
use lib.ListN.{length, get_or}
use Rattle.model.specs.Limits.{sheet_room}
use Rattle.model.specs.Code.{children}
use Rattle.theory_reading.specs.Stretches.{forest_in}
use Rattle.theory_rewriting.specs.Children.{headed_group, group_long, counted_child}
use Rattle.search_sizes.specs.TreeHops.{passed_first, hop_within, passed_more}
use Rattle.search_place.proofs.SearchLevels.{i_found, i_none}
use Rattle.search_place.proofs.FirstChildren.{children_counted}
use Rattle.search_place.proofs.least_inside.Goals as goal
use Rattle.search_place.proofs.least_inside.Goals.{After-children_of-i-end, In-loop-i}

counted :
    (c : goal.After-children_of-i-end) →
    let a = c.args in
    c.children_of-i-end.result ≡ children (get_or a.part.now 0 0)
counted c = c.children_of-i-end.ensures ∙ ap children c.from.ensures

-- Child i begins within the stretch.
inside :
    (c : goal.In-loop-i) →
    let a = c.args in
    (c.loop-i.at < length a.part.now) × (length a.part.now ≤ sheet_room)
inside c =
    let p = c.requires in
    let w = counted_child p.stretch p.headed (omega (arith, (c.children_of-i-end.ensures ∙ ap children c.from.ensures)), c.loop-i.invariant.here) in
    (w.1, w.2)

pub bounds-part-0 : goal.bounds-part-0
bounds-part-0 c =
    group_long (headed_group c.requires.stretch c.requires.headed)

pub loop-i-init : goal.loop-i-init
loop-i-init c = passed_first

pub least_inner-requires : goal.least_inner-requires
least_inner-requires c =
    let p = c.requires in
    record {
      le_rule = p.le_rule;
      stretch = p.stretch;
      headed = p.headed;
      i_bound = (omega (arith, counted (goal.at.least_inner-requires c).After-children_of-i-end), c.loop-i.invariant.here);
      sizes_of = p.sizes_of;
    }

pub returns-in-Some : goal.returns-in-Some
returns-in-Some c =
    let a = c.args in
    λ p. i_found a.rule p (forest_in a.part.now) c.loop-i.i
    (omega (arith, counted (goal.at.returns-in-Some c).After-children_of-i-end, children_counted c.requires.stretch c.requires.headed))
    (c.in-Some.ensures p) (λ q l. c.loop-i.invariant.before q l p)

pub offset_bounds-sizes-at : goal.offset_bounds-sizes-at
offset_bounds-sizes-at c = let w = inside (goal.at.offset_bounds-sizes-at c).In-loop-i in omega arith

pub bounds-sizes-at : goal.bounds-sizes-at
bounds-sizes-at c =
    omega (arith, (inside (goal.at.bounds-sizes-at c).In-loop-i).0, c.requires.sizes_of.long)

pub overflow_add-at : goal.overflow_add-at
overflow_add-at c =
    let w = inside (goal.at.overflow_add-at c).In-loop-i in
    omega (arith, hop_within c.requires.sizes_of w.0 c.from-at.ensures)

pub loop-i-preserved : goal.loop-i-preserved
loop-i-preserved c =
    let rule = c.args.rule in
    passed_more c.requires.sizes_of (inside (goal.at.loop-i-preserved c).In-loop-i).0 c.from-at.ensures c.loop-i.invariant c.in_default.ensures

pub returns : goal.returns
returns c =
    let a = c.args in
    λ p. i_none a.rule p (forest_in a.part.now) (omega (arith, c.requires.le_rule.1))
    (λ q l. c.loop-i.invariant.before q
    (omega (arith, counted (goal.at.returns c).After-children_of-i-end, children_counted c.requires.stretch c.requires.headed)) p)
