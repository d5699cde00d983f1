use mathlib.Core.Bool.{true, false, ◌||◌, or-true}
use mathlib.Core.Path.{◌≡◌, sym, ap, ◌∙◌}
use Prim.Native.Nat.{◌≤◌, ◌<◌}
use native.Mathlib.Omega.{arith}
use borrow.Author.Tests.{eq-eqb, ne_eqb}
use lib.Dec.{eqb}
use lib.ListN.{length, get_or}
use Rattle.model.specs.Base.{is_some}
use Rattle.model.specs.Code.{children}
use Rattle.model.specs.Limits.{sheet_room}
use Rattle.model.specs.Rules.{rewrite}
use Rattle.theory_reading.specs.Stretches.{forest_in}
use Rattle.theory_rewriting.specs.Children.{headed_group, group_long, counted_child}
use Rattle.search_sizes.specs.TreeHops.{passed_first, hop_within, passed_more}
use Rattle.search_place.proofs.first_constant.Goals as goal
use Rattle.search_place.proofs.first_constant.Goals.{After-children_of-i-end, In-loop-i, Joined-then-x-one}
use Rattle.search_place.proofs.first_constant.Goals.{then-x-one-via-then-x-one, then-x-one-via-else-x-one+then-x-other}

counted :
    (c : goal.After-children_of-i-end) →
    let a = c.args in
    c.children_of-i-end.result ≡ children (get_or a.part.now 0 0)
counted c = c.children_of-i-end.ensures ∙ ap children c.from.ensures

-- Child i is there, and begins within the stretch.
here : (c : goal.In-loop-i) → let a = c.args in c.loop-i.i < children (get_or a.part.now 0 0)
here c = omega (arith, (c.children_of-i-end.ensures ∙ ap children c.from.ensures), c.loop-i-test.true)

inside :
    (c : goal.In-loop-i) →
    let a = c.args in
    (c.loop-i.at < length a.part.now) × (length a.part.now ≤ sheet_room)
inside c =
    let w = counted_child c.requires.stretch c.requires.headed (here c, c.loop-i.invariant.here) in
    (w.1, w.2)

-- Its number says what the rule asks.
asked :
    (c : goal.In-loop-i) →
    let x = get_or c.args.part.now c.loop-i.at 0 in
    (eqb x c.args.one || eqb x c.args.other) ≡ is_some (rewrite c.args.rule c.loop-i.i 0 (forest_in c.args.part.now))
asked c =
    let a = c.args in
    ap (λ n. eqb (get_or a.part.now n 0) a.one || eqb (get_or a.part.now n 0) a.other) c.loop-i.invariant.here
    ∙ c.requires.sought c.loop-i.i (here c)

-- One of the two tests held.
sought : (c : goal.Joined-then-x-one) →
    is_some (rewrite c.args.rule c.loop-i.i 0 (forest_in c.args.part.now)) ≡ true
sought c =
    let a = c.args in
    let x = get_or a.part.now c.loop-i.at 0 in
    sym (ap (λ n. eqb (get_or a.part.now n 0) a.one || eqb (get_or a.part.now n 0) a.other) c.loop-i.invariant.here
    ∙ c.requires.sought c.loop-i.i (omega (arith, c.children_of-i-end.ensures ∙ ap children c.from.ensures)))
    ∙ elim c.then-x-one.branch [
      | then-x-one-via-then-x-one w ↦ rw (eq-eqb x a.one w.if-x-one.true)
      | then-x-one-via-else-x-one+then-x-other w ↦ ap (λ b. eqb x a.one || b) (eq-eqb x a.other w.if-x-other.true) ∙ or-true (eqb x a.one)
    ]

pub bounds-part-0 : goal.bounds-part-0
bounds-part-0 c = group_long (headed_group c.requires.stretch c.requires.headed)

pub loop-i-init : goal.loop-i-init
loop-i-init c = passed_first

pub offset_bounds-part-at : goal.offset_bounds-part-at
offset_bounds-part-at c = let w = inside (goal.at.offset_bounds-part-at c).In-loop-i in omega arith

pub bounds-part-at : goal.bounds-part-at
bounds-part-at c = (inside (goal.at.bounds-part-at c).In-loop-i).0

pub returns-then-x-one : goal.returns-then-x-one
returns-then-x-one c = (
  here (goal.at.returns-then-x-one c).In-loop-i,
  record { before = c.loop-i.invariant.before; there = sought (goal.at.returns-then-x-one c).Joined-then-x-one },
)

pub offset_bounds-sizes-at : goal.offset_bounds-sizes-at
offset_bounds-sizes-at c = let w = inside (goal.at.offset_bounds-sizes-at c).In-loop-i in omega arith

pub bounds-sizes-at : goal.bounds-sizes-at
bounds-sizes-at c =
    omega (arith, (inside (goal.at.bounds-sizes-at c).In-loop-i).0, c.requires.sizes_of.long)

pub overflow_add-at : goal.overflow_add-at
overflow_add-at c =
    let w = inside (goal.at.overflow_add-at c).In-loop-i in
    omega (arith, hop_within c.requires.sizes_of w.0 c.from-at.ensures)

pub loop-i-preserved : goal.loop-i-preserved
loop-i-preserved c =
    let x = get_or c.args.part.now c.loop-i.at 0 in
    let a = c.args in
    let none_here : is_some (rewrite a.rule c.loop-i.i 0 (forest_in a.part.now)) ≡ false =
    sym (asked (goal.at.loop-i-preserved c).In-loop-i) ∙ ap (λ t. t || eqb x a.other) (ne_eqb x a.one c.if-x-one.false) ∙
    ne_eqb x a.other c.if-x-other.false in
    passed_more c.requires.sizes_of (inside (goal.at.loop-i-preserved c).In-loop-i).0 c.from-at.ensures c.loop-i.invariant none_here

pub returns : goal.returns
returns c = λ k m. c.loop-i.invariant.before k (omega (arith, counted (goal.at.returns c).After-children_of-i-end))
