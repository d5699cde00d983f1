use mathlib.Core.Bool.{Bool, true, false, ◌&&◌, ◌||◌, and-true}
use mathlib.Core.List.{List, [], ◌∷◌}
use mathlib.Core.Logic.{inl, inr, ⊎_elim}
use mathlib.Core.Path.{◌≡◌, refl, sym, ap, ◌∙◌}
use Prim.Native.Nat.{ℕ, suc, ◌+◌, ◌-◌, ◌/◌, ◌≤◌, ◌<◌}
use native.Mathlib.Numerals.{add-one}
use native.Mathlib.Omega.{arith}
use lib.Dec.{eqb}
use lib.ListN.{length, get_or, take, drop}
use lib.Seq.{drop-cons, drop-length, take-take, length-take-le}
use Rattle.model.specs.Forest.{or}
use Rattle.theory_meaning.specs.Evaluation.{fails_all}
use Rattle.theory_meaning.specs.Values.{or_none, or_more}
use Rattle.theory_forms.specs.Logic.{either, or_left, or_right}
use Rattle.report_breaking.specs.Stacks.{among, InTable, begin, failing, broken, Stacked, bottom, standing, raised}
use Rattle.report_breaking.specs.Stacks.{BlankBut, Counted}
use Rattle.report_breaking.proofs.Among.{among_take, among_drop, among_cut, lent}
use Rattle.report_breaking.proofs.Holding.{raised_at, raised_most, raised_other}
use Rattle.report_breaking.proofs.Entries.{failing_odd, failing_even, standing_more, standing_same}
use Rattle.report_breaking.proofs.hold_all.Goals as goal
use Rattle.report_breaking.proofs.hold_all.Goals.{then-first-eq0, else-first-eq0}
use Rattle.report_breaking.proofs.hold_all.Invariants.{Reached}

-- The tests of a tree that all have and of one that fails as it is.
two_tests : (a b c : Bool) → ((a && b) && c) ≡ (b && (a && c))
two_tests true b c = refl
two_tests false true c = refl
two_tests false false c = refl

module _ {ls fs held : List ℕ} {n to i : ℕ} (r : Reached ls fs held n to i) (l : i < length fs) {f : ℕ} (e : f ≡ get_or fs i 0) where
  rest : List ℕ
  rest = drop (suc i) fs

  next : drop i fs ≡ f ∷ rest
  unfolding rest
  next = drop-cons fs i 0 l ∙ rw (← e)

  cut : Stacked to (f ∷ rest)
  cut = rw next at r.stacked

  -- The tree's own literals.
  own : List ℕ
  own = drop (begin f) (take to ls)

  after : (x : ℕ) → broken x (take to ls) (drop i fs) ≡ (failing f || among x own) ∷ broken x (take (begin f) ls) rest
  unfolding broken own
  after x = rw (next, take-take (begin f) to ls cut.0)

  own_inside : InTable ls → InTable own
  unfolding own
  own_inside h x g = h x (among_take x to ls (among_drop x (begin f) (take to ls) g))

  wider : (x : ℕ) → among x (drop (begin f) ls) ≡ (among x own || among x (drop to ls))
  unfolding own
  wider x = among_cut x (begin f) to ls cut.0 r.low

  skipped : failing f ≡ true → Reached ls fs held n (begin f) (i + 1)
  unfolding rest standing bottom
  skipped h =
      record {
        left = omega arith;
        few = omega (arith, r.few);
        low = omega (arith, r.low, cut.0);
        wide = r.wide;
        stacked = rw (add-one i) cut.2;
        last = rw (add-one i) (rw next at r.last);
        count = rw (add-one i) (ap (λ k. n + k) (sym (standing_same f rest h)) ∙ rw next at r.count);
        most = r.most;
        common = λ x. rw (add-one i) (rw (after x, or_more, h) at (r.common x));
        blank = rw (cut.1 h) r.blank;
      }

  -- The counts of the tree's own literals are raised.
  module _ (h : failing f ≡ false) (new : List ℕ) (wide : length new ≡ length held)
      (up : (x : ℕ) → get_or new x 0 ≡ raised n own held x) where
    new_common : (x : ℕ) → (eqb (get_or new x 0) (n + 1) && fails_all or (broken x (take (begin f) ls) rest)) ≡ fails_all or (broken x ls fs)
    new_common x =
        rw (up x, raised_at n own held x (r.most x))
        (two_tests (among x own) (eqb (get_or held x 0) n) _ ∙ rw (after x, or_more, h) at (r.common x))

    new_blank : BlankBut (drop (begin f) ls) new
    new_blank x = ⊎_elim
        (λ g. inr (wider x ∙ or_left (among x (drop to ls)) g))
        (λ g. ⊎_elim (λ z. inl (up x ∙ raised_other n own held x g ∙ z)) (λ z. inr (wider x ∙ or_right (among x own) z)) (r.blank x))
        (either (among x own))

    counted : Reached ls fs new (n + 1) (begin f) (i + 1)
    unfolding rest standing bottom
    counted =
        record {
          left = omega arith;
          few = omega (arith, r.few);
          low = omega (arith, r.low, cut.0);
          wide = wide ∙ r.wide;
          stacked = rw (add-one i) cut.2;
          last = rw (add-one i) (rw next at r.last);
          count = rw (add-one i) (omega (arith, standing_more f rest h, rw next at r.count));
          most = λ x. rw (up x) (raised_most n own held x (r.most x));
          common = rw (add-one i) new_common;
          blank = new_blank;
        }

done : {ls fs held : List ℕ} {n to i : ℕ} → Reached ls fs held n to i → length fs ≤ i → Counted ls fs held n
unfolding broken standing bottom
done {ls} {fs} {held} {n} {to} {i} r h =
    let e : i ≡ length fs = omega (arith, r.left) in
    let none : drop i fs ≡ [] = rw e (drop-length fs) in
    let last : to ≡ bottom (length ls) fs = rw none at r.last in
    record {
      count = omega (arith, rw none at r.count);
      common = λ x. sym (and-true (eqb (get_or held x 0) n)) ∙ rw (none, or_none) at (r.common x);
      blank = rw (← last) r.blank;
    }

-- The part that is lent holds the tree's own literals.
lent_own : (places : List ℕ) (end from to : ℕ) → from ≤ to → to ≤ end → end ≤ length places →
    take (to - from) (drop from places) ≡ drop from (take to (take end places))
lent_own places end from to h g m = lent from to places ∙ ap (drop from) (sym (take-take to end places g))

-- The tree's literals begin and end within the literals.
within :
    (places : List ℕ) {fs held : List ℕ} {end n to i : ℕ} → Reached (take end places) fs held n to i → end ≤ length places → i < length fs → {f : ℕ} →
    f ≡ get_or fs i 0 → (f / 2 ≤ to) × (to ≤ end) × (end ≤ length places)
unfolding begin
within places {end = end} r room l e = ((cut r l e).0, omega (arith, r.low, length-take-le end places room), room)

pub slice_bounds-hold-count : goal.slice_bounds-hold-count
slice_bounds-hold-count c = (within c.args.places.now c.loop-child.invariant c.requires.end_in_bounds.0 c.loop-child-test.true c.from-first.ensures).0

pub slice_bounds-hold-start : goal.slice_bounds-hold-start
slice_bounds-hold-start c =
    let w = within c.args.places.now c.loop-child.invariant c.requires.end_in_bounds.0 c.loop-child-test.true c.from-first.ensures in
    omega (arith, w)

pub hold-requires : goal.hold-requires
unfolding begin own
hold-requires c =
    let inv = c.loop-child.invariant in
    let l = c.loop-child-test.true in
    let e = c.from-first.ensures in
    let w = within c.args.places.now inv c.requires.end_in_bounds.0 l e in (
      rw (lent_own c.args.places.now c.args.end (c.from-first.result / 2) c.loop-child.to w.0 w.1 w.2) (own_inside inv l e c.requires.end_in_bounds.1),
      inv.wide,
      omega (arith, inv.few, inv.left, c.requires.children_len_bound.0),
    )

pub loop-child-preserved : goal.loop-child-preserved
unfolding begin own
loop-child-preserved c =
    let l = c.loop-child-test.true in
    let f = c.from-first.result in
    let e = c.from-first.ensures in
    let r = c.loop-child.invariant in
    let t = within c.args.places.now r c.requires.end_in_bounds.0 l e in
    let own = lent_own c.args.places.now c.args.end (f / 2) c.loop-child.to t.0 t.1 t.2 in
    elim c.if-first-eq0.branch [
      | then-first-eq0 w ↦
          rw (w.held-is, w.count-is, w.to-is)
          (counted r l e (failing_even f w.if-first-eq0.true) w.hold.new.held w.hold.auto.held
          (λ x. w.hold.ensures x ∙ ap (λ ls. raised c.loop-child.count ls c.loop-child.held x) own))
      | else-first-eq0 w ↦ rw (w.held-is, w.count-is, w.to-is) (skipped r l e (failing_odd f w.if-first-eq0.false))
    ]

pub returns : goal.returns
returns c = done c.loop-child.invariant c.loop-child-test.false
