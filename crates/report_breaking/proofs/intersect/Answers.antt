-- `report_breaking::intersect` meets its contract: what is kept of the trees' literals takes their place.
use mathlib.Core.Bool.{◌&&◌}
use mathlib.Core.List.{List, ◌++◌}
use mathlib.Core.Logic.{⊎_elim}
use mathlib.Core.Path.{◌≡◌, sym, ap, ◌∙◌}
use Prim.Native.Nat.{ℕ, ◌+◌, ◌-◌, ◌≤◌}
use native.Mathlib.Omega.{arith}
use borrow.Rule.Slice.PartMut.{put_mid, take_put}
use lib.Dec.{eqb}
use lib.ListN.{length, get_or, take, drop, length-take}
use lib.Seq.{length-take-le, take-take, drop_at, take-append-add, take-append-le}
use Rattle.model.specs.Forest.{or}
use Rattle.theory_meaning.specs.Evaluation.{fails_all}
use Rattle.theory_forms.specs.Logic.{and_split, or_split}
use Rattle.report_breaking.specs.Stacks.{among, InTable, broken, bottom, Children, Counted}
use Rattle.report_breaking.proofs.Among.{among_append, among_take, among_drop, lent}
use Rattle.report_breaking.proofs.Entries.{bottom_low}
use Rattle.report_breaking.proofs.Groups.{common_breaks}
use Rattle.report_breaking.proofs.intersect.Goals as goal

-- The literals of the trees, in the part that is lent.
own : List ℕ → ℕ → ℕ → List ℕ
own places base end = take (end - base) (drop base places)

module _ {places fs : List ℕ} {base end : ℕ} (g : Children places fs base end) where
  low : base ≤ end
  low = omega (arith, g.first, bottom_low end fs g.stacked)

  own_part : own places base end ≡ drop (bottom (length (take end places)) fs) (take end places)
  unfolding own
  own_part = rw (length-take-le end places g.room, ← g.first) (lent base end places)

  own_inside : InTable (own places base end)
  unfolding own
  own_inside x m = g.inside x (among_drop x base (take end places) (rw (lent base end places) at m))

  -- They and those before them, once the first r of the part are kept.
  module _ (ys : List ℕ) (r : ℕ) (few : r ≤ length ys) where
    kept : take (base + r) (put_mid base (end - base) places ys) ≡ take base places ++ take r ys
    kept =
        let long = length-take-le base places (omega (arith, low, g.room)) in
        ap (λ n. take (n + r) (put_mid base (end - base) places ys)) (sym long)
        ∙ take-append-add (take base places) (ys ++ drop (end - base) (drop base places)) r
        ∙ ap (λ l. take base places ++ l) (take-append-le r ys (drop (end - base) (drop base places)) few)

    front : take base (put_mid base (end - base) places ys) ≡ take base places
    front = take_put base (end - base) places ys (omega (arith, low, g.room))

    back : drop base (take (base + r) (put_mid base (end - base) places ys)) ≡ take r ys
    back = rw kept (drop_at (take base places) (take r ys) base (length-take-le base places (omega (arith, low, g.room))))

  -- What is kept are the literals that all trees have which do not fail as they are.
  module _ {held : List ℕ} {n : ℕ} (counts : Counted (take end places) fs held n) (some : 1 ≤ n) (ys : List ℕ) (r : ℕ)
      (long : length ys ≡ length (own places base end)) (few : r ≤ length (own places base end))
      (found : (x : ℕ) → among x (take r ys) ≡ (among x (own places base end) && eqb (get_or held x 0) n)) where
    new : List ℕ
    new = put_mid base (end - base) places ys

    within : base + r ≤ end
    unfolding own
    within = omega (arith, low, length-take (end - base) (drop base places))

    breaks : (q : ℕ) → among q (drop base (take (base + r) new)) ≡ fails_all or (broken q (take end places) fs)
    unfolding new
    breaks q = rw (back ys r (omega arith), found q, own_part) (common_breaks counts some q)

    kept_inside : InTable (take (base + r) new)
    unfolding new
    kept_inside x m = ⊎_elim
        (λ e. g.inside x (among_take x base (take end places) (rw (take-take base end places low) e)))
        (λ e. own_inside x (and_split (among x (own places base end)) _ (sym (found x) ∙ e)).0)
        (or_split (among x (take base places)) (among x (take r ys))
        (sym (among_append x (take base places) (take r ys)) ∙ rw (kept ys r (omega arith)) at m))

pub offset_bounds-places-base : goal.offset_bounds-places-base
offset_bounds-places-base c = omega (arith, low c.requires.0, c.requires.0.room, c.well_formed)

pub slice_bounds-keep-count : goal.slice_bounds-keep-count
slice_bounds-keep-count c = low c.requires.0

pub slice_bounds-keep-start : goal.slice_bounds-keep-start
slice_bounds-keep-start c = omega (arith, low c.requires.0, c.requires.0.room, c.well_formed)

pub keep-requires : goal.keep-requires
unfolding own
keep-requires c =
    let p = c.requires in
    let counts = c.hold_all-count.ensures in
    (own_inside p.0, c.hold_all-count.auto.held ∙ p.2.0, omega (arith, counts.count, p.1), λ x. rw (own_part p.0) (counts.blank x))

pub returns : goal.returns
unfolding own new
returns c =
    let k = c.keep in
    let p = c.requires in
    let g = p.0 in
    let counts = c.hold_all-count.ensures in
    let some : 1 ≤ c.hold_all-count.result = omega (arith, counts.count, p.1) in
    let few = k.ensures.upper_bound.0 in
    let found = k.ensures.upper_bound.1 in
    let long = k.auto.list in
    record {
      lower_bound = (omega arith, within g counts some k.new.list k.result long few found, front g k.new.list k.result (omega (arith, few, long)));
      by_index = breaks g counts some k.new.list k.result long few found;
      in_table = (
        kept_inside g counts some k.new.list k.result long few found,
        (k.auto.held ∙ c.hold_all-count.auto.held ∙ p.2.0, k.ensures.by_index),
      );
    }
