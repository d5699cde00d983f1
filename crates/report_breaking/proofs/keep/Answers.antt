use mathlib.Core.Bool.{◌&&◌, or-false}
use mathlib.Core.List.{List, [], ◌∷◌, ◌++◌}
use mathlib.Core.Logic.{⊎_elim}
use mathlib.Core.Path.{◌≡◌, refl, sym, ap, ◌∙◌}
use Prim.Native.Nat.{ℕ, suc, ◌+◌, ◌≤◌, ◌<◌}
use native.Mathlib.Numerals.{add-one}
use native.Mathlib.Omega.{arith}
use lib.Dec.{eqb}
use lib.ListN.{length, get_or, take, drop, set, length-set}
use lib.Seq.{drop-cons, drop-length, take-suc-set, drop-set-lt}
use Rattle.model.specs.Limits.{most_literals}
use Rattle.theory_forms.specs.Logic.{true_false}
use Rattle.report_breaking.specs.Stacks.{among, InTable, BlankBut}
use Rattle.report_breaking.proofs.Among.{among_same, among_drop}
use Rattle.report_breaking.proofs.Holding.{kept_here, kept_none, blank_more}
use Rattle.report_breaking.proofs.keep.Goals as goal
use Rattle.report_breaking.proofs.keep.Goals.{After-from-place, then-held-place, else-held-place}
use Rattle.report_breaking.proofs.keep.Invariants.{Keeping}

begun : (list held : List ℕ) (n : ℕ) → InTable list → BlankBut list held → Keeping list held n list held 0 0
unfolding among
begun list held n h g =
    record { left = omega arith; low = omega arith; long = refl; wide = refl; inside = h; found = λ x. refl; blank = g }

module _ {list₀ held₀ : List ℕ} {n : ℕ} {list held : List ℕ} {kept i : ℕ} (r : Keeping list₀ held₀ n list held kept i)
    (l : i < length list) {y : ℕ} (e : y ≡ get_or list i 0) where
  rest : List ℕ
  rest = drop (suc i) list

  next : drop i list ≡ y ∷ rest
  unfolding rest
  next = drop-cons list i 0 l ∙ rw (← e)

  in_table : length held₀ ≡ most_literals → y < length held
  in_table w = omega (arith, r.wide, r.inside y (rw next (among_same y y rest refl)))

  rest_inside : InTable rest
  unfolding rest
  rest_inside x h = r.inside x (rw next (among_drop x 1 (y ∷ rest) h))

  module _ (some : 1 ≤ n) (w : length held₀ ≡ most_literals) where
    rest_blank : BlankBut rest (set held y 0)
    rest_blank = blank_more n some y (take kept list) rest held (in_table w) (rw next at r.blank)

    more_here : get_or held y 0 ≡ n → Keeping list₀ held₀ n (set list kept (get_or list i 0)) (set held y 0) (kept + 1) (i + 1)
    unfolding rest
    more_here h =
        let low = r.low in
        let front : take (kept + 1) (set list kept y) ≡ take kept list ++ (y ∷ []) = rw (add-one kept) (take-suc-set list kept y (omega arith)) in
        let back : drop (i + 1) (set list kept y) ≡ rest = rw (add-one i) (drop-set-lt (suc i) list kept y (omega arith)) in
        rw (← e)
        record {
          left = simp length-set (omega arith);
          low = omega arith;
          long = length-set list kept y ∙ r.long;
          wide = length-set held y 0 ∙ r.wide;
          inside = rw back rest_inside;
          found = λ x. rw (front, back) (kept_here n some y (take kept list) rest held (in_table w) h x ∙ rw next at (r.found x));
          blank = rw back rest_blank;
        }

    more_none : (get_or held y 0 ≡ n → ⊥) → Keeping list₀ held₀ n list (set held y 0) kept (i + 1)
    unfolding rest
    more_none d =
        let back : drop (i + 1) list ≡ rest = ap (λ k. drop k list) (add-one i) in
        record {
          left = omega arith;
          low = omega (arith, r.low);
          long = r.long;
          wide = length-set held y 0 ∙ r.wide;
          inside = rw back rest_inside;
          found = λ x. rw back (kept_none n some y (take kept list) rest held (in_table w) d x ∙ rw next at (r.found x));
          blank = rw back rest_blank;
        }

module _ {list₀ held₀ : List ℕ} {n : ℕ} {list held : List ℕ} {kept i : ℕ} (r : Keeping list₀ held₀ n list held kept i)
    (h : length list ≤ i) where
  none_left : drop i list ≡ []
  none_left = let e : i ≡ length list = omega (arith, r.left) in rw e (drop-length list)

  all_kept : (x : ℕ) → among x (take kept list) ≡ (among x list₀ && eqb (get_or held₀ x 0) n)
  unfolding among
  all_kept x = sym (or-false (among x (take kept list))) ∙ rw none_left at (r.found x)

  all_blank : (x : ℕ) → get_or held x 0 ≡ 0
  unfolding among
  all_blank x = ⊎_elim (λ e. e) (λ e. true_false (sym e)) (rw none_left at (r.blank x))

-- The literal's place is one of the table's.
inside_table : (c : goal.After-from-place) → c.from-place.result < length c.loop-i.held
inside_table c =
    let r = c.loop-i.invariant in
    in_table r (omega (arith, r.long)) c.from-place.ensures c.requires.1

pub loop-i-init : goal.loop-i-init
loop-i-init c = let p = c.requires in begun _ _ _ p.0 p.3

pub bounds-held-place : goal.bounds-held-place
bounds-held-place c = inside_table (goal.at.bounds-held-place c).After-from-place

pub bounds-held-place-in-loop-i : goal.bounds-held-place-in-loop-i
bounds-held-place-in-loop-i c = inside_table (goal.at.bounds-held-place-in-loop-i c).After-from-place

pub loop-i-preserved : goal.loop-i-preserved
loop-i-preserved c =
    let p = c.requires in
    let e = c.from-place.ensures in
    let r = c.loop-i.invariant in
    let l : c.loop-i.i < length c.loop-i.list = omega (arith, r.long) in
    elim c.if-held-place.branch [
      | then-held-place w ↦ rw (w.list-is, w.kept-is) (more_here r l e p.2 p.1 w.if-held-place.true)
      | else-held-place w ↦ rw (w.list-is, w.kept-is) (more_none r l e p.2 p.1 w.if-held-place.false)
    ]

pub returns : goal.returns
returns c =
    let r = c.loop-i.invariant in
    let h : length c.loop-i.list ≤ c.loop-i.i = omega (arith, r.long) in
    record { upper_bound = (omega (arith, r.left, r.low, r.long), all_kept r h); by_index = all_blank r h }
