use mathlib.Core.Bool.{false, ◌&&◌, ◌||◌}
use mathlib.Core.List.{List}
use mathlib.Core.Path.{◌≡◌, sym, ap, ◌∙◌}
use Prim.Native.Nat.{ℕ, ◌+◌, ◌≤◌, ◌<◌}
use native.Mathlib.Omega.{arith}
use lib.ListN.{length, get_or}
use lib.Seq.{slice}
use Rattle.model.specs.Base.{any}
use Rattle.model.specs.Code.{value, children}
use Rattle.theory_forms.specs.Scan.{is_literal}
use Rattle.theory_reading.specs.Spans.{child_at}
use Rattle.rule_spread.specs.Assigning.{names, spreads_from}
use Rattle.search_sizes.specs.TreeHops.{passed_first, hop_within, passed_more}
use Rattle.search_recurring.proofs.has_literal.Goals as goal
use Rattle.search_recurring.proofs.has_literal.Goals.{In-loop}

-- Child i begins before the end.
inside :
    (c : goal.In-loop) →
    let a = c.args in
    (1 ≤ c.loop.at) × (c.loop.at < a.end) × (a.end ≤ length a.part.now)
inside c =
    let e = c.requires.ends_at in
    let here = c.loop.invariant.here in (
      omega (arith, here),
      omega (arith, here, e.children c.loop.counter (omega (arith, c.children_of-end.ensures ∙ ap children c.from.ensures))),
      e.within,
    )

-- Where no literal stands none recurs.
plain : (p end : ℕ) (l : List ℕ) → is_literal (get_or l p 0) ≡ false → spreads_from p end l ≡ false
unfolding spreads_from
plain p end l e =
    let x = get_or l p 0 in
    ap (λ b. b && (any (names (value x)) (slice 1 p l) || any (names (value x)) (slice (p + 1) end l))) e

pub loop-init : goal.loop-init
loop-init c = passed_first

pub offset_bounds-part-at : goal.offset_bounds-part-at
offset_bounds-part-at c = omega (arith, inside (goal.at.offset_bounds-part-at c).In-loop, c.requires.ends_at.short)

pub bounds-part-at : goal.bounds-part-at
bounds-part-at c = omega (arith, inside (goal.at.bounds-part-at c).In-loop)

pub offset_bounds-sizes-at : goal.offset_bounds-sizes-at
offset_bounds-sizes-at c = omega (arith, inside (goal.at.offset_bounds-sizes-at c).In-loop, c.requires.ends_at.short)

pub bounds-sizes-at : goal.bounds-sizes-at
bounds-sizes-at c = omega (arith, inside (goal.at.bounds-sizes-at c).In-loop, c.requires.sizes_of.long)

pub overflow_add-at : goal.overflow_add-at
overflow_add-at c =
    let p = c.requires in
    omega (arith, hop_within p.sizes_of (omega (arith, inside (goal.at.overflow_add-at c).In-loop)) c.from-at.ensures, p.ends_at.short)

pub loop-preserved : goal.loop-preserved
loop-preserved c =
    let a = c.args in
    let no : is_literal (get_or a.part.now c.loop.at 0) ≡ false =
    ap is_literal (sym c.from-in-loop.ensures) ∙ sym c.is_literal.ensures ∙ c.if-is_literal.false in
    let none_here : spreads_from (child_at c.loop.counter a.part.now) a.end a.part.now ≡ false =
    ap (λ p. spreads_from p a.end a.part.now) (sym c.loop.invariant.here) ∙ plain c.loop.at a.end a.part.now no in
    passed_more c.requires.sizes_of
    (omega (arith, inside (goal.at.loop-preserved c).In-loop)) c.from-at.ensures c.loop.invariant none_here
