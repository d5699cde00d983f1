use mathlib.Core.Path.{◌≡◌, sym, ap, ◌∙◌}
use Prim.Native.Nat.{◌≤◌, ◌<◌}
use native.Mathlib.Omega.{arith}
use lib.ListN.{length}
use Rattle.model.specs.Code.{children}
use Rattle.theory_reading.specs.Spans.{child_at}
use Rattle.rule_spread.specs.Assigning.{spreads_from}
use Rattle.search_sizes.specs.TreeHops.{passed_first, hop_within, passed_more}
use Rattle.search_recurring.proofs.first_among.Goals as goal
use Rattle.search_recurring.proofs.first_among.Goals.{After-recurs, In-loop-i}

-- Child i begins before the end.
inside :
    (c : goal.In-loop-i) →
    let a = c.args in
    (1 ≤ c.loop-i.at) × (c.loop-i.at < a.end) × (a.end ≤ length a.part.now)
inside c =
    let e = c.requires.ends_at in
    let here = c.loop-i.invariant.here in (
      omega (arith, here),
      omega (arith, here, e.children c.loop-i.i (omega (arith, c.children_of-i-end.ensures ∙ ap children c.from.ensures))),
      e.within,
    )

-- Whether it is a literal whose option occurs again.
told :
    (c : goal.After-recurs) →
    let a = c.args in
    spreads_from (child_at c.loop-i.i a.part.now) a.end a.part.now ≡ c.recurs.result
told c =
    let a = c.args in
    ap (λ p. spreads_from p a.end a.part.now) (sym c.loop-i.invariant.here) ∙ sym c.recurs.ensures

pub loop-i-init : goal.loop-i-init
loop-i-init c = passed_first

pub recurs-requires : goal.recurs-requires
recurs-requires c =
    let w = inside (goal.at.recurs-requires c).In-loop-i in
    record { le_at = (w.0, w.1, w.2, c.requires.ends_at.short); tallied_if_any = c.requires.tallied_if_any }

pub returns-then-recurs : goal.returns-then-recurs
returns-then-recurs c = (
  omega (arith, c.children_of-i-end.ensures ∙ ap children c.from.ensures),
  record { before = c.loop-i.invariant.before; there = told (goal.at.returns-then-recurs c).After-recurs ∙ c.if-recurs.true },
)

pub offset_bounds-sizes-at : goal.offset_bounds-sizes-at
offset_bounds-sizes-at c =
    omega (arith, inside (goal.at.offset_bounds-sizes-at c).In-loop-i, c.requires.ends_at.short)

pub bounds-sizes-at : goal.bounds-sizes-at
bounds-sizes-at c =
    omega (arith, inside (goal.at.bounds-sizes-at c).In-loop-i, c.requires.sizes_of.long)

pub overflow_add-at : goal.overflow_add-at
overflow_add-at c =
    let p = c.requires in
    omega (arith, hop_within p.sizes_of (omega (arith, inside (goal.at.overflow_add-at c).In-loop-i)) c.from-at.ensures, p.ends_at.short)

pub loop-i-preserved : goal.loop-i-preserved
loop-i-preserved c =
    let none_here = told (goal.at.loop-i-preserved c).After-recurs ∙ c.if-recurs.false in
    passed_more c.requires.sizes_of
    (omega (arith, inside (goal.at.loop-i-preserved c).In-loop-i)) c.from-at.ensures c.loop-i.invariant none_here
