use mathlib.Core.Bool.{true}
use Rattle.std.proofs.lemmas.Grind.{common_steps}
use mathlib.Core.Path.{◌≡◌, sym, ap, ◌∙◌}
use Prim.Native.Nat.{◌+◌, ◌-◌}
use native.Mathlib.Nat.{sub-zero}
use native.Mathlib.Omega.{arith}
use lib.ListN.{get_or, drop}
use Rattle.model.specs.Code.{value, children}
use Rattle.theory_forms.specs.Scan.{is_literal}
use Rattle.theory_reading.specs.Spans.{arity, arity_literal, arity_inner, span, span_none, span_end}
use Rattle.search_sizes.specs.TreeHops.{no_children, span_tree, childless, span_one, span_hop}
use Rattle.search_sizes.proofs.end_at.Goals as goal
use Rattle.search_sizes.proofs.end_at.Goals.{After-from-next}

-- The entry that a hop reads.
hop :
    (c : goal.After-from-next) →
    c.from-next.result ≡ span 1 (drop c.loop.next c.args.s.now)
hop c =
    c.from-next.ensures ∙ c.requires.sizes_from c.loop.next (omega arith) (omega arith)

pub returns-then-is_literal : goal.returns-then-is_literal
returns-then-is_literal c =
    let a = c.args in
    let x = get_or a.s.now a.place 0 in
    let read = c.from-node.ensures in
    let literal : is_literal x ≡ true → arity x ≡ 0 = arity_literal x in
    let empty : value x ≡ 0 → arity x ≡ 0 = no_children x in
    let none : arity x ≡ 0 = grind (arith, common_steps) in
    omega (arith, childless a.place a.s.now (omega arith) none)

pub loop-init : goal.loop-init
loop-init c =
    let a = c.args in
    let told = c.is_literal.ensures ∙ ap is_literal c.from-node.ensures in
    let inner = arity_inner (get_or a.s.now a.place 0) (sym told ∙ c.if-is_literal.false) in
    let announced : c.children_of-end.result ≡ arity (get_or a.s.now a.place 0) =
    c.children_of-end.ensures ∙ ap children c.from-node.ensures ∙ sym inner in
    (omega arith, omega arith, rw (sub-zero, announced) (span_tree a.place a.s.now (omega arith)))

pub loop-preserved : goal.loop-preserved
loop-preserved c =
    let s = c.args.s.now in
    let left = c.children_of-end.result - c.loop.counter in
    let within = span_one c.loop.next s (omega arith) in
    let one_less : left - 1 ≡ c.children_of-end.result - (c.loop.counter + 1) = omega arith in (
      omega arith,
      omega (arith, hop (goal.at.loop-preserved c).After-from-next),
      c.loop.invariant.2
          ∙ span_hop left c.loop.next s (omega arith)
          ∙ rw (hop (goal.at.loop-preserved c).After-from-next, one_less),
    )

pub returns-then-next-s : goal.returns-then-next-s
returns-then-next-s c =
    let s = c.args.s.now in
    omega (arith, span_end (c.children_of-end.result - c.loop.counter) c.loop.next s (omega arith))

pub returns-after-loop : goal.returns-after-loop
returns-after-loop c =
    let s = c.args.s.now in
    let done : c.children_of-end.result - c.loop.counter ≡ 0 = omega arith in
    omega (arith, rw done at c.loop.invariant.2, span_none (drop c.loop.next s))
