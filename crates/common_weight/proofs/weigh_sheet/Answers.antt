use mathlib.Core.List.{List, map}
use mathlib.Core.Path.{◌≡◌, refl, sym, ap, ◌∙◌}
use Prim.Native.Nat.{ℕ, ◌+◌, ◌-◌, ◌≤◌}
use native.Mathlib.Omega.{arith}
use lib.ListN.{length, get_or, take, drop, length-map, length-drop}
use lib.Seq.{length-take-le}
use Rattle.model.specs.Code.{literals, weight, node_of}
use Rattle.model.specs.Sheet.{used_in, numbers_in, nodes_in}
use Rattle.theory_forms.specs.Scan.{is_literal}
use Rattle.common_weight.proofs.Weighing.{begun, small, literal_weighed, other_weighed, all_weighed}
use Rattle.common_weight.proofs.weigh_sheet.Goals as goal
use Rattle.common_weight.proofs.weigh_sheet.Goals.{then-is_literal, else-is_literal}

-- The numbers used: how many, what each is, and their weight.
module _ (s : List ℕ) (h : 2 + used_in s ≤ length s) where
  used_many : length (numbers_in s) ≡ used_in s
  unfolding numbers_in
  used_many = length-take-le (used_in s) (drop 2 s) (omega (arith, length-drop 2 s))

  used_weight : weight (nodes_in s) ≡ used_in s + literals (map node_of (numbers_in s))
  unfolding weight nodes_in
  used_weight = rw (length-map, used_many)

read_used : (s : List ℕ) → used_in s ≡ get_or s 1 0
unfolding used_in
read_used s = refl

-- What the loop goes over.
lent : {u : ℕ} (s : List ℕ) → u ≡ get_or s 1 0 → take (2 + u - 2) (drop 2 s) ≡ numbers_in s
unfolding numbers_in used_in
lent {u} s e = let f : 2 + u - 2 ≡ get_or s 1 0 = omega (arith, e) in rw f

pub slice_bounds-x-items-end : goal.slice_bounds-x-items-end
slice_bounds-x-items-end c = omega (arith, c.from.ensures, read_used c.args.s.now, c.requires.1)

pub loop-x-init : goal.loop-x-init
loop-x-init c =
    let s = c.args.s.now in
    let p = c.requires in
    rw (← read_used s) (small (omega (arith, used_many s p.1, p.0)) (begun (used_weight s p.1)))

pub overflow_add-sum : goal.overflow_add-sum
overflow_add-sum c = omega (arith, c.loop-x.invariant.1)

pub loop-x-preserved : goal.loop-x-preserved
loop-x-preserved c =
    let s = c.args.s.now in
    let p = c.requires in
    let here = rw (lent s c.from.ensures) at c.loop-x-test.true in
    let number = rw (lent s c.from.ensures) at c.from-in-loop-x.ensures in
    let read : is_literal (get_or (numbers_in s) c.loop-x.x-index 0) ≡ c.is_literal.result = ap is_literal (sym number) ∙ sym c.is_literal.ensures in
    small (omega (arith, used_many s p.1, p.0))
    (elim c.if-is_literal.branch [
      | then-is_literal w ↦ literal_weighed here c.loop-x.invariant.0 (read ∙ w.if-is_literal.true) w.sum-is
      | else-is_literal w ↦ other_weighed here c.loop-x.invariant.0 (read ∙ w.if-is_literal.false) w.sum-is
    ])

pub returns : goal.returns
returns c =
    let over = rw (lent c.args.s.now c.from.ensures) at c.loop-x-test.false in
    (all_weighed (omega (arith, over, c.loop-x.invariant.0.place)) c.loop-x.invariant.0, c.loop-x.invariant.1)
