-- `search_place::least_factored` meets its contract: the first literal that all share, where child i can be the first conjunction.
use native.Mathlib.Omega.{arith}
use Rattle.theory_rewriting.specs.Children.{counted_child, headed_group, group_few}
use Rattle.search_place.proofs.FirstChildren.{late_none, inner_found, inner_none}
use Rattle.search_place.proofs.least_factored.Goals as goal

pub overflow_add-i : goal.overflow_add-i
overflow_add-i c =
    let w = counted_child c.requires.stretch c.requires.headed c.requires.i_bound in
    omega (arith, group_few (headed_group c.requires.stretch c.requires.headed), w.0)

pub returns-then-at-i : goal.returns-then-at-i
returns-then-at-i c =
    late_none c.requires.stretch c.requires.headed c.args.i c.requires.i_bound.0 c.requires.i_bound.1 c.if-at-i.true

pub returns-in_err-j : goal.returns-in_err-j
returns-in_err-j c =
    let p = c.requires in
    rw c.from_residual.ensures (inner_none p.stretch p.headed c.args.i p.i_bound.0 p.i_bound.1 c.in_err-j.ensures)

pub returns : goal.returns
returns c =
    let p = c.requires in
    inner_found p.stretch p.headed c.args.i p.i_bound.0 p.i_bound.1 c.in_ok-j.ensures
