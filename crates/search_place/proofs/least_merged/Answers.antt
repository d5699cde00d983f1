-- `search_place::least_merged` meets its contract: what the rule answers for 0, where child i can be the only one that is no literal.
use mathlib.Core.Logic.{inr}
use mathlib.Core.Path.{refl, sym, ◌∙◌}
use native.Mathlib.Omega.{arith}
use Rattle.theory_rewriting.specs.Children.{counted_child, headed_group, group_few}
use Rattle.search_place.proofs.InnerSearch.{flat_found, flat_none}
use Rattle.search_place.proofs.FirstChildren.{merged_late}
use Rattle.search_place.proofs.least_merged.Goals as goal
use Rattle.search_place.proofs.least_merged.Goals.{else-at-i-via-else-at-i, else-at-i-via-then-at-i+else-applies}

pub overflow_add-i : goal.overflow_add-i
overflow_add-i c =
    let w = counted_child c.requires.stretch c.requires.headed c.requires.i_bound in
    omega (arith, group_few (headed_group c.requires.stretch c.requires.headed), w.0)

pub returns-then-applies : goal.returns-then-applies
returns-then-applies c =
    flat_found c.requires.stretch c.requires.headed c.args.i (inr refl) (sym c.applies.ensures ∙ c.if-applies.true)

pub returns-else-at-i : goal.returns-else-at-i
returns-else-at-i c =
    let p = c.requires in
    elim c.else-at-i.branch [
      | else-at-i-via-else-at-i w ↦ merged_late p.stretch p.headed c.args.i p.i_bound.0 p.i_bound.1 w.if-at-i.false
      | else-at-i-via-then-at-i+else-applies w ↦ flat_none p.stretch p.headed c.args.i (inr refl) (sym w.applies.ensures ∙ w.if-applies.false)
    ]
