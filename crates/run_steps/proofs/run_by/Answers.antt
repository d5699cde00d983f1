use mathlib.Core.Option.{some}
use mathlib.Core.Path.{◌≡◌, refl, sym, subst}
use Prim.Native.Nat.{◌+◌}
use native.Mathlib.Omega.{arith}
use Rattle.model.specs.Results.{stepped}
use Rattle.model.specs.Sheet.{nodes_in}
use Rattle.model.specs.Strategy.{next, redex}
use Rattle.theory_rewriting.specs.Reached.{Reached, reached_start, next_here, reached_more, run_done}
use Rattle.search_place.specs.Redexes.{next_of}
use Rattle.run_steps.proofs.StartAndEnd.{none_left, run_ended}
use Rattle.run_steps.proofs.run_by.Goals as goal
use Rattle.run_steps.proofs.run_by.Goals.{In-Some}

-- The strategy's step, as the search found it.
found :
    (c : goal.In-Some) →
    let x = c.in-Some.redex in
    next (nodes_in c.loop-count.sheet) ≡ some (redex x.rule x.place x.i x.j)
found c = sym c.in-Some.ensures.result_value

pub loop-count-init : goal.loop-count-init
loop-count-init c =
    (reached_start c.args.sheet.now c.requires.tables.measured.sheet, c.requires)

pub returns-in_default : goal.returns-in_default
returns-in_default c =
    run_done c.loop-count.invariant.0 _ (omega arith) (sym c.in_default.ensures.result_value)

pub advance-ahead-requires : goal.advance-ahead-requires
advance-ahead-requires c =
    record { come_to = c.in-Some.ensures.come_to; applies = next_here c.loop-count.invariant.0 (found (goal.at.advance-ahead-requires c).In-Some) }

pub loop-count-preserved : goal.loop-count-preserved
unfolding stepped
loop-count-preserved c =
    let i = c.loop-count.invariant in
    let e = c.advance-ahead.ensures in (
      subst (Reached _ (c.loop-count.count + 1)) (sym e.sheet_after) (reached_more i.0 (found (goal.at.loop-count-preserved c).In-Some)),
      e.come_to_2,
    )

pub returns : goal.returns
returns c =
    let end : c.loop-count.count ≡ c.args.budget = omega arith in
    let there = subst (λ n. Reached c.args.sheet.now n c.loop-count.sheet) end c.loop-count.invariant.0 in
    rw (none_left c.next_redex-last.result c.is_none.result c.is_none.ensures)
    (run_ended there _ refl
    (next_of c.next_redex-last.result) c.next_redex-last.ensures.result_value)
