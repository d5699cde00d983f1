use mathlib.Core.Path.{◌≡◌, subst}
use native.Mathlib.Omega.{arith}
use Rattle.model.specs.Limits.{no_rule}
use Rattle.model.specs.Sheet.{nodes_in}
use Rattle.search_place.proofs.SearchLevels.{r_found, r_none}
use Rattle.run_bounds.specs.BoundTables.{ComeTo}
use Rattle.run_bounds.proofs.RisingBounds.{none_lower, come_first}
use Rattle.run_bounds.proofs.next_redex.Goals as goal

pub returns-in-Some-clause-result_value : goal.returns-in-Some-clause-result_value
returns-in-Some-clause-result_value c =
    let i = c.loop-rule.invariant in
    r_found (nodes_in c.args.sheet.now) c.loop-rule.rule i.some_rule (omega arith) c.in-Some.ensures.result_value (none_lower i)

pub returns : goal.returns
returns c =
    let a = c.args in
    let i = c.loop-rule.invariant in
    let done : c.loop-rule.rule ≡ no_rule = omega (arith, i.past_all) in
    record {
      result_value = r_none (nodes_in a.sheet.now) (λ q l m. none_lower i q l (omega arith));
      come_to = subst (λ k. ComeTo k 0 a.sheet.now a.sizes.now c.loop-rule.low) done (come_first i);
    }
