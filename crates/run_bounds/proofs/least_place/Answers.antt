use mathlib.Core.Path.{refl, ◌≡◌, sym, ◌∙◌}
use native.Mathlib.Omega.{arith}
use Rattle.model.specs.Sheet.{nodes_in, used_in}
use Rattle.theory_rewriting.specs.SheetPlaces.{used_here}
use Rattle.search_place.proofs.SearchLevels.{p_found, p_none}
use Rattle.run_bounds.specs.BoundTables.{ComeTo}
use Rattle.run_bounds.proofs.RisingBounds.{high_rises, high_more, come_further, none_before}
use Rattle.run_bounds.proofs.least_place.Goals as goal
use Rattle.run_bounds.proofs.least_place.Goals.{After-from-used, In-Some}

counted : (c : goal.After-from-used) → c.from-used.result ≡ used_in c.args.sheet.now
counted c = c.from-used.ensures ∙ sym (used_here c.args.sheet.now)

-- The search has come to the place that is tried.
come : (c : goal.In-Some) → ComeTo c.args.rule c.in-Some.place c.args.sheet.now c.args.sizes.now c.loop-place.low
come c =
    let w = c.in-Some.ensures in
    come_further c.loop-place.invariant (omega (arith, w.1, c.from-used.ensures, used_here c.args.sheet.now)) w.2

pub first_waiting-requires-clause-from_le_to : goal.first_waiting-requires-clause-from_le_to
first_waiting-requires-clause-from_le_to c =
    let i = c.loop-place.invariant in
    let used = counted (goal.at.first_waiting-requires-clause-from_le_to c).After-from-used in
    let few = i.tables.measured.sheet.used in
    (omega (arith, i.within), omega (arith, i.tables.long), omega arith)

pub try_at-requires-clause-place_bound : goal.try_at-requires-clause-place_bound
try_at-requires-clause-place_bound c =
    omega (arith, c.in-Some.ensures.1, counted (goal.at.try_at-requires-clause-place_bound c).After-from-used)

pub try_at-requires-clause-rule_bound : goal.try_at-requires-clause-rule_bound
try_at-requires-clause-rule_bound c =
    c.loop-place.invariant.high c.in-Some.place (omega arith)
    (omega (arith, c.in-Some.ensures.1, counted (goal.at.try_at-requires-clause-rule_bound c).After-from-used))

pub returns-in-Some-try_at : goal.returns-in-Some-try_at
returns-in-Some-try_at c =
    let a = c.args in
    let i = come (goal.at.returns-in-Some-try_at c).In-Some in
    let e = c.try_at.ensures.raised in
    let new = c.try_at.new.low in
    let used = counted (goal.at.returns-in-Some-try_at c).After-from-used in
    let few = i.tables.measured.sheet.count in
    record {
      result_value = p_found a.rule (nodes_in a.sheet.now) c.in-Some.place (omega (arith, c.in-Some.ensures.1))
          c.in-Some-try_at.ensures.result_value (none_before i);
      come_to_2 = record {
        tables = e.tables;
        some_rule = i.some_rule;
        past_all = i.past_all;
        high = high_rises c.loop-place.low new e.rises i.high;
        within = i.within;
        past = high_rises c.loop-place.low new e.rises i.past;
      };
    }

-- The rule does not apply at the place that was tried.
pub loop-place-preserved : goal.loop-place-preserved
loop-place-preserved c =
    let i = come (goal.at.loop-place-preserved c).In-Some in
    let e = c.try_at.ensures.raised in
    let new = c.try_at.new.low in
    let past = c.in_default-try_at.ensures.rule_bound_2 refl in
    record {
      tables = e.tables;
      some_rule = i.some_rule;
      past_all = i.past_all;
      high = high_rises c.loop-place.low new e.rises i.high;
      within = omega (arith, c.in-Some.ensures.1, counted (goal.at.loop-place-preserved c).After-from-used);
      past = high_more c.in-Some.place new (high_rises c.loop-place.low new e.rises i.past) (omega arith);
    }

pub returns : goal.returns
returns c =
    let a = c.args in
    let used = counted (goal.at.returns c).After-from-used in
    let i = come_further c.loop-place.invariant (omega arith) c.in_default.ensures in
    let few = i.tables.measured.sheet.count in
    record {
      result_value = p_none a.rule (nodes_in a.sheet.now) (λ q l. none_before i q (omega arith));
      come_to_2 = record {
        tables = i.tables;
        some_rule = omega arith;
        past_all = omega (arith, c.requires.rule_le_last_rule);
        high = λ q from to. i.past q from (omega arith);
        within = omega arith;
        past = λ q from to. absurd (omega arith);
      };
    }
