-- `run_one_step::advance` meets its contract: after the step the bounds that were set back rise again.
use mathlib.Core.Logic.{◌⊎◌}
use mathlib.Core.Path.{◌≡◌, sym, subst, ◌∙◌}
use native.Mathlib.Omega.{arith}
use Rattle.model.specs.Sheet.{used_in}
use Rattle.theory_rewriting.specs.SheetPlaces.{used_here}
use Rattle.run_one_step.proofs.MinMax.{lesser}
use Rattle.run_one_step.proofs.Bounding.{high_all, high_ahead}
use Rattle.run_one_step.proofs.advance.Goals as goal
use Rattle.run_one_step.proofs.advance.Goals.{After-move_on-reach, After-from-used}

counted : (c : goal.After-from-used) → c.from-used.result ≡ used_in c.move_on-reach.new.sheet
counted c =
    c.from-used.ensures ∙ sym (used_here c.move_on-reach.new.sheet)

pub raise_all-floor-requires : goal.raise_all-floor-requires
raise_all-floor-requires c =
    let p = c.requires in
    let after = c.move_on-reach.ensures.moved_on in
    record {
      le_limit = (p.come_to.some_rule, p.come_to.past_all);
      tabled = after.tables;
      from_le_to = (omega (arith, c.min-from.ensures), omega (arith, c.min-to.ensures, counted (goal.at.raise_all-floor-requires c).After-from-used));
      high = λ q from upto. after.ones q (omega arith) (omega (arith, c.min-to.ensures, counted (goal.at.raise_all-floor-requires c).After-from-used));
    }

pub returns : goal.returns
returns c =
    let a = c.args in
    let reach = c.move_on-reach.result in
    let old = c.move_on-reach.new.low in
    let new = c.raise_all-floor.new.low in
    let after = c.move_on-reach.ensures.moved_on in
    let from = lesser reach.from c.min-to.result c.min-from.ensures in
    let to = lesser reach.to c.from-used.result c.min-to.ensures in
    let floor = c.raise_all-floor.ensures.lower_bound in
    let up = c.raise_all-floor.ensures.raised in
    let ends = subst (λ k. (c.min-to.result ≡ reach.to) ⊎ (c.min-to.result ≡ k)) (counted (goal.at.returns c).After-from-used) to.2 in
    record {
      sheet_after = c.move_on-reach.ensures.sheet_after;
      come_to_2 = record {
        tables = up.tables;
        some_rule = floor.0;
        past_all = omega (arith, floor.1, c.requires.come_to.past_all);
        high = high_all
            (used_in c.move_on-reach.new.sheet) reach.from reach.to c.min-from.result c.min-to.result old new a.redex.rule
            c.raise_all-floor.result from.0 ends after.outside up.rises floor.2 floor.1;
        within = omega (arith, from.1, to.1, counted (goal.at.returns c).After-from-used);
        past = high_ahead reach.from c.min-from.result old new a.redex.rule c.raise_all-floor.result after.ahead from.0 up.rises floor.1;
      };
    }
