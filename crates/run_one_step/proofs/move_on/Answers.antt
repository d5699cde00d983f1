-- `run_one_step::move_on` meets its contract: the step is done, the sizes and the bounds follow.
use mathlib.Core.Logic.{⊎_elim}
use mathlib.Core.Path.{◌≡◌, refl, sym, ◌∙◌}
use Prim.Native.Nat.{◌+◌}
use native.Mathlib.Omega.{arith}
use Rattle.model.specs.Sheet.{used_in}
use Rattle.theory_rewriting.specs.SheetPlaces.{used_here}
use Rattle.theory_forms.specs.Sheets.{Formed}
use Rattle.search_sizes.specs.SizeTables.{Measured}
use Rattle.run_one_step.proofs.MinMax.{greater}
use Rattle.run_one_step.proofs.Moving.{formed_after, nodes_fewer, planned, sizes_left, spread_zone, moved_on}
use Rattle.run_one_step.proofs.move_on.Goals as goal
use Rattle.run_one_step.proofs.move_on.Goals.{After-apply_by, After-resize, After-from, After-from-before}

-- What the step leaves is a sheet; the number of nodes before it and after it.
made : (c : goal.After-apply_by) → Formed c.apply_by.new.sheet
made c =
    formed_after c.requires.come_to c.requires.applies c.look_ahead-plan.ensures c.apply_by.ensures

counted :
    (c : goal.After-from-before) →
    c.from-before.result ≡ used_in c.args.sheet.now
counted c =
    c.from-before.ensures ∙ sym (used_here c.args.sheet.now)

counted_after : (c : goal.After-from) → c.from.result ≡ used_in c.apply_by.new.sheet
counted_after c = c.from.ensures ∙ sym (used_here c.apply_by.new.sheet)

-- The sizes that were made are those of the sheet.
measured : (c : goal.After-resize) → Measured c.apply_by.new.sheet c.resize.new.sizes
measured c =
    let p = c.requires in
    record {
      sheet = (formed_after p.come_to p.applies c.look_ahead-plan.ensures c.apply_by.ensures);
      long = c.resize.auto.sizes ∙ p.come_to.tables.measured.long;
      each = c.resize.ensures;
    }

pub apply_by-requires : goal.apply_by-requires
apply_by-requires c =
    let p = c.requires in
    record {
      formed = p.come_to.tables.measured.sheet;
      sheet_value = p.applies;
      fewer_value = nodes_fewer p.come_to p.applies c.look_ahead-plan.ensures refl;
    }

pub bounds-sheet-1-2 : goal.bounds-sheet-1-2
bounds-sheet-1-2 c = omega (arith, (made (goal.at.bounds-sheet-1-2 c).After-apply_by).whole)

pub resize-requires : goal.resize-requires
resize-requires c =
    let p = c.requires in
    let old = counted (goal.at.resize-requires c).After-from-before in
    let new = counted_after (goal.at.resize-requires c).After-from in
    let few = p.come_to.tables.measured.sheet.used in
    let few-after = (made (goal.at.resize-requires c).After-apply_by).used in
    let most = greater c.from-before.result c.from.result c.max-most.ensures in
    sizes_left p.come_to p.applies c.look_ahead-plan.ensures c.apply_by.ensures c.max-most.result (omega arith) (omega arith)
    (⊎_elim (λ e. omega arith) (λ e. omega arith) most.2)

pub follow-requires : goal.follow-requires
follow-requires c =
    let p = c.requires in
    record {
      measured = measured (goal.at.follow-requires c).After-resize;
      low_len = p.come_to.tables.long;
      planned = planned p.come_to p.applies c.look_ahead-plan.ensures c.apply_by.ensures;
      from_value = spread_zone p.come_to p.applies c.look_ahead-plan.ensures c.apply_by.ensures;
    }

pub returns : goal.returns
returns c =
    let p = c.requires in
    let far = greater c.look_ahead-plan.result.zone.new (c.args.redex.place + 1) c.max.ensures in
    record {
      sheet_after = c.apply_by.ensures;
      moved_on = moved_on p.come_to p.applies c.look_ahead-plan.ensures c.apply_by.ensures (measured (goal.at.returns c).After-resize)
          (c.follow.auto.low ∙ p.come_to.tables.long) c.follow.ensures refl far.1 far.0;
    }
