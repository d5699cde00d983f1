use mathlib.Core.Bool.{true, false}
use mathlib.Core.Option.{none}
use mathlib.Core.Path.{◌≡◌, refl, sym, ap, ◌∙◌}
use Prim.Native.Nat.{ℕ, ◌+◌, ◌<◌}
use native.Mathlib.Omega.{arith}
use lib.ListN.{get_or, drop}
use Rattle.model.specs.Code.{kind, decode}
use Rattle.model.specs.Limits.{sheet_room}
use Rattle.model.specs.Sheet.{nodes_in}
use Rattle.model.specs.Strategy.{least_i}
use Rattle.theory_forms.specs.Scan.{is_literal}
use Rattle.search_sizes.specs.Ranges.{range_more}
use Rattle.search_place.specs.declared.Spot.{Spot}
use Rattle.search_place.specs.Redexes.{spot_of}
use Rattle.std.specs.Option.{is_some}
use Rattle.std.specs.Prelude as P
use Rattle.run_bounds.proofs.RisingBounds.{literal_none, kind_none}
use Rattle.run_bounds.proofs.least_rule.Goals as goal
use Rattle.run_bounds.proofs.least_rule.Goals.{Start, else-kind_for-kind-via-then-kind_for-kind+else-is_some, else-kind_for-kind-via-else-kind_for-kind}

no_spot : (rule place : ℕ) (o : P.Option Spot) → is_some o ≡ false → spot_of rule place o ≡ none
no_spot rule place P.None e = refl
no_spot rule place (P.Some x) e = cc

-- The place has an entry.
room : (c : goal.Start) → c.args.place < sheet_room
room c = omega (arith, c.requires.place_bound, c.requires.measured.sheet.used)

pub overflow_add-from : goal.overflow_add-from
overflow_add-from c = omega (arith, room (goal.at.overflow_add-from c).Start)

pub offset_bounds-sheet-from : goal.offset_bounds-sheet-from
offset_bounds-sheet-from c = omega (arith, room (goal.at.offset_bounds-sheet-from c).Start)

pub bounds-sheet-from : goal.bounds-sheet-from
bounds-sheet-from c = omega (arith, room (goal.at.bounds-sheet-from c).Start, c.requires.measured.sheet.whole)

pub returns-then-is_literal : goal.returns-then-is_literal
returns-then-is_literal c =
    let p = c.requires in
    let a = c.args in
    let it : is_literal (get_or a.sheet.now (2 + a.place) 0) ≡ true =
    sym (c.is_literal.ensures ∙ ap is_literal c.from-head.ensures) ∙ c.if-is_literal.true in
    (p.le_start.1, omega arith, λ s l m. literal_none p.measured.sheet a.place p.place_bound it s)

pub loop-rule-preserved : goal.loop-rule-preserved
loop-rule-preserved c =
    let a = c.args in
    let P : ℕ → Type 0 = λ s. none ≡ least_i s a.place (decode (drop a.place (nodes_in a.sheet.now))) in
    let here : P c.loop-rule.rule = elim c.else-kind_for-kind.branch [
      | else-kind_for-kind-via-then-kind_for-kind+else-is_some w ↦
          sym (no_spot c.loop-rule.rule a.place w.least_at.result (sym w.is_some.ensures ∙ w.if-is_some.false)) ∙ w.least_at.ensures
      | else-kind_for-kind-via-else-kind_for-kind w ↦ kind_none c.requires.measured.sheet a.place c.requires.place_bound c.loop-rule.rule
          (λ e. w.if-kind_for-kind.false (c.kind_for.ensures ∙ e ∙ ap kind (sym c.from-head.ensures) ∙ sym c.kind_of-kind.ensures))
    ] in
    range_more P c.loop-rule.rule c.loop-rule.invariant here
