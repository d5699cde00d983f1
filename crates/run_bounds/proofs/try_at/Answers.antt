-- `run_bounds::try_at` meets its contract: the place is past the rule, or a literal, or the rule is tried.
use mathlib.Core.Bool.{true}
use mathlib.Core.Logic.{⊎_elim}
use mathlib.Core.Path.{◌≡◌, sym, ap, ◌∙◌}
use Prim.Native.Nat.{◌+◌, ◌<◌}
use native.Mathlib.Omega.{arith}
use borrow.Author.Tests.{ltb-true, ltb-false}
use lib.Dec.{ltb}
use lib.ListN.{length, get_or}
use lib.Seq.{get_or-set_same}
use Rattle.model.specs.Code.{kind}
use Rattle.model.specs.Limits.{no_rule}
use Rattle.theory_forms.specs.Logic.{either}
use Rattle.theory_forms.specs.Scan.{is_literal}
use Rattle.run_bounds.proofs.RisingBounds.{raised_same, entry_there, bound_tells, tells_more, raised_to, literal_none, kind_none}
use Rattle.run_bounds.proofs.try_at.Goals as goal
use Rattle.run_bounds.proofs.try_at.Goals.{Else-rule-from, Start}

-- The place has an entry.
inside : (c : goal.Start) → c.args.place < length c.args.low.now
inside c = entry_there c.requires.tabled c.requires.place_bound

-- Past the first test the bound has just come to the rule.
come : (c : goal.Else-rule-from) → let a = c.args in get_or a.low.now a.place 0 ≡ a.rule
come c =
    omega (arith, c.from.ensures, c.if-rule-from.false, c.requires.rule_bound)

pub returns-then-rule-from : goal.returns-then-rule-from
returns-then-rule-from c =
    let p = c.requires in
    let a = c.args in
    let past : a.rule < get_or a.low.now a.place 0 = omega (arith, c.from.ensures, c.if-rule-from.true) in
    record { result_value = bound_tells p.tabled p.place_bound a.rule p.le_rule.0 past; raised = raised_same p.tabled; rule_bound_2 = λ e. past }

pub returns-then-is_literal : goal.returns-then-is_literal
returns-then-is_literal c =
    let p = c.requires in
    let a = c.args in
    let it : is_literal (get_or a.sheet.now (2 + a.place) 0) ≡ true =
    sym (c.is_literal.ensures ∙ ap is_literal c.from-head.ensures) ∙ c.if-is_literal.true in
    let none_here = literal_none p.tabled.measured.sheet a.place p.place_bound it in
    let new = get_or-set_same a.low.now a.place no_rule 0 (inside (goal.at.returns-then-is_literal c).Start) in
    record {
      result_value = none_here a.rule;
      raised = raised_to p.tabled p.place_bound (omega (arith, come (goal.at.returns-then-is_literal c).Else-rule-from, p.le_rule.1))
          (λ r one lt. none_here r);
      rule_bound_2 = λ k. omega (arith, new, p.le_rule.1);
    }

pub returns : goal.returns
returns c =
    let p = c.requires in
    let a = c.args in
    let w = p.tabled in
    let within = p.place_bound in
    let nothing = c.in_default.ensures in
    let next = c.next_for.ensures in
    let new = get_or-set_same a.low.now a.place c.next_for.result 0 (inside (goal.at.returns c).Start) in
    let read : c.kind_of.result ≡ kind (get_or a.sheet.now (2 + a.place) 0) = c.kind_of.ensures ∙ ap kind c.from-head.ensures in
    record {
      result_value = nothing;
      raised = raised_to w within (omega (arith, come (goal.at.returns c).Else-rule-from, next.0))
          (λ r one lt. ⊎_elim
          (λ k. tells_more w within (come (goal.at.returns c).Else-rule-from) nothing r one (ltb-true r (a.rule + 1) k))
          (λ k. kind_none w.measured.sheet a.place within r (λ f. next.2 r (omega (arith, ltb-false r (a.rule + 1) k)) lt (f ∙ sym read)))
          (either (ltb r (a.rule + 1))));
      rule_bound_2 = λ k. omega (arith, new, next.0);
    }
