-- `run_bounds_after::may_wake` meets its contract: a literal has no children.
use mathlib.Core.Bool.{true}
use mathlib.Core.Path.{◌≡◌, sym, ap, ◌∙◌}
use Prim.Native.Nat.{◌+◌}
use native.Mathlib.Omega.{arith}
use lib.ListN.{get_or}
use Rattle.theory_forms.specs.Scan.{is_literal}
use Rattle.theory_reading.specs.Spans.{arity_literal}
use Rattle.run_bounds_after.proofs.ConstantChildren.{passed_all}
use Rattle.run_bounds_after.proofs.may_wake.Goals as goal

pub returns-else-not-is_literal : goal.returns-else-not-is_literal
returns-else-not-is_literal c =
    let p = c.requires in
    let a = c.args in
    let it : is_literal (get_or a.sheet.now (2 + a.place) 0) ≡ true =
    sym (c.is_literal.ensures ∙ ap is_literal c.from.ensures) ∙ c.if-not-is_literal.false in
    λ e. passed_all p.measured.sheet p.place_bound {i = 0} (λ j l. absurd (omega arith))
    (omega (arith, arity_literal (get_or a.sheet.now (2 + a.place) 0) it))
