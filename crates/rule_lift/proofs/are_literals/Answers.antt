-- `rule_lift::are_literals` meets its contract: the chain stops at the first number that is no literal.
use Rattle.std.proofs.Common.{rules}
use Rattle.std.proofs.lemmas.Iterator.{cases_from_all, YieldsList-from_slice}
use Rattle.std.proofs.lemmas.List.{drop-take}
use mathlib.Core.Bool.{true, false}
use mathlib.Core.Path.{◌≡◌, sym, ap, ◌∙◌}
use Prim.Native.Nat.{◌+◌, ◌-◌}
use native.Mathlib.Omega.{arith}
use borrow.Rule.Slice.PartMut.{mid_of}
use lib.ListN.{take, drop}
use Rattle.model.specs.Base.{all}
use Rattle.theory_forms.specs.Scan.{is_literal}
use Rattle.rule_lift.proofs.Told.{all_told}
use Rattle.rule_lift.proofs.are_literals.Goals as goal

pub returns : goal.returns
returns c =
    let a = c.args in
    let l = a.part.now in
    let read = mid_of a.from (a.to - a.from) l in
    let wide : a.to ≡ a.from + (a.to - a.from) = omega arith in
    all_told is_literal c.all.result read
    (cases_from_all _ _ _ (λ x. is_literal x ≡ true) (λ x. is_literal x ≡ false) c.all.ensures.ran
    (YieldsList-from_slice read cc) (λ x q k. search rules) (λ x q k. search rules))
    ∙ ap (all is_literal) (sym (ap (λ n. drop a.from (take n l)) wide ∙ drop-take a.from (a.to - a.from) l))
