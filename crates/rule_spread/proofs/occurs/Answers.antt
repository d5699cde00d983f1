-- `rule_spread::occurs` meets its contract: the chain stops at the first number that is a literal of the option.
use Rattle.std.proofs.Common.{rules}
use Rattle.std.proofs.lemmas.Iterator.{cases_from_any, YieldsList-from_slice}
use Rattle.std.proofs.lemmas.List.{drop-take}
use mathlib.Core.Bool.{true, false}
use mathlib.Core.Path.{◌≡◌, sym, ap, ◌∙◌}
use Prim.Native.Nat.{◌+◌, ◌-◌}
use native.Mathlib.Omega.{arith}
use borrow.Rule.Slice.PartMut.{mid_of}
use lib.ListN.{take, drop}
use Rattle.model.specs.Base.{any}
use Rattle.rule_spread.specs.Assigning.{names}
use Rattle.rule_spread.proofs.Told.{any_told}
use Rattle.rule_spread.proofs.occurs.Goals as goal

pub returns : goal.returns
returns c =
    let a = c.args in
    let l = a.part.now in
    let read = mid_of a.from (a.to - a.from) l in
    let wide : a.to ≡ a.from + (a.to - a.from) = omega arith in
    any_told (names a.option) c.any.result read
    (cases_from_any _ _ _ (λ x. names a.option x ≡ true) (λ x. names a.option x ≡ false) c.any.ensures.ran
    (YieldsList-from_slice read cc) (λ x q k. search rules) (λ x q k. search rules))
    ∙ ap (any (names a.option)) (sym (ap (λ n. drop a.from (take n l)) wide ∙ drop-take a.from (a.to - a.from) l))
