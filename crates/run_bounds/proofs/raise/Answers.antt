-- `run_bounds::raise` meets its contract: the bound has come to the limit, or rises to the least rule that applies.
use mathlib.Core.Logic.{⊎_elim}
use Prim.Native.Nat.{◌≤◌}
use native.Mathlib.Omega.{arith}
use borrow.Author.Tests.{ltb-true, ltb-false}
use lib.Dec.{ltb}
use lib.ListN.{get_or}
use lib.Seq.{get_or-set_same}
use Rattle.theory_forms.specs.Logic.{either}
use Rattle.run_bounds.proofs.RisingBounds.{entry_there, bound_tells, raised_to}
use Rattle.run_bounds.proofs.raise.Goals as goal

pub returns : goal.returns
returns c =
    let p = c.requires in
    let a = c.args in
    let w = p.tabled in
    let within = p.place_bound in
    let e = c.least_rule-rule.ensures in
    let start = c.from-start.ensures in
    let r = c.least_rule-rule.result in
    let new = get_or-set_same a.low.now a.place r 0 (entry_there w within) in
    let up : get_or a.low.now a.place 0 ≤ r = omega (arith, start, e.0) in
    record {
      lower_bound = (omega (arith, up, p.bound), e.1, omega (arith, new));
      raised = raised_to w within up
          (λ s one lt. let low = get_or a.low.now a.place 0 in ⊎_elim (λ k. bound_tells w within s one (ltb-true s low k))
          (λ k. e.2 s (omega (arith, start, ltb-false s low k)) lt) (either (ltb s low)));
    }
