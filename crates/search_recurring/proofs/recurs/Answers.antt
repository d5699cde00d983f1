-- `search_recurring::recurs` meets its contract.
use mathlib.Core.Bool.{◌&&◌}
use mathlib.Core.Path.{◌≡◌, ◌∙◌}
use Prim.Native.Nat.{◌<◌}
use native.Mathlib.Omega.{arith}
use Rattle.std.proofs.Common.{rules}
use lib.Dec.{eqb}
use lib.ListN.{get_or, length}
use Rattle.model.specs.Code.{value}
use Rattle.theory_forms.specs.Numbers.{value_small}
use Rattle.theory_forms.specs.Scan.{is_literal}
use Rattle.rule_spread.specs.Assigning.{spreads_from}
use Rattle.search_recurring.proofs.Tallies.{twice_spreads}
use Rattle.search_recurring.proofs.recurs.Goals as goal
use Rattle.search_recurring.proofs.recurs.Goals.{After-from-x}

-- Past the first test there is a tally, which tells what the numbers around say.
told :
    (c : goal.After-from-x) →
    let a = c.args in
    let x = c.from-x.result in
    (is_literal x && eqb (get_or a.tally.now (value x) 0) 2) ≡ spreads_from a.at a.end a.part.now
told c =
    let p = c.requires in
    let counted : 0 < length c.args.tally.now = search rules in
    rw c.from-x.ensures (twice_spreads (p.tallied_if_any counted) p.le_at.0 p.le_at.1 p.le_at.2)

pub bounds-tally-value_of : goal.bounds-tally-value_of
bounds-tally-value_of c =
    let counted : 0 < length c.args.tally.now = search rules in
    omega (arith, (c.requires.tallied_if_any counted).long, c.value_of.ensures, value_small c.from-x.result)

pub returns-then-is_literal : goal.returns-then-is_literal
returns-then-is_literal c =
    rw (← c.is_literal.ensures, c.if-is_literal.true, ← c.value_of.ensures) at (told (goal.at.returns-then-is_literal c).After-from-x)

pub returns-else-is_literal : goal.returns-else-is_literal
returns-else-is_literal c =
    c.if-is_literal.false ∙ (rw (← c.is_literal.ensures, c.if-is_literal.false) at (told (goal.at.returns-else-is_literal c).After-from-x))
