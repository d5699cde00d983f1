-- `run_bounds_after::lifted_zone` meets its contract: from child i on, past its inner child j.
use mathlib.Core.Path.{sym, subst}
use Prim.Native.Nat.{◌<◌}
use native.Mathlib.Omega.{arith}
use lib.ListN.{drop}
use Rattle.model.specs.Forest.{size, kids}
use Rattle.model.specs.Code.{decode}
use Rattle.model.specs.Sheet.{nodes_in}
use Rattle.run_bounds_after.proofs.SheetZones.{child, inner_there, zone_11}
use Rattle.run_bounds_after.proofs.lifted_zone.Goals as goal

pub child_place-at-requires : goal.child_place-at-requires
child_place-at-requires c =
    let p = c.requires in
    record { formed = p.formed; i_bound = child c.args.sheet.now p.formed c.args.redex p.applies (omega (arith, p.le_rule.1)) }

pub child_place-after-requires : goal.child_place-after-requires
child_place-after-requires c =
    let a = c.args in
    let there = inner_there a.sheet.now c.requires.formed a.redex c.requires.applies c.requires.le_rule.0 c.requires.le_rule.1 in
    record {
      formed = c.requires.formed;
      i_bound = subst (λ p. a.redex.j < size (kids (decode (drop p (nodes_in a.sheet.now))))) (sym c.child_place-at.ensures.0) there;
    }

pub returns : goal.returns
returns c =
    let a = c.args in
    let p = c.requires in
    zone_11 a.sheet.now p.formed a.redex p.applies p.le_rule.0 p.le_rule.1 c.unmoved.ensures.0 c.unmoved.ensures.1 c.unmoved.ensures.2 c.child_place-at.ensures.0 c.child_place-after.ensures.0
