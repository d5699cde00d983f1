-- `report_propagation::look` meets its contract, by what the part is and by what it forces.
use Rattle.report_propagation.proofs.LoneLiterals.{lone_looked, unforced_looked}
use Rattle.report_propagation.proofs.look.Goals as goal

pub returns-in-Only : goal.returns-in-Only
returns-in-Only c =
    let p = c.requires in
    let e = c.learn.ensures in
    lone_looked p.formed p.part p.facts c.in-Only.ensures e.value e.failed_after e.trail_after

pub returns-in-Nothing : goal.returns-in-Nothing
returns-in-Nothing c =
    let p = c.requires in
    unforced_looked p.formed p.part p.facts c.in-Nothing.ensures
