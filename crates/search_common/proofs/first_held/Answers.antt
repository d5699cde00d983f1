-- `search_common::first_held` meets its contract: the table is filled, then used.
use Rattle.rule_factor.proofs.Asking.{stretch_some}
use Rattle.search_common.proofs.first_held.Goals as goal

pub hold_all-groups-requires-clause-in_bounds : goal.hold_all-groups-requires-clause-in_bounds
hold_all-groups-requires-clause-in_bounds c = (stretch_some c.requires.stretch c.requires.headed, c.requires.stretch.short)
