-- `report_propagation::next_due` meets its contract. Invariant: the chain is passed from the turn's place to n.
use mathlib.Core.List.{List}
use Prim.Native.Nat.{ℕ, ◌≤◌, ◌<◌}
use lib.ListN.{get_or}
use Rattle.model.specs.Limits.{sheet_length}
use Rattle.report_parts.specs.Parts.{Descends}
use Rattle.report_propagation.specs.declared.Turn.{Turn}
use Rattle.report_propagation.specs.Trails.{PassedTo}
use Prim.Native.Nat.{◌-◌}
use Rattle.report_propagation.proofs.next_due.Given as goal

pub record Passing (ends homes links seen : List ℕ) (turn : Turn) (n : ℕ) : Type 0 where
  pub descends : Descends links
  pub homes_near : (m : ℕ) → get_or homes m 0 < sheet_length
  pub near : n < sheet_length
  pub down : n ≤ turn.place - 1
  pub passed : PassedTo ends homes links seen turn n

abbrev pub invariant-loop-n : goal.invariant-loop-n
invariant-loop-n l = Passing l.ends l.homes l.links l.seen l.turn l.n

abbrev pub decreases-loop-n : goal.decreases-loop-n
decreases-loop-n l = l.n
