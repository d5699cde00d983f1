-- `search_common::hold` meets its contract. Invariant: a literal among the children has risen, or is among those left.
use mathlib.Core.Path.{◌≡◌}
use Prim.Native.Nat.{◌+◌, ◌-◌, ◌≤◌}
use lib.ListN.{length, get_or}
use Rattle.model.specs.Code.{children}
use Rattle.search_common.specs.Held.{literal_numbers}
use Rattle.search_common.proofs.HeldNotes.{Holding}
use Rattle.search_common.proofs.hold.Given as goal

abbrev pub invariant-loop : goal.invariant-loop
invariant-loop l =
    (l.from ≤ length l.part)
    × (length l.held ≡ literal_numbers)
    × Holding l.groups (children (get_or l.part l.at 0)) (l.at + 1) l.part l.initial.held l.held (l.end - l.counter) l.from
