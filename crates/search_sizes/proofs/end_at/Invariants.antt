-- `search_sizes::end_at` meets its contract. Invariant: the tree ends where the children that are pending end, read from the present place on.
use mathlib.Core.Path.{◌≡◌}
use Prim.Native.Nat.{◌+◌, ◌-◌, ◌≤◌, ◌<◌}
use lib.ListN.{length, drop}
use Rattle.theory_reading.specs.Spans.{span}
use Rattle.search_sizes.proofs.end_at.Given as goal

abbrev pub invariant-loop : goal.invariant-loop
invariant-loop l =
    (l.place < l.next)
    × (l.next ≤ length l.s)
    × (l.place + span 1 (drop l.place l.s) ≡ l.next + span (l.end - l.counter) (drop l.next l.s))
