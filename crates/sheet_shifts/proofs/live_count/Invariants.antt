-- `sheet_shifts::live_count` meets its contract. Invariant: no zero was met, so what is left to count are the numbers from the place `i` on.
use Rattle.std.proofs.Common.{◌≡◌, ◌+◌, length, drop}
use Rattle.theory_reading.specs.Stretches.{live}
use Rattle.sheet_shifts.proofs.live_count.Given as goal

abbrev pub invariant-loop-i : goal.invariant-loop-i
invariant-loop-i l = length (live l.s) ≡ l.i + length (live (drop l.i l.s))
