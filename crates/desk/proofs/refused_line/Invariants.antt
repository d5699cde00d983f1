-- `desk::refused_line` is safe, and the line that it names stands within the input.
use Rattle.std.proofs.Common.{◌+◌, ◌-◌, ◌≤◌, length}
use Rattle.desk.proofs.refused_line.Given as goal

abbrev pub invariant-loop-to : goal.invariant-loop-to
invariant-loop-to l = (l.from ≤ l.to) × (l.to ≤ length l.input) × (l.number ≤ l.from + 1)

abbrev pub decreases-loop-to : goal.decreases-loop-to
decreases-loop-to l = length l.input - l.to
