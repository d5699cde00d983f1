-- `report_marks::put_marks` meets its contract. Invariant: the first v marks stand in the output.
use mathlib.Core.Path.{◌≡◌}
use lib.ListN.{length, take}
use Rattle.theory_meaning.specs.FailedLiterals.{marks_in}
use Rattle.report_marks.proofs.put_marks.Given as goal

abbrev pub invariant-loop-v : goal.invariant-loop-v
invariant-loop-v l =
    (length l.out ≡ length l.initial.out) × (take l.v l.out ≡ marks_in l.contradictory l.failed l.v)
