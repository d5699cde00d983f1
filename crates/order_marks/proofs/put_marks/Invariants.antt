-- `order_marks::put_marks` meets its contract. Invariant: the sheet has the marks of the lines passed.
use mathlib.Core.Path.{◌≡◌}
use lib.ListN.{take}
use Rattle.calls.specs.Lines.{with_marks}
use Rattle.order_lines.specs.LineMeaning.{lines_of}
use Rattle.order_marks.proofs.put_marks.Given as goal

abbrev pub invariant-loop-line : goal.invariant-loop-line
invariant-loop-line l = l.sheet ≡ with_marks l.initial.sheet (take l.line-index (lines_of l.lines))
