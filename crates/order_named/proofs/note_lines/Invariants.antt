-- `order_named::note_lines` meets its contract. Invariant: the options of the first i counted lines are noted.
use lib.ListN.{take}
use Rattle.model.specs.Literal.{option}
use Rattle.order_lines.specs.LineMeaning.{lines_of}
use Rattle.order_named.specs.Noting.{Adds}
use Rattle.order_named.proofs.Passes.{among}
use Rattle.order_named.proofs.note_lines.Given as goal

abbrev pub invariant-loop-line : goal.invariant-loop-line
invariant-loop-line l = Adds (among option (take l.count (lines_of l.fn.lines)) l.line-index) l.initial.named l.named
