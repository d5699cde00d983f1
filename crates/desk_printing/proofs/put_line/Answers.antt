-- `desk_printing::put_line` meets its contract: the space and the line end, the first word, and the second in the rest that is lent.
use native.Mathlib.Omega.{arith}
use Rattle.desk_printing.proofs.PlacedLines.{line_written}
use Rattle.desk_printing.proofs.put_line.Goals as goal

pub returns : goal.returns
returns c =
    line_written c.args.a.now c.args.b.now c.args.out.now c.requires c.put_ends.ensures
    c.copy.ensures (omega arith)
    c.copy-2.ensures
