-- `book_write::nodes_below` meets its contract: a sheet has its root at least.
use native.Mathlib.Omega.{arith}
use Rattle.model.specs.Sheet.{used_in}
use Rattle.book_write.proofs.Written.{sizes_of}
use Rattle.book_write.proofs.nodes_below.Goals as goal

pub bounds-sheet-1 : goal.bounds-sheet-1
bounds-sheet-1 c = omega (arith, sizes_of c.args.sheet.now c.requires)

pub overflow_sub-result : goal.overflow_sub-result
overflow_sub-result c = omega (arith, sizes_of c.args.sheet.now c.requires)

pub returns : goal.returns
unfolding used_in
returns c = (omega arith, omega (arith, sizes_of c.args.sheet.now c.requires))
