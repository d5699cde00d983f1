-- `book_write::options_in` meets its contract: the first number of a sheet.
use native.Mathlib.Omega.{arith}
use Rattle.model.specs.Sheet.{options_in}
use Rattle.book_write.proofs.Written.{sizes_of}
use Rattle.book_write.proofs.options_in.Goals as goal

pub bounds-sheet-0 : goal.bounds-sheet-0
bounds-sheet-0 c = omega (arith, sizes_of c.args.sheet.now c.requires)

pub returns : goal.returns
unfolding options_in
returns c = (c.from.ensures, omega (arith, sizes_of c.args.sheet.now c.requires))
