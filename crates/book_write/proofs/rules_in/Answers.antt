-- `book_write::rules_in` meets its contract: the children of a sheet's third number.
use mathlib.Core.Path.{ap, ◌∙◌}
use native.Mathlib.Omega.{arith}
use Rattle.model.specs.Code.{children}
use Rattle.book_write.proofs.Written.{sizes_of}
use Rattle.book_write.proofs.rules_in.Goals as goal

pub bounds-sheet-2 : goal.bounds-sheet-2
bounds-sheet-2 c = omega (arith, sizes_of c.args.sheet.now c.requires)

pub returns : goal.returns
returns c =
    let e = c.children_of.ensures ∙ ap children c.from.ensures in
    (e, omega (arith, sizes_of c.args.sheet.now c.requires))
