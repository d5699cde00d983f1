-- `sheet_index::is_short` meets its contract: the sheet's first number says how many options there are.
use mathlib.Core.Path.{ap}
use Prim.Native.Nat.{◌*◌}
use native.Mathlib.Omega.{arith}
use lib.Dec.{ltb}
use lib.ListN.{length}
use Rattle.model.specs.Sheet.{options_in}
use Rattle.theory_forms.specs.Sheets.{sheet_formed}
use Rattle.sheet_index.proofs.is_short.Goals as goal

pub bounds-sheet-0 : goal.bounds-sheet-0
bounds-sheet-0 c =
    omega (arith, (sheet_formed c.args.sheet.now c.requires).whole)

pub returns : goal.returns
unfolding options_in
returns c =
    let a = c.args in
    ap (λ n. ltb (length a.index.now) (2 * n)) c.from.ensures
