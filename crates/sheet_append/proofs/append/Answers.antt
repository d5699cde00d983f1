-- `sheet_append::append` meets its contract: the used count and the root's count grow by one, and the literal takes the first zero's place.
use native.Mathlib.Omega.{arith}
use Prim.Native.Nat.{◌+◌}
use lib.ListN.{get_or, set, length-set}
use lib.Seq.{get_or-set_other}
use Rattle.sheet_append.proofs.Appending.{has_room, append_sheet}
use Rattle.sheet_append.proofs.append.Goals as goal

pub bounds-sheet-1 : goal.bounds-sheet-1
bounds-sheet-1 c = let r = has_room _ c.requires.formed c.requires.option_bound.1 in omega arith

pub bounds-sheet-1-2 : goal.bounds-sheet-1-2
bounds-sheet-1-2 c = let r = has_room _ c.requires.formed c.requires.option_bound.1 in omega arith

pub overflow_add-sheet : goal.overflow_add-sheet
overflow_add-sheet c = let r = has_room _ c.requires.formed c.requires.option_bound.1 in omega arith

pub bounds-sheet-1-3 : goal.bounds-sheet-1-3
bounds-sheet-1-3 c = let r = has_room _ c.requires.formed c.requires.option_bound.1 in omega arith

pub bounds-sheet-2 : goal.bounds-sheet-2
bounds-sheet-2 c =
    let r = has_room _ c.requires.formed c.requires.option_bound.1 in
    omega (arith, length-set c.args.sheet.now 1 (get_or c.args.sheet.now 1 0 + 1))

pub overflow_add-sheet-2 : goal.overflow_add-sheet-2
overflow_add-sheet-2 c =
    let s = c.args.sheet.now in
    let r = has_room _ c.requires.formed c.requires.option_bound.1 in
    omega (arith, get_or-set_other s 1 2 (get_or s 1 0 + 1) 0 (omega arith))

pub bounds-sheet-2-2 : goal.bounds-sheet-2-2
bounds-sheet-2-2 c =
    let r = has_room _ c.requires.formed c.requires.option_bound.1 in
    omega (arith, length-set c.args.sheet.now 1 (get_or c.args.sheet.now 1 0 + 1))

pub number_of-requires : goal.number_of-requires
number_of-requires c = let r = has_room _ c.requires.formed c.requires.option_bound.1 in let p = c.requires.option_bound.0 in omega arith

pub bounds-sheet-end : goal.bounds-sheet-end
bounds-sheet-end c =
    let s = c.args.sheet.now in
    let r = has_room _ c.requires.formed c.requires.option_bound.1 in
    let once = set s 1 (get_or s 1 0 + 1) in
    omega (arith, c.from-used.ensures, length-set s 1 (get_or s 1 0 + 1), length-set once 2 (get_or once 2 0 + 1))

pub returns : goal.returns
returns c =
    let s = c.args.sheet.now in
    rw (c.from-used.ensures, c.number_of.ensures, get_or-set_other s 1 2 (get_or s 1 0 + 1) 0 (omega arith))
    (append_sheet s c.requires.formed _ c.requires.option_bound.1)
