-- `sheet_shifts::assign` meets its contract. Invariant: the numbers passed are replaced, and the rest are the old ones.
use Rattle.std.proofs.Common.{◌≡◌, ◌++◌, map, take, drop}
use Rattle.sheet_shifts.specs.Replaced.{replaced}
use Rattle.sheet_shifts.proofs.assign.Given as goal

abbrev pub invariant-loop-x : goal.invariant-loop-x
invariant-loop-x l =
    let old = l.initial.x-items in
    l.x-items ≡ map (replaced l.same l.opposite l.for_same l.for_opposite) (take l.x-index old) ++ drop l.x-index old
