-- `sheet_index::count_few` meets its contract. Invariant: the index is that of the nodes from the place on.
use mathlib.Core.Path.{◌≡◌}
use Rattle.model.specs.Base.{placed}
use Rattle.sheet_index.specs.Walk.{fresh_from}
use Rattle.sheet_index.proofs.count_few.Given as goal

abbrev pub invariant-loop-place : goal.invariant-loop-place
invariant-loop-place l = l.index ≡ placed (fresh_from l.sheet l.place) l.initial.index
