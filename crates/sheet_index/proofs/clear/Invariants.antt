-- `sheet_index::clear` meets its contract. Invariant: the first v options are cleared, and the rest is as it was.
use mathlib.Core.List.{[]}
use mathlib.Core.Path.{◌≡◌}
use Rattle.model.specs.Base.{placed}
use Rattle.theory_index.specs.Entries.{entries_from}
use Rattle.sheet_index.proofs.clear.Given as goal

abbrev pub invariant-loop-v : goal.invariant-loop-v
invariant-loop-v l = l.index ≡ placed (entries_from 0 0 l.v []) l.initial.index
