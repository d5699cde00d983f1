-- `sheet_index::fill` meets its contract. Invariant: the index is that of the nodes from the place on where the eights passed begin.
use mathlib.Core.Path.{◌≡◌}
use Prim.Native.Nat.{◌+◌, ◌*◌}
use Rattle.model.specs.Base.{placed}
use Rattle.sheet_index.specs.Walk.{fresh_from}
use Rattle.sheet_index.proofs.fill.Given as goal

abbrev pub invariant-loop-eight : goal.invariant-loop-eight
invariant-loop-eight l = l.index ≡ placed (fresh_from l.sheet (l.few + 8 * l.eight)) l.initial.index
