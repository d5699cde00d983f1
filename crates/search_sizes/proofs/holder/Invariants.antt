-- `search_sizes::holder` meets its contract. Invariant: no place from the present one on, before the bound, reaches so far.
use Rattle.search_sizes.specs.SizeTables.{NonePast}
use Rattle.search_sizes.proofs.holder.Given as goal

abbrev pub invariant-loop-q : goal.invariant-loop-q
invariant-loop-q l = NonePast l.place l.q l.below l.sizes
