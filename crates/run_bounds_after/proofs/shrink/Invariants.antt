-- `run_bounds_after::shrink` meets its contract. Invariant: the entries before the present place have fallen, and all others are as they were.
use Rattle.run_bounds_after.specs.Resized.{Shrunk}
use Rattle.run_bounds_after.proofs.shrink.Given as goal

abbrev pub invariant-loop-q : goal.invariant-loop-q
invariant-loop-q l = Shrunk l.q l.place l.by l.initial.sizes l.sizes
