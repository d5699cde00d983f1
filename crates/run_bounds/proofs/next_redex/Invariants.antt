-- `run_bounds::next_redex` meets its contract. Invariant: the search has come to the present rule and start.
use Rattle.run_bounds.specs.BoundTables.{ComeTo}
use Rattle.run_bounds.proofs.next_redex.Given as goal

abbrev pub invariant-loop-rule : goal.invariant-loop-rule
invariant-loop-rule l = ComeTo l.rule l.start l.sheet l.sizes l.low
