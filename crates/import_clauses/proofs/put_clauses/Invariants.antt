-- `import_clauses::put_clauses` meets its contract. Invariant: with the clauses that are left, all is made.
use Prim.Native.Nat.{◌-◌}
use lib.ListN.{length}
use Rattle.import_clauses.proofs.Pass.{State}
use Rattle.import_clauses.proofs.put_clauses.Given as goal

abbrev pub invariant-loop-at : goal.invariant-loop-at
invariant-loop-at l = State l.text l.fn.shape.body l.fn.shape.options l.fn.shape.rules l.initial.out l.k l.first l.next l.at l.out

abbrev pub decreases-loop-at : goal.decreases-loop-at
decreases-loop-at l = length l.text - l.at
