-- `search_recurring::count` meets its contract. Invariant: the numbers from the present place up to the end are counted.
use Prim.Native.Nat.{◌≤◌}
use Rattle.search_recurring.specs.Recurring.{Tallied}
use Rattle.search_recurring.proofs.count.Given as goal

abbrev pub invariant-loop-q : goal.invariant-loop-q
invariant-loop-q l = (1 ≤ l.q) × Tallied l.q l.end l.part l.tally
