-- `search_recurring::has_literal` meets its contract. Invariant: child i begins at the present place, and no child before it is a literal.
use mathlib.Core.Bool.{false}
use mathlib.Core.Path.{◌≡◌}
use Rattle.theory_reading.specs.Spans.{child_at}
use Rattle.rule_spread.specs.Assigning.{spreads_from}
use Rattle.search_sizes.specs.TreeHops.{Passed}
use Rattle.search_recurring.proofs.has_literal.Given as goal

abbrev pub invariant-loop : goal.invariant-loop
invariant-loop l = Passed (λ q. spreads_from (child_at q l.part) l.fn.end l.part ≡ false) 1 l.part l.counter l.at
