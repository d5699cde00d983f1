-- `search_recurring::first_among` meets its contract. Invariant: child i begins at the present place, and no literal before it recurs.
use mathlib.Core.Bool.{false}
use mathlib.Core.Path.{◌≡◌}
use Rattle.theory_reading.specs.Spans.{child_at}
use Rattle.rule_spread.specs.Assigning.{spreads_from}
use Rattle.search_sizes.specs.TreeHops.{Passed}
use Rattle.search_recurring.proofs.first_among.Given as goal

abbrev pub invariant-loop-i : goal.invariant-loop-i
invariant-loop-i l = Passed (λ q. spreads_from (child_at q l.part) l.end l.part ≡ false) 1 l.part l.i l.at
