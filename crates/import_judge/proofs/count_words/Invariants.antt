-- `import_judge::count_words` meets its contract. Invariant: what the words to come make of the count is what all make of nothing.
use Prim.Native.Nat.{◌-◌}
use lib.ListN.{length}
use Rattle.texts.specs.Decimals.{number_in}
use Rattle.import_judge.proofs.Counting.{Counted}
use Rattle.import_judge.proofs.count_words.Given as goal

abbrev pub invariant-loop-at : goal.invariant-loop-at
invariant-loop-at l = Counted (number_in l.options) l.text l.body l.so_far l.at

abbrev pub decreases-loop-at : goal.decreases-loop-at
decreases-loop-at l = length l.text - l.at
