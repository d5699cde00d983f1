-- `book_bytes::put_numbers` meets its contract. Invariant: the numbers read so far stand at the start, and what was there before after them.
use mathlib.Core.List.{◌++◌}
use mathlib.Core.Path.{◌≡◌}
use lib.ListN.{drop}
use Rattle.model.specs.Book.{words}
use Rattle.book_bytes.proofs.put_numbers.Given as goal

abbrev pub invariant-loop-i : goal.invariant-loop-i
invariant-loop-i l = l.out ≡ words l.i l.s ++ drop l.i l.initial.out
