-- `book_distinct_codes::are_few_codes` meets its contract. Invariant: the codes from code i on are entered.
use Rattle.book_distinct_codes.proofs.HashTables.{Entered}
use Rattle.book_distinct_codes.proofs.are_few_codes.Given as goal

abbrev pub invariant-loop-i : goal.invariant-loop-i
invariant-loop-i l = Entered l.n l.s l.first l.next l.i
