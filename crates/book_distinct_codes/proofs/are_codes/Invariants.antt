-- `book_distinct_codes::are_codes` meets its contract. Invariant: the codes passed are well-formed and none comes again, so that those left decide.
use mathlib.Core.Path.{◌≡◌}
use Rattle.model.specs.Limits.{code_length}
use Rattle.model.specs.Book.{codes_ok, pieces}
use Rattle.book_distinct_codes.proofs.ComesAgain.{ok_from}
use Rattle.book_distinct_codes.proofs.are_codes.Given as goal

abbrev pub invariant-loop-i : goal.invariant-loop-i
invariant-loop-i l = codes_ok (pieces code_length l.n l.s) ≡ ok_from l.n l.s l.i
