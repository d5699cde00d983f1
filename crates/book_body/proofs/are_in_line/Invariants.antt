-- `book_body::are_in_line` meets its contract. Invariant: the entries that are left decide, after the sum of the counts so far.
use mathlib.Core.Path.{◌≡◌}
use Prim.Native.Nat.{◌*◌, ◌≤◌}
use Rattle.model.specs.Book.{entries, in_line}
use Rattle.book_body.proofs.BookNumbers.{entries_from}
use Rattle.book_body.proofs.are_in_line.Given as goal

abbrev pub invariant-loop-i : goal.invariant-loop-i
invariant-loop-i l =
    (l.sum ≤ 65535 * l.i) × (in_line l.total 0 (entries l.m l.s) ≡ in_line l.total l.sum (entries_from l.m l.i l.s))
