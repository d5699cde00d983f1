-- `book_body::are_bodies` meets its contract. Invariant: the bodies that are left decide, after the nodes so far; their entries
-- are in line, so that they lie within the nodes.
use mathlib.Core.Bool.{true}
use mathlib.Core.Path.{◌≡◌}
use Rattle.model.specs.Base.{all}
use Rattle.model.specs.Book.{words, entries, in_line, cut, body_ok}
use Rattle.book_body.proofs.BookNumbers.{words_from, entries_from}
use Rattle.book_body.proofs.are_bodies.Given as goal

abbrev pub invariant-loop-i : goal.invariant-loop-i
invariant-loop-i l =
    (in_line l.total l.sum (entries_from l.m l.i l.contents) ≡ true)
    × (all (body_ok l.n) (cut (entries l.m l.contents) (words l.total l.s))
    ≡ all (body_ok l.n) (cut (entries_from l.m l.i l.contents) (words_from l.total l.sum l.s)))
