-- `book_bytes::put_contents` meets its contract. Invariant: the contents of the trees passed stand at the start, and the next tree begins
-- where their node counts end.
use mathlib.Core.List.{◌++◌}
use mathlib.Core.Path.{◌≡◌}
use Prim.Native.Nat.{◌*◌, ◌≤◌}
use lib.ListN.{length, drop}
use Rattle.model.specs.Book.{bytes_of, lined_up}
use Rattle.theory_formats.specs.Contents.{total}
use Rattle.theory_reading.specs.Spans.{spans}
use Rattle.book_bytes.proofs.put_contents.Given as goal

abbrev pub invariant-loop-k : goal.invariant-loop-k
invariant-loop-k l =
    (l.at ≤ length l.s) × (l.at ≡ total (spans l.k l.s)) × (l.out ≡ bytes_of (lined_up 0 (spans l.k l.s)) ++ drop (4 * l.k) l.initial.out)
