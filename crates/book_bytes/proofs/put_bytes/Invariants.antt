-- `book_bytes::put_bytes` meets its contract. Invariant: the numbers passed stand as bytes at the start, and what was there before after
-- them.
use mathlib.Core.List.{◌++◌}
use mathlib.Core.Path.{◌≡◌}
use Prim.Native.Nat.{◌*◌}
use lib.ListN.{take, drop}
use Rattle.model.specs.Book.{bytes_of}
use Rattle.book_bytes.proofs.put_bytes.Given as goal

abbrev pub invariant-loop-i : goal.invariant-loop-i
invariant-loop-i l = l.out ≡ bytes_of (take l.i l.s) ++ drop (2 * l.i) l.initial.out
