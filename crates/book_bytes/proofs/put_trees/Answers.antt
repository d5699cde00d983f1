-- `book_bytes::put_trees` meets its contract: the contents, and the rest is lent for the numbers.
use Prim.Native.Nat.{◌*◌}
use native.Mathlib.Omega.{arith}
use lib.ListN.{length}
use Rattle.model.specs.Book.{bytes_of, lined_up}
use Rattle.theory_reading.specs.Spans.{spans}
use Rattle.common_lists.proofs.Lent.{lent_start}
use Rattle.book_bytes.proofs.TreeContents.{length_contents}
use Rattle.book_bytes.proofs.put_trees.Goals as goal

pub returns : goal.returns
returns c =
    let s = c.args.s.now in
    let m = c.args.m in
    let old = c.args.out.now in
    let contents = c.put_contents in
    let bodies = c.put_bytes in
    lent_start (bytes_of (lined_up 0 (spans m s))) old (length_contents m s) contents.ensures (bytes_of s) (2 * length s) (omega arith)
    bodies.ensures
