-- `book_bytes::put_parts` meets its contract: the codes, and the rest is lent for the trees.
use mathlib.Core.List.{◌++◌}
use mathlib.Core.Path.{refl, ◌∙◌}
use Prim.Native.Nat.{◌+◌, ◌*◌}
use native.Mathlib.Omega.{arith}
use lib.ListN.{length}
use lib.Seq.{take-length}
use Rattle.model.specs.Book.{bytes_of, lined_up}
use Rattle.theory_reading.specs.Spans.{spans}
use Rattle.common_lists.proofs.Lent.{lent_start}
use Rattle.book_bytes.proofs.put_parts.Goals as goal

pub returns : goal.returns
returns c =
    let codes = c.args.codes.now in
    let s = c.args.s.now in
    let m = c.args.m in
    let old = c.args.out.now in
    let copy = c.copy in
    let trees = c.put_trees in
    lent_start codes old refl (copy.ensures ∙ rw (take-length codes))
    (bytes_of (lined_up 0 (spans m s)) ++ bytes_of s)
    (4 * m + 2 * length s)
    (omega arith)
    trees.ensures
