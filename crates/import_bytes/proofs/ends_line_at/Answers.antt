-- `import_bytes::ends_line_at` meets its contract: by the byte here, and the next one.
use mathlib.Core.Path.{sym, ◌∙◌}
use Prim.Native.Nat.{◌+◌}
use borrow.Author.Tests.{le-ltb}
use lib.ListN.{length}
use Rattle.import_bytes.proofs.Places.{ends_past, ends_by_ten, ends_by_both, ends_not_last}
use Rattle.import_bytes.proofs.ends_line_at.Goals as goal

pub returns-then-text-at : goal.returns-then-text-at
returns-then-text-at c = sym (ends_past c.args.text.now c.args.at c.if-text-at.true)

pub returns-then-at-text : goal.returns-then-at-text
returns-then-at-text c =
    let s = c in sym (ends_by_both s.args.text.now s.args.at s.if-text-at.false s.if-text-at-eq13.true)

pub returns-else-at-text : goal.returns-else-at-text
returns-else-at-text c =
    let s = c in
    le-ltb (s.args.at + 1) (length s.args.text.now) s.if-at-text.false
    ∙ sym (ends_not_last s.args.text.now s.args.at s.if-text-at.false s.if-text-at-eq13.true s.if-at-text.false)

pub returns-else-text-at-eq13 : goal.returns-else-text-at-eq13
returns-else-text-at-eq13 c =
    let s = c in sym (ends_by_ten s.args.text.now s.args.at s.if-text-at.false s.if-text-at-eq13.false)
