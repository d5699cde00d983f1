-- `book_distinct_codes::hash_of` meets its contract: each sum and product fits, since the four bytes of a number are less than 2 to the 32nd.
use mathlib.Core.Path.{sym, ◌∙◌}
use native.Mathlib.Omega.{arith}
use Rattle.book_distinct_codes.specs.Hashes.{hash}
use Rattle.book_distinct_codes.proofs.HashTables.{hash_take}
use Rattle.book_distinct_codes.proofs.hash_of.Goals as goal

pub returns : goal.returns
unfolding hash
returns c =
    let q = c in
    let p = q in
    let a = p in
    (sym (hash_take a.args.s.now ∙ rw (← a.quad_at.ensures, ← p.quad_at-2.ensures, ← q.quad_at-3.ensures, ← c.from.ensures)), omega arith)
