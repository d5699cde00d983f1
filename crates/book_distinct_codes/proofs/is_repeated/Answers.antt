use Prim.Native.Nat.{◌+◌}
use mathlib.Core.Bool.{◌||◌}
use mathlib.Core.Path.{◌≡◌, sym, ◌∙◌}
use native.Mathlib.Omega.{arith}
use borrow.Author.Rules.{part_to_end}
use lib.ListN.{take}
use Rattle.model.specs.Limits.{code_length}
use Rattle.model.specs.Book.{same_code}
use Rattle.book_codes.specs.CodePlaces.{code_at}
use Rattle.book_distinct_codes.specs.Hashes.{comes_from}
use Rattle.book_distinct_codes.proofs.ComesAgain.{comes_more, comes_past}
use Rattle.book_distinct_codes.proofs.is_repeated.Invariants.{again}
use Rattle.book_distinct_codes.proofs.is_repeated.Goals as goal
use Rattle.book_distinct_codes.proofs.is_repeated.Goals.{In-loop-i}

turn :
    (c : goal.In-loop-i) →
    let n = c in
    let a = n.args in
    again a.n a.s.now
    ≡ same_code (take code_length a.s.now) (code_at a.s.now n.loop-i.i) || comes_from (take code_length a.s.now) a.n a.s.now (n.loop-i.i + 1)
turn c = let n = c in let a = n.args in n.loop-i.invariant ∙ comes_more a.n a.s.now (take code_length a.s.now) n.loop-i.i (omega arith)

pub loop-i-init : goal.loop-i-init
loop-i-init c = rw (part_to_end c.args.s.now code_length)

pub returns-then-is_same : goal.returns-then-is_same
returns-then-is_same c = let m = c in sym (turn (goal.at.returns-then-is_same c).In-loop-i ∙ rw (← m.is_same.ensures, c.if-is_same.true))

pub loop-i-preserved : goal.loop-i-preserved
loop-i-preserved c = let m = c in turn (goal.at.loop-i-preserved c).In-loop-i ∙ rw (← m.is_same.ensures, c.if-is_same.false)

pub returns : goal.returns
returns c =
    let n = c in
    let a = n.args in
    sym (n.loop-i.invariant ∙ comes_past a.n a.s.now (take code_length a.s.now) n.loop-i.i (omega arith))
