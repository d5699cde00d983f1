use Prim.Native.Nat.{◌+◌}
use mathlib.Core.Bool.{◌&&◌, not}
use mathlib.Core.Path.{◌≡◌, sym, ap, ◌∙◌}
use native.Mathlib.Omega.{arith}
use Rattle.model.specs.Limits.{code_length}
use Rattle.model.specs.Book.{code_ok, codes_ok, pieces}
use Rattle.book_codes.specs.CodePlaces.{code_at}
use Rattle.book_codes.proofs.CodesFrom.{from_first}
use Rattle.book_distinct_codes.specs.Hashes.{comes_after}
use Rattle.book_distinct_codes.proofs.ComesAgain.{ok_from, ok_more}
use Rattle.book_distinct_codes.proofs.are_codes.Goals as goal
use Rattle.book_distinct_codes.proofs.are_codes.Goals.{In-loop-i, then-not-is_code-via-then-not-is_code, then-not-is_code-via-else-not-is_code+then-is_repeated}

turn :
    (c : goal.In-loop-i) →
    let n = c in
    let a = n.args in
    codes_ok (pieces code_length a.n a.s.now)
    ≡ code_ok (code_at a.s.now n.loop-i.i) && not (comes_after a.n a.s.now n.loop-i.i) && ok_from a.n a.s.now (n.loop-i.i + 1)
turn c = let n = c in let a = n.args in n.loop-i.invariant ∙ ok_more a.n a.s.now n.loop-i.i (omega arith)

pub loop-i-init : goal.loop-i-init
loop-i-init c = let a = c.args in rw (from_first a.n a.s.now)

pub returns-then-not-is_code : goal.returns-then-not-is_code
returns-then-not-is_code c =
    let left = turn (goal.at.returns-then-not-is_code c).In-loop-i in
    elim c.then-not-is_code.branch [
      | then-not-is_code-via-then-not-is_code w ↦ sym (left ∙ rw (← c.is_code.ensures, w.if-not-is_code.true))
      | then-not-is_code-via-else-not-is_code+then-is_repeated w ↦
          sym (left ∙ rw (← c.is_code.ensures, w.if-not-is_code.false, ← w.is_repeated.ensures, w.if-is_repeated.true))
    ]

pub loop-i-preserved : goal.loop-i-preserved
loop-i-preserved c =
    turn (goal.at.loop-i-preserved c).In-loop-i
    ∙ rw (← c.is_code.ensures, c.if-not-is_code.false, ← c.is_repeated.ensures, c.if-is_repeated.false)

pub returns : goal.returns
returns c =
    let a = c.args in
    let e : c.saturating_sub-more.result ≡ c.loop-i.i = omega arith in
    c.are_few_codes.ensures ∙ ap (ok_from a.n a.s.now) e ∙ sym c.loop-i.invariant
