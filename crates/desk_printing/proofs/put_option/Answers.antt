-- `desk_printing::put_option` meets its contract: the code's characters, and the word of the mark in its case.
use mathlib.Core.List.{List, [], ◌∷◌}
use mathlib.Core.Path.{◌≡◌, sym}
use Prim.Native.Nat.{ℕ}
use native.Mathlib.Omega.{arith}
use borrow.Author.Tests.{eq-eqb, ne_eqb}
use lib.ListN.{length, take}
use lib.Seq.{length-take-le}
use Rattle.model.specs.Base.{pick}
use Rattle.model.specs.Book.{characters}
use Rattle.calls.specs.Desk.{line, mark_word}
use Rattle.common_decimal.specs.Placed.{Written, filled}
use Rattle.desk_printing.proofs.put_option.Goals as goal
use Rattle.desk_printing.proofs.put_option.Goals.{After-count_characters-end}

-- The code's characters, as they are lent.
name_here :
    (c : goal.After-count_characters-end) →
    length (take c.count_characters-end.result c.args.code.now) ≡ c.count_characters-end.result
name_here c = length-take-le c.count_characters-end.result c.args.code.now (omega arith)

-- The line of the option, by the word of its mark.
line_here :
    (c : goal.After-count_characters-end) (word : List ℕ) {w : Written} →
    let a = c.args in
    mark_word a.mark ≡ word →
    w ≡ filled (line (take c.count_characters-end.result a.code.now) word) a.out.now →
    w ≡ filled (line (characters (take 13 a.code.now)) (mark_word a.mark)) a.out.now
line_here c word e f = rw (← c.count_characters-end.ensures.1, e) f

pub slice_bounds-name-end : goal.slice_bounds-name-end
slice_bounds-name-end c = sym (name_here (goal.at.slice_bounds-name-end c).After-count_characters-end)

pub put_line-requires : goal.put_line-requires
put_line-requires c = omega (arith, name_here (goal.at.put_line-requires c).After-count_characters-end)

pub put_line-requires-then-mark-eq2 : goal.put_line-requires-then-mark-eq2
put_line-requires-then-mark-eq2 c = omega (arith, name_here (goal.at.put_line-requires-then-mark-eq2 c).After-count_characters-end)

pub put_line-requires-2 : goal.put_line-requires-2
put_line-requires-2 c = omega (arith, name_here (goal.at.put_line-requires-2 c).After-count_characters-end)

pub returns-then-mark-eq1 : goal.returns-then-mark-eq1
unfolding mark_word pick
returns-then-mark-eq1 c =
    line_here (goal.at.returns-then-mark-eq1 c).After-count_characters-end (105 ∷ 110 ∷ []) (rw (eq-eqb _ 1 c.if-mark-eq1.true)) c.put_line.ensures

pub returns-then-mark-eq2 : goal.returns-then-mark-eq2
unfolding mark_word pick
returns-then-mark-eq2 c =
    line_here (goal.at.returns-then-mark-eq2 c).After-count_characters-end (111 ∷ 117 ∷ 116 ∷ [])
    (rw (ne_eqb _ 1 c.if-mark-eq1.false, eq-eqb _ 2 c.if-mark-eq2.true)) c.put_line-then-mark-eq2.ensures

pub returns : goal.returns
unfolding mark_word pick
returns c =
    line_here (goal.at.returns c).After-count_characters-end (111 ∷ 112 ∷ 101 ∷ 110 ∷ [])
    (rw (ne_eqb _ 1 c.if-mark-eq1.false, ne_eqb _ 2 c.if-mark-eq2.false)) c.put_line-2.ensures
