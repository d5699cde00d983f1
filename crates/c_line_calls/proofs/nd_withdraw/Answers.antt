-- `c_line_calls::nd_withdraw` meets its contract: what the withdrawal says on a copy of the lines, it says of the lent ones, once the later lines
-- have moved up and the count is lowered where it is accepted.
use mathlib.Core.Path.{◌≡◌, sym, ◌∙◌}
use Prim.Native.Nat.{◌-◌, ◌≤◌, ◌<◌}
use native.Mathlib.Omega.{arith}
use borrow.Author.Tests.{eq-eqb, ne_eqb}
use lib.Dec.{eqb}
use lib.ListN.{length}
use Rattle.calls.specs.Lines.{most_lines}
use Rattle.calls.specs.Calls.{withdraw_with}
use Rattle.c_calls.specs.Packed.{packed_done}
use Rattle.order_lines.specs.LentLines.{moved_up}
use Rattle.c_line_calls.proofs.CopiedLines.{copy}
use Rattle.c_line_calls.proofs.Stored.{withdraw_allowed, withdraw_told, left_full, left_kept}
use Rattle.c_line_calls.proofs.nd_withdraw.Goals as goal
use Rattle.c_line_calls.proofs.nd_withdraw.Goals.{After-withdraw_copied-answer}

-- What was asked, on the copy of the lines.
module _ (c : goal.After-withdraw_copied-answer) where
  value :
      let a = c.args in
      c.withdraw_copied-answer.result
      ≡ packed_done (withdraw_with (copy a.sheet.now a.lines.now a.count.now) a.book.now a.index.now a.k).answer
  value = rw (c.copied-all.ensures, c.judged.ensures) at c.withdraw_copied-answer.ensures.value

  sheet :
      let a = c.args in
      c.withdraw_copied-answer.new.sheet
      ≡ (withdraw_with (copy a.sheet.now a.lines.now a.count.now) a.book.now a.index.now a.k).lent.own.sheet
  sheet = rw (c.copied-all.ensures, c.judged.ensures) at c.withdraw_copied-answer.ensures.sheet_after

  index :
      let a = c.args in
      c.withdraw_copied-answer.new.index
      ≡ (withdraw_with (copy a.sheet.now a.lines.now a.count.now) a.book.now a.index.now a.k).lent.index
  index = rw (c.copied-all.ensures, c.judged.ensures) at c.withdraw_copied-answer.ensures.index_after

  allowed :
      c.withdraw_copied-answer.result ≡ 0 →
      let a = c.args in
      (length a.lines.now ≡ most_lines) × (a.count.now ≤ most_lines) × (a.k < a.count.now)
  allowed e = let a = c.args in withdraw_allowed a.sheet.now a.book.now a.lines.now a.count.now a.index.now a.k (sym value ∙ e)

pub overflow_sub-last : goal.overflow_sub-last
overflow_sub-last c = let w = allowed (goal.at.overflow_sub-last c).After-withdraw_copied-answer c.if-answer-eq0.true in omega arith

pub move_up-requires : goal.move_up-requires
move_up-requires c =
    let w = allowed (goal.at.move_up-requires c).After-withdraw_copied-answer c.if-answer-eq0.true in (omega arith, omega arith)

pub returns-then-answer-eq0 : goal.returns-then-answer-eq0
returns-then-answer-eq0 c =
    let asked = (goal.at.returns-then-answer-eq0 c).After-withdraw_copied-answer in
    let a = c.args in
    let n = a.count.now in
    let call = c.withdraw_copied-answer in
    let full = moved_up a.k (n - 1) a.lines.now in
    let stored = left_full (eqb call.result 0) a.lines.now n full (n - 1) c.move_up.ensures (eq-eqb call.result 0 c.if-answer-eq0.true) in
    let told = withdraw_told a.sheet.now a.book.now a.lines.now n a.index.now a.k call.result call.new.sheet c.move_up.new.lines (n - 1) call.new.index
    (value asked) (sheet asked) (index asked) stored in
    record { value = told.0; sheet_after = told.1; lines_after = told.2; count_after = told.3; index_after = told.4 }

pub returns-else-answer-eq0 : goal.returns-else-answer-eq0
returns-else-answer-eq0 c =
    let asked = (goal.at.returns-else-answer-eq0 c).After-withdraw_copied-answer in
    let a = c.args in
    let n = a.count.now in
    let call = c.withdraw_copied-answer in
    let full = moved_up a.k (n - 1) a.lines.now in
    let kept = left_kept (eqb call.result 0) a.lines.now n full (n - 1) (ne_eqb call.result 0 c.if-answer-eq0.false) in
    let told = withdraw_told a.sheet.now a.book.now a.lines.now n a.index.now a.k call.result call.new.sheet a.lines.now n call.new.index
    (value asked) (sheet asked) (index asked) kept in
    record { value = told.0; sheet_after = told.1; lines_after = told.2; count_after = told.3; index_after = told.4 }
