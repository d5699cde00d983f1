-- `c_line_calls::nd_key` meets its contract: what the keying says on a copy of the lines, it says of the lent ones, once the line and the count are
-- stored where it is accepted.
use mathlib.Core.Path.{◌≡◌, refl, sym, ◌∙◌}
use Prim.Native.Nat.{◌+◌, ◌<◌, ◌^◌}
use native.Mathlib.Omega.{arith}
use borrow.Author.Tests.{eq-eqb, ne_eqb}
use lib.Dec.{eqb}
use lib.ListN.{length, set}
use Rattle.calls.specs.Lines.{most_lines}
use Rattle.calls.specs.Calls.{key_with}
use Rattle.c_calls.specs.Packed.{packed_done}
use Rattle.order_lines.specs.LineMeaning.{line}
use Rattle.c_line_calls.proofs.CopiedLines.{copy}
use Rattle.c_line_calls.proofs.Stored.{key_allowed, key_told, left_full, left_kept}
use Rattle.c_line_calls.proofs.nd_key.Goals as goal
use Rattle.c_line_calls.proofs.nd_key.Goals.{After-key_copied-answer}

-- What was asked, on the copy of the lines.
module _ (c : goal.After-key_copied-answer) where
  value :
      let a = c.args in
      c.key_copied-answer.result ≡ packed_done (key_with (copy a.sheet.now a.lines.now a.count.now) a.index.now a.option a.negative).answer
  value = rw (c.copied-all.ensures, c.judged.ensures) at c.key_copied-answer.ensures.value

  sheet :
      let a = c.args in
      c.key_copied-answer.new.sheet ≡ (key_with (copy a.sheet.now a.lines.now a.count.now) a.index.now a.option a.negative).lent.own.sheet
  sheet = rw (c.copied-all.ensures, c.judged.ensures) at c.key_copied-answer.ensures.sheet_after

  index :
      let a = c.args in
      c.key_copied-answer.new.index ≡ (key_with (copy a.sheet.now a.lines.now a.count.now) a.index.now a.option a.negative).lent.index
  index = rw (c.copied-all.ensures, c.judged.ensures) at c.key_copied-answer.ensures.index_after

  allowed :
      c.key_copied-answer.result ≡ 0 →
      let a = c.args in
      (length a.lines.now ≡ most_lines) × (a.count.now < most_lines) × (a.option < 2 ^ 16)
  allowed e = let a = c.args in key_allowed a.sheet.now a.lines.now a.count.now a.index.now a.option a.negative (sym value ∙ e)

pub overflow_cast-lines : goal.overflow_cast-lines
overflow_cast-lines c =
    let w = allowed (goal.at.overflow_cast-lines c).After-key_copied-answer c.if-answer-eq0.true in record { fits = omega arith }

pub bounds-lines-n : goal.bounds-lines-n
bounds-lines-n c = let w = allowed (goal.at.bounds-lines-n c).After-key_copied-answer c.if-answer-eq0.true in omega arith

pub overflow_add-count : goal.overflow_add-count
overflow_add-count c =
    let w = allowed (goal.at.overflow_add-count c).After-key_copied-answer c.if-answer-eq0.true in record { fits = omega arith }

pub returns-then-answer-eq0 : goal.returns-then-answer-eq0
returns-then-answer-eq0 c =
    let asked = (goal.at.returns-then-answer-eq0 c).After-key_copied-answer in
    let a = c.args in
    let n = a.count.now in
    let call = c.key_copied-answer in
    let full = set a.lines.now n (line a.option a.negative) in
    let stored = left_full (eqb call.result 0) a.lines.now n full (n + 1) refl (eq-eqb call.result 0 c.if-answer-eq0.true) in
    let told = key_told a.sheet.now a.lines.now n a.index.now a.option a.negative call.result call.new.sheet full (n + 1) call.new.index
    (value asked) (sheet asked) (index asked) stored in
    record { value = told.0; sheet_after = told.1; lines_after = told.2; count_after = told.3; index_after = told.4 }

pub returns-else-answer-eq0 : goal.returns-else-answer-eq0
returns-else-answer-eq0 c =
    let asked = (goal.at.returns-else-answer-eq0 c).After-key_copied-answer in
    let a = c.args in
    let n = a.count.now in
    let call = c.key_copied-answer in
    let full = set a.lines.now n (line a.option a.negative) in
    let kept = left_kept (eqb call.result 0) a.lines.now n full (n + 1) (ne_eqb call.result 0 c.if-answer-eq0.false) in
    let told = key_told a.sheet.now a.lines.now n a.index.now a.option a.negative call.result call.new.sheet a.lines.now n call.new.index
    (value asked) (sheet asked) (index asked) kept in
    record { value = told.0; sheet_after = told.1; lines_after = told.2; count_after = told.3; index_after = told.4 }
