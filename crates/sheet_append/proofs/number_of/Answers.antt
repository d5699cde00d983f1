-- `sheet_append::number_of` meets its contract: kind 2 for a barred option, 1 for a taken one.
use native.Mathlib.Omega.{arith}
use Rattle.model.specs.Base.{pick}
use Rattle.model.specs.Code.{number_of, number}
use Rattle.model.specs.Literal.{literal}
use Rattle.sheet_append.proofs.number_of.Goals as goal

pub returns-then-negative : goal.returns-then-negative
unfolding number_of number literal pick
returns-then-negative c = rw c.if-negative.true (omega arith)

pub returns-else-negative : goal.returns-else-negative
unfolding number_of number literal pick
returns-else-negative c = rw c.if-negative.false (omega arith)
