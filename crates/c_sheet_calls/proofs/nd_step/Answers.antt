-- `c_sheet_calls::nd_step` meets its contract: the answer of the step as one number, the sheet and the index.
use Rattle.c_calls.specs.Packed.{packed_done}
use Rattle.call_answers.proofs.AnswersTold.{told_beside}
use Rattle.c_sheet_calls.proofs.nd_step.Goals as goal

pub returns : goal.returns
returns c =
    let h = told_beside packed_done c.done.ensures c.step.ensures in
    record { value = h.0; sheet_after = h.1.0; index_after = h.1.1 }
