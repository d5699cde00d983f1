-- `c_line_calls::withdraw_copied` meets its contract: the withdrawal's answer as one number, the sheet and the index.
use Rattle.c_calls.specs.Packed.{packed_done}
use Rattle.call_answers.proofs.AnswersTold.{told_beside}
use Rattle.c_line_calls.proofs.withdraw_copied.Goals as goal

pub returns : goal.returns
returns c =
    let told = told_beside packed_done c.done.ensures c.withdraw.ensures in
    record { value = told.0; sheet_after = told.1.0; index_after = told.1.1 }
