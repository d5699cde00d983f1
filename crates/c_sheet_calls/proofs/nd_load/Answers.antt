-- `c_sheet_calls::nd_load` meets its contract: the loader's answer as one number, and the sheet.
use Rattle.c_calls.specs.Packed.{packed_done}
use Rattle.call_answers.proofs.AnswersTold.{told}
use Rattle.c_sheet_calls.proofs.nd_load.Goals as goal

pub returns : goal.returns
returns c =
    let h = told packed_done c.done.ensures c.load.ensures in
    record { value = h.0; sheet_after = h.1 }
