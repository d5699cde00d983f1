-- `c_sheet_calls::nd_index` meets its contract: the answer as one number, and the index.
use Rattle.c_calls.specs.Packed.{packed_done}
use Rattle.call_answers.proofs.AnswersTold.{told}
use Rattle.c_sheet_calls.proofs.nd_index.Goals as goal

pub returns : goal.returns
returns c =
    let h = told packed_done c.done.ensures c.fill.ensures in
    record { value = h.0; index_after = h.1 }
