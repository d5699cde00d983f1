-- `c_sheet_calls::nd_report` meets its contract: the report's answer as one number, and the output.
use Rattle.c_calls.specs.Packed.{packed_bool}
use Rattle.call_answers.proofs.AnswersTold.{told}
use Rattle.c_sheet_calls.proofs.nd_report.Goals as goal

pub returns : goal.returns
returns c =
    let h = told packed_bool c.told.ensures c.report.ensures in
    record { value = h.0; out_after = h.1 }
