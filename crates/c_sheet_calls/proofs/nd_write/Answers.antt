-- `c_sheet_calls::nd_write` meets its contract: the writer's answer as one number, and the output.
use mathlib.Core.Path.{ap}
use Rattle.c_calls.specs.Packed.{packed_value}
use Rattle.call_answers.proofs.AnswersTold.{told}
use Rattle.c_sheet_calls.proofs.SheetCallsFit.{write_fits}
use Rattle.c_sheet_calls.proofs.nd_write.Goals as goal

pub found-requires : goal.found-requires
found-requires c = rw (ap (λ o. o.answer) c.write.ensures) (write_fits _ _ _)

pub returns : goal.returns
returns c =
    let h = told packed_value c.found.ensures c.write.ensures in
    record { value = h.0; out_after = h.1 }
