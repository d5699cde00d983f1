-- `c_sheet_calls::nd_run` meets its contract: the run's answer as one number, the sheet and the index.
use Rattle.std.proofs.Common.{◌≡◌, ◌+◌, ◌*◌, ◌≤◌, arith, ap}
use Rattle.model.specs.Base.{pick}
use Rattle.calls.specs.Outcomes.{accepted}
use Rattle.c_sheet_calls.specs.PackedValues.{packed_ran}
use Rattle.call_answers.proofs.AnswersTold.{told_beside}
use Rattle.c_sheet_calls.proofs.SheetCallsFit.{run_with_fits}
use Rattle.c_sheet_calls.proofs.nd_run.Goals as goal
use Rattle.c_sheet_calls.proofs.nd_run.Goals.{In-Ok}

-- The count leaves room for the refusal.
few : (c : goal.In-Ok) → c.in-Ok.end.count ≤ 1855425871872
few c =
    let a = c.args in
    run_with_fits a.sheet.now a.index.now a.budget _ (ap (λ o. o.answer) c.in-Ok.ensures)

pub overflow_mul-result : goal.overflow_mul-result
overflow_mul-result c = omega (arith, few (goal.at.overflow_mul-result c).In-Ok)

pub overflow_add-result : goal.overflow_add-result
overflow_add-result c = omega (arith, few (goal.at.overflow_add-result c).In-Ok)

pub overflow_mul-result-in-Ok-2 : goal.overflow_mul-result-in-Ok-2
overflow_mul-result-in-Ok-2 c = omega (arith, few (goal.at.overflow_mul-result-in-Ok-2 c).In-Ok)

pub returns-in-Ok : goal.returns-in-Ok
unfolding pick
returns-in-Ok c =
    let e = c.in-Ok.end in
    let packing : 512 * e.count + 256 ≡ packed_ran (accepted (record { settled = e.settled; count = e.count })) = rw c.if-end.true (omega arith) in
    let h = told_beside packed_ran packing c.in-Ok.ensures in
    record { value = h.0; sheet_after = h.1.0; index_after = h.1.1 }

pub returns-in-Ok-2 : goal.returns-in-Ok-2
unfolding pick
returns-in-Ok-2 c =
    let e = c.in-Ok.end in
    let packing : 512 * e.count ≡ packed_ran (accepted (record { settled = e.settled; count = e.count })) = rw c.if-end.false (omega arith) in
    let h = told_beside packed_ran packing c.in-Ok.ensures in
    record { value = h.0; sheet_after = h.1.0; index_after = h.1.1 }

pub returns-in-Err : goal.returns-in-Err
returns-in-Err c =
    let h = told_beside packed_ran c.refused.ensures c.in-Err.ensures in
    record { value = h.0; sheet_after = h.1.0; index_after = h.1.1 }
