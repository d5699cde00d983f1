-- `call_run::run_with` meets its contract: it is refused before anything is written; or what the core says of the run, and the index
-- counted anew.
use mathlib.Core.Option.{none}
use mathlib.Core.Path.{◌≡◌, sym, ap, ◌∙◌}
use Rattle.calls.specs.Chains.{run_refusal, early, index_refusal}
use Rattle.theory_forms.specs.Sheets.{sheet_formed}
use Rattle.call_answers.proofs.AnswersTold.{handed_on}
use Rattle.call_run.proofs.RunAnswers.{sheet_tested, refused_with_index, done_with_index, Runnable, runnable}
use Rattle.call_run.proofs.run_with.Goals as goal
use Rattle.call_run.proofs.run_with.Goals.{In_ok-refuse}

-- What is due with the index, by both tests.
none_due :
    (c : goal.In_ok-refuse) →
    let a = c.args in
    index_refusal a.sheet.now a.index.now (run_refusal a.sheet.now) ≡ none
none_due c = sym (c.in_ok-refuse.ensures ∙ ap (index_refusal c.args.sheet.now c.args.index.now) c.refuse-own.ensures)

may :
    (c : goal.In_ok-refuse) →
    let a = c.args in
    Runnable a.sheet.now a.index.now a.budget
may c = runnable _ _ _ (none_due c)

pub refuse-requires : goal.refuse-requires
refuse-requires c = λ e. sheet_tested _ (ap early (sym c.refuse-own.ensures) ∙ e)

pub returns-in_err-refuse : goal.returns-in_err-refuse
returns-in_err-refuse c =
    rw (handed_on c.from_residual.ensures.1)
    (refused_with_index _ _ _ (sym (c.in_err-refuse.ensures ∙ ap (index_refusal c.args.sheet.now c.args.index.now) c.refuse-own.ensures)))

pub run_on-end-requires : goal.run_on-end-requires
run_on-end-requires c = sheet_formed _ (may (goal.at.run_on-end-requires c).In_ok-refuse).sheet

pub fill-requires : goal.fill-requires
fill-requires c =
    rw c.run_on-end.ensures.leaves (may (goal.at.fill-requires c).In_ok-refuse).fits

pub returns : goal.returns
returns c = done_with_index _ _ _ (none_due (goal.at.returns c).In_ok-refuse) c.run_on-end.ensures c.fill.ensures
