-- `call_step::step` meets its contract: it is refused before anything is written; or the step is done, and the index counted anew.
use mathlib.Core.Option.{none}
use mathlib.Core.Path.{◌≡◌, sym, ap, ◌∙◌}
use Rattle.calls.specs.Chains.{step_refusal, early, index_refusal}
use Rattle.theory_forms.specs.Sheets.{sheet_formed}
use Rattle.call_answers.specs.AnswerMeaning.{done_of, due_of}
use Rattle.call_answers.proofs.AnswersTold.{handed_on}
use Rattle.call_step.proofs.StepAnswers.{sheet_tested, refused_by, done_by, Doable, doable}
use Rattle.call_step.proofs.step.Goals as goal
use Rattle.call_step.proofs.step.Goals.{In_ok-refuse}

-- By both tests nothing is due with the index.
none_due :
    (c : goal.In_ok-refuse) →
    let a = c.args in
    index_refusal a.sheet.now a.index.now (step_refusal a.sheet.now a.rule a.place a.i a.j) ≡ none
none_due c =
    let a = c.args in
    sym (c.in_ok-refuse.ensures ∙ ap (index_refusal a.sheet.now a.index.now) c.refuse-own.ensures)

may :
    (c : goal.In_ok-refuse) →
    let a = c.args in
    Doable a.sheet.now a.index.now a.rule a.place a.i a.j
may c = doable _ _ _ _ _ _ (none_due c)

pub refuse-requires : goal.refuse-requires
refuse-requires c = λ e. sheet_tested _ _ _ _ _ (ap early (sym c.refuse-own.ensures) ∙ e)

pub returns-in_err-refuse : goal.returns-in_err-refuse
returns-in_err-refuse c =
    let a = c.args in
    rw (handed_on c.from_residual.ensures.1)
    (refused_by _ _ _ _ _ _ (sym (c.in_err-refuse.ensures ∙ ap (index_refusal a.sheet.now a.index.now) c.refuse-own.ensures)))

pub apply-requires : goal.apply-requires
apply-requires c = let m = (may (goal.at.apply-requires c).In_ok-refuse).step in record { formed = sheet_formed _ m.sheet; sheet_value = m.there }

pub fill-requires : goal.fill-requires
fill-requires c =
    rw c.apply.ensures (may (goal.at.fill-requires c).In_ok-refuse).fits

pub returns : goal.returns
returns c =
    done_by _ _ _ _ _ _ (none_due (goal.at.returns c).In_ok-refuse) c.apply.ensures c.fill.ensures
