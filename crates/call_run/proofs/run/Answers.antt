-- `call_run::run` meets its contract: it is refused before anything is written; or what the core says of the run.
use mathlib.Core.Option.{none}
use mathlib.Core.Path.{◌≡◌, sym}
use Rattle.calls.specs.Chains.{run_refusal}
use Rattle.theory_forms.specs.Sheets.{sheet_formed}
use Rattle.call_laws.specs.Accepted.{run_accepted}
use Rattle.call_answers.proofs.AnswersTold.{handed_on}
use Rattle.call_run.proofs.RunAnswers.{refused_by, done_by}
use Rattle.call_run.proofs.run.Goals as goal
use Rattle.call_run.proofs.run.Goals.{In_ok-refuse}

-- Nothing is refused where the test says so.
none_due : (c : goal.In_ok-refuse) → run_refusal c.args.sheet.now ≡ none
none_due c = sym c.in_ok-refuse.ensures

pub returns-in_err-refuse : goal.returns-in_err-refuse
returns-in_err-refuse c = rw (handed_on c.from_residual.ensures.1) (refused_by _ _ (sym c.in_err-refuse.ensures))

pub run_on-requires : goal.run_on-requires
run_on-requires c = sheet_formed _ (run_accepted _ (none_due (goal.at.run_on-requires c).In_ok-refuse))

pub returns : goal.returns
returns c = done_by _ _ (none_due (goal.at.returns c).In_ok-refuse) c.run_on.ensures
