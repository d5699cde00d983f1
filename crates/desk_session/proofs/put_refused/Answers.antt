-- `desk_session::put_refused` meets its contract, case by case.
use mathlib.Core.List.{[]}
use mathlib.Core.Path.{sym, ap, ◌∙◌}
use Rattle.model.specs.Base.{placed}
use Rattle.calls.specs.Desk.{printed}
use Rattle.call_answers.specs.AnswerMeaning.{done_of}
use Rattle.common_decimal.specs.Placed.{filled}
use Rattle.desk_session.proofs.put_refused.Goals as goal

pub returns-in_default : goal.returns-in_default
unfolding printed filled placed
returns-in_default c =
    let out = c.args.out.now in
    sym (ap (λ d. filled (printed (done_of d) (λ u. [])) out) c.in_default.is)

pub returns : goal.returns
unfolding printed
returns c =
    let out = c.args.out.now in
    c.put_refusal.ensures
    ∙ sym (ap (λ d. filled (printed (done_of d) (λ u. [])) out) c.in-Err.is)
