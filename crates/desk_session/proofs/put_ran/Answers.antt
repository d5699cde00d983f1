-- `desk_session::put_ran` meets its contract: each answer of the run, and what is printed of it.
use mathlib.Core.Path.{ap, ◌∙◌}
use Rattle.calls.specs.Desk.{desk_budget}
use Rattle.common_decimal.specs.Placed.{filled}
use Rattle.desk_session.proofs.PrintedAnswers.{ran_accepted, ran_refused}
use Rattle.desk_session.proofs.put_ran.Goals as goal

-- What is printed of the report is what is printed of an accepted run.
pub returns-in-Ok : goal.returns-in-Ok
unfolding desk_budget
returns-in-Ok c =
    let a = c.args in
    c.put_told.ensures ∙ ap (λ l. filled l a.out.now) (ran_accepted a.book.now _ _ _ c.in-Ok.ensures)

pub returns-in-Err : goal.returns-in-Err
unfolding desk_budget
returns-in-Err c =
    let a = c.args in
    c.put_refusal.ensures ∙ ap (λ l. filled l a.out.now) (ran_refused a.book.now _ _ _ c.in-Err.ensures)
