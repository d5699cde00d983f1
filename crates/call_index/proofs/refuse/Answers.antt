-- `call_index::refuse` meets its contract: an early refusal, a stale index, any other refusal, a short index; and else none.
use mathlib.Core.Path.{sym, ap, ◌∙◌}
use Rattle.call_answers.specs.AnswerMeaning.{due_of}
use Rattle.call_answers.proofs.AnswersTold.{handed_on}
use Rattle.call_index.proofs.IndexAnswers.{not_early, refused_early, refused_stale, refused_late, refused_short, accepted_with}
use Rattle.call_index.proofs.refuse.Goals as goal

pub returns-then-refuses_early : goal.returns-then-refuses_early
returns-then-refuses_early c = refused_early _ _ _ (sym c.refuses_early.ensures ∙ c.if-refuses_early.true)

pub is_stale-requires : goal.is_stale-requires
is_stale-requires c = c.requires (not_early _ (sym c.refuses_early.ensures ∙ c.if-refuses_early.false))

pub returns-then-is_stale : goal.returns-then-is_stale
returns-then-is_stale c =
    let late = not_early _ (sym c.refuses_early.ensures ∙ c.if-refuses_early.false) in
    refused_stale _ _ _ late (sym c.is_stale.ensures ∙ c.if-is_stale.true)

pub returns-in_err-own : goal.returns-in_err-own
returns-in_err-own c =
    let late = not_early _ (sym c.refuses_early.ensures ∙ c.if-refuses_early.false) in
    let was = c.in_err-own.was in
    ap due_of (handed_on c.from_residual.ensures.1 ∙ sym was)
    ∙ refused_late _ _ _ late (sym c.is_stale.ensures ∙ c.if-is_stale.false) (ap due_of was)

pub is_short-requires : goal.is_short-requires
is_short-requires c = c.requires (not_early _ (sym c.refuses_early.ensures ∙ c.if-refuses_early.false))

pub returns-then-is_short : goal.returns-then-is_short
returns-then-is_short c =
    let late = not_early _ (sym c.refuses_early.ensures ∙ c.if-refuses_early.false) in
    let fresh = sym c.is_stale.ensures ∙ c.if-is_stale.false in
    refused_short _ _ _ late fresh (ap due_of c.in_ok-own.was) (sym c.is_short.ensures ∙ c.if-is_short.true)

pub returns-else-is_short : goal.returns-else-is_short
returns-else-is_short c =
    let late = not_early _ (sym c.refuses_early.ensures ∙ c.if-refuses_early.false) in
    let fresh = sym c.is_stale.ensures ∙ c.if-is_stale.false in
    accepted_with _ _ _ late fresh (ap due_of c.in_ok-own.was) (sym c.is_short.ensures ∙ c.if-is_short.false)
