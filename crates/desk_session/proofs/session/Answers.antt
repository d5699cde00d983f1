-- `desk_session::session` meets its contract: what is printed is what the definition prints, by the answers of the loader, of the keying and of
-- the run.
use mathlib.Core.Path.{sym, ap, ◌∙◌}
use Prim.Native.Nat.{ℕ}
use lib.ListN.{replicate, length-replicate}
use Rattle.model.specs.Limits.{sheet_length}
use Rattle.call_answers.specs.AnswerMeaning.{done_of, after_call}
use Rattle.desk_session.proofs.PrintedAnswers.{load_refused, keys_refused, keys_accepted, loaded_good, session_short, session_printed}
use Rattle.desk_session.proofs.session.Goals as goal

pub returns-then-out-lt16384 : goal.returns-then-out-lt16384
returns-then-out-lt16384 c = let a = c.args in session_short a.book.now a.input.now a.out.now c.if-out-lt16384.true

pub returns-in_default : goal.returns-in_default
returns-in_default c =
    let a = c.args in
    c.put_refused.ensures
    ∙ session_printed a.book.now a.input.now a.out.now c.if-out-lt16384.false
    (load_refused a.book.now a.input.now _ _ c.load-loaded.ensures _
    (ap done_of c.in_default.is))

pub returns-in_default-keyed : goal.returns-in_default-keyed
returns-in_default-keyed c =
    let a = c.args in
    c.put_refused-in_default-keyed.ensures
    ∙ session_printed a.book.now a.input.now a.out.now c.if-out-lt16384.false
    (keys_refused a.book.now a.input.now _ _ c.load-loaded.ensures (ap done_of c.in-Ok.is) _ _
    c.key_lines-keyed.ensures _ (ap done_of c.in_default-keyed.is))

pub put_ran-requires : goal.put_ran-requires
put_ran-requires c =
    let book = c.args.book.now in
    let sheet = c.load-loaded.new.target in
    let answer = ap (λ d. after_call (done_of d) sheet) (sym c.in-Ok.is) ∙ c.load-loaded.ensures in
    (loaded_good book (replicate sheet_length 0) sheet (length-replicate {A = ℕ} sheet_length 0) answer, c.if-out-lt16384.false)

pub returns : goal.returns
returns c =
    let a = c.args in
    c.put_ran.ensures
    ∙ session_printed a.book.now a.input.now a.out.now c.if-out-lt16384.false
    (keys_accepted a.book.now a.input.now _ _ c.load-loaded.ensures (ap done_of c.in-Ok.is) _ _
    c.key_lines-keyed.ensures (ap done_of c.in-Ok-keyed.is))
