-- `desk::main` is safe and ends: what a session prints stands in the buffer that was lent to it.
use mathlib.Core.Path.{sym}
use lib.Seq.{length-take-le}
use Rattle.desk_session.proofs.PrintedAnswers.{session_within}
use Rattle.desk.proofs.main.Goals as goal

pub slice_bounds-out-end : goal.slice_bounds-out-end
slice_bounds-out-end c = session_within _ _ _ c.session-k.ensures

pub slice_bounds-write_all-end : goal.slice_bounds-write_all-end
slice_bounds-write_all-end c =
    sym (length-take-le c.session-k.result c.session-k.new.out (session_within _ _ _ c.session-k.ensures))
