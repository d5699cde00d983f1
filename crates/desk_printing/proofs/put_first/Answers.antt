-- `desk_printing::put_first` meets its contract: each word in its case, and the count.
use Rattle.model.specs.Base.{pick}
use Rattle.calls.specs.Desk.{first_line, contradiction_word, settled_word, stopped_word}
use Rattle.desk_printing.proofs.put_first.Goals as goal

pub returns-then-contradictory : goal.returns-then-contradictory
unfolding first_line contradiction_word pick
returns-then-contradictory c = rw c.if-contradictory.true c.put_counted.ensures

pub returns-then-settled : goal.returns-then-settled
unfolding first_line settled_word pick
returns-then-settled c =
    rw (c.if-contradictory.false, c.if-settled.true) c.put_counted-then-settled.ensures

pub returns-else-settled : goal.returns-else-settled
unfolding first_line stopped_word pick
returns-else-settled c =
    rw (c.if-contradictory.false, c.if-settled.false) c.put_counted-else-settled.ensures
