-- `desk_printing::put_refusal` meets its contract: the word, and the number of the refusal.
use Rattle.calls.specs.Desk.{refused_word}
use Rattle.desk_printing.proofs.put_refusal.Goals as goal

pub returns : goal.returns
unfolding refused_word
returns c = rw (← c.number.ensures) c.put_counted.ensures
