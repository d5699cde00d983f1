-- `c_calls::nd_book_check` meets its contract: the check's answer as one number.
use mathlib.Core.Path.{ap, ◌∙◌}
use Rattle.c_calls.specs.Packed.{packed_done}
use Rattle.c_calls.proofs.nd_book_check.Goals as goal

pub returns : goal.returns
returns c = c.done.ensures ∙ ap packed_done c.check.ensures
