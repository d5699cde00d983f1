-- `c_line_calls::complete_copied` meets its contract: the answer as one number.
use mathlib.Core.Path.{ap, ◌∙◌}
use Rattle.c_calls.specs.Packed.{packed_bool}
use Rattle.c_line_calls.proofs.complete_copied.Goals as goal

pub returns : goal.returns
returns c = c.told.ensures ∙ ap packed_bool c.complete.ensures
