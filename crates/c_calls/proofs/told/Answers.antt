-- `c_calls::told` meets its contract: 1 above the refusal's bits where it says yes.
use Rattle.std.proofs.Common.{refl}
use Rattle.model.specs.Base.{pick}
use Rattle.c_calls.proofs.told.Goals as goal

pub returns-in-Ok-true : goal.returns-in-Ok-true
unfolding pick
returns-in-Ok-true c = rw (c.in-Ok-true.is, c.in-Ok-true.field-0-test)

pub returns-in-Ok-false : goal.returns-in-Ok-false
unfolding pick
returns-in-Ok-false c = rw (c.in-Ok-false.is, c.in-Ok-false.field-0-test)
