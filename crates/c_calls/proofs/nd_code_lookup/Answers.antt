-- `c_calls::nd_code_lookup` meets its contract: the lookup's answer as one number.
use mathlib.Core.Path.{ap, ◌∙◌}
use Rattle.c_calls.specs.Packed.{packed_value}
use Rattle.c_calls.proofs.LookupFits.{lookup_fits}
use Rattle.c_calls.proofs.nd_code_lookup.Goals as goal

pub found-requires : goal.found-requires
found-requires c = rw c.lookup.ensures (lookup_fits _ _)

pub returns : goal.returns
returns c = c.found.ensures ∙ ap packed_value c.lookup.ensures
