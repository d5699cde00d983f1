-- `c_calls::found` meets its contract.
use mathlib.Core.Path.{sym, ap, ◌∙◌}
use native.Mathlib.Omega.{arith}
use Rattle.call_answers.specs.AnswerMeaning.{found_of}
use Rattle.c_calls.specs.Packed.{packed_value}
use Rattle.c_calls.proofs.found.Goals as goal

pub overflow_mul-result : goal.overflow_mul-result
overflow_mul-result c = omega (arith, c.requires _ (ap found_of (sym c.in-Ok.is)))

pub returns-in-Err : goal.returns-in-Err
returns-in-Err c = c.refused.ensures ∙ ap (λ a. packed_value (found_of a)) (sym c.in-Err.is)

pub returns-in-Ok : goal.returns-in-Ok
returns-in-Ok c = ap (λ a. packed_value (found_of a)) (sym c.in-Ok.is)
