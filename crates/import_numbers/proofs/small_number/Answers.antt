use mathlib.Core.Path.{refl, ap, ◌∙◌}
use Prim.Native.Nat.{◌+◌, ◌-◌, ◌*◌, ◌≤◌, ◌<◌}
use native.Mathlib.Omega.{arith}
use lib.ListN.{get_or}
use Rattle.texts.specs.Decimals.{number_from, number_in}
use Rattle.import_numbers.proofs.DigitByDigit.{number_fits, number_more, number_done}
use Rattle.import_numbers.proofs.small_number.Goals as goal
use Rattle.import_numbers.proofs.small_number.Goals.{In-loop-digit}

-- What is known of the digit that is read, and of the number with it.
fits : (c : goal.In-loop-digit) → let a = c.args.a.now in let l = c.loop-digit in
    (l.n < 1000) × (48 ≤ get_or a l.digit-index 0) × (10 * l.n + (get_or a l.digit-index 0 - 48) < 1000)
fits c =
    let l = c.loop-digit in
    number_fits c.args.a.now l.n l.digit-index c.requires.0 c.requires.1 (omega arith) l.invariant

pub loop-digit-init : goal.loop-digit-init
unfolding number_in number_from
loop-digit-init c = refl

pub loop-digit-preserved : goal.loop-digit-preserved
loop-digit-preserved c =
    let l = c.loop-digit in
    ap (λ d. 10 * l.n + d) c.from.ensures
    ∙ number_more c.args.a.now l.n l.digit-index c.requires.0 c.requires.1 (omega arith) l.invariant

pub returns : goal.returns
returns c =
    let l = c.loop-digit in number_done c.args.a.now l.n l.digit-index (omega arith) l.invariant

pub overflow_mul-n : goal.overflow_mul-n
overflow_mul-n c = omega (arith, (fits (goal.at.overflow_mul-n c).In-loop-digit).0)

pub overflow_sub-digit : goal.overflow_sub-digit
overflow_sub-digit c = (fits (goal.at.overflow_sub-digit c).In-loop-digit).1

pub overflow_add-n : goal.overflow_add-n
overflow_add-n c = omega (arith, (fits (goal.at.overflow_add-n c).In-loop-digit).2, c.from.ensures)
