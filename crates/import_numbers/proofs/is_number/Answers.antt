use mathlib.Core.Path.{sym}
use Prim.Native.Nat.{◌-◌}
use native.Mathlib.Omega.{arith}
use Rattle.import_numbers.proofs.DigitByDigit.{other_digit, same_digit, all_digits, digits_done}
use Rattle.import_numbers.proofs.is_number.Goals as goal

pub loop-i-init : goal.loop-i-init
loop-i-init c = (omega arith, all_digits c.args.a.now c.args.n)

pub returns-then-a-i : goal.returns-then-a-i
returns-then-a-i c =
    let l = c.loop-i in
    other_digit c.args.a.now c.args.n l.left l.i (l.i - 1) c.requires (omega arith) l.invariant.0 l.invariant.1 (λ e. c.if-a-i.true (sym e))

pub loop-i-preserved : goal.loop-i-preserved
loop-i-preserved c =
    let l = c.loop-i in (
      omega (arith, l.invariant.0),
      same_digit c.args.a.now c.args.n l.left l.i (l.i - 1) c.requires (omega arith) l.invariant.0 l.invariant.1 (sym c.if-a-i.false),
    )

pub returns : goal.returns
returns c =
    let l = c.loop-i in
    digits_done c.args.a.now c.args.n l.left l.i (omega arith) l.invariant.1
