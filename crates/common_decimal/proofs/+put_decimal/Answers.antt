use Prim.Native.Nat.{◌/◌}
use native.Mathlib.Omega.{arith}
use Rattle.texts.specs.Decimals.{decimal}
use Rattle.theory_texts.specs.Decimals.{length_small, length_large}
use Rattle.common_decimal.proofs.PlacedBytes.{placed_count}
use Rattle.common_decimal.proofs.PlacedDigits.{decimal_one, decimal_more}
use Rattle.common_decimal.proofs.+put_decimal.Goals as goal

pub bounds-out-0 : goal.bounds-out-0
bounds-out-0 t c = omega (arith, length_small c.args.n c.if-n-lt10.true)

pub returns-then-n-lt10 : goal.returns-then-n-lt10
returns-then-n-lt10 t c =
    let n = c.args.n in
    let small = c.if-n-lt10.true in
    decimal_one n c.args.out.now small (omega (arith, length_small n small))

pub put_decimal-k-requires : goal.put_decimal-k-requires
put_decimal-k-requires t c = (omega arith, omega (arith, length_large c.args.n c.if-n-lt10.false))

pub bounds-out-k : goal.bounds-out-k
bounds-out-k t c =
    let n = c.args.n in
    let call = c.put_decimal-k in
    omega (arith, length_large n c.if-n-lt10.false, placed_count (decimal (n / 10)) c.args.out.now call.ensures)

pub overflow_add-result : goal.overflow_add-result
overflow_add-result t c =
    let n = c.args.n in
    let call = c.put_decimal-k in
    omega (arith, length_large n c.if-n-lt10.false, placed_count (decimal (n / 10)) c.args.out.now call.ensures)

pub returns : goal.returns
returns t c =
    decimal_more c.args.n c.args.out.now c.if-n-lt10.false c.requires c.put_decimal-k.ensures
