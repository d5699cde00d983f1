-- `import_codes::put_code` meets its contract: the digits go into an array of zeros first, which is copied after the letter's place.
use native.Mathlib.Omega.{arith}
use Rattle.theory_texts.specs.Decimals.{three_digits}
use Rattle.import_codes.proofs.CodeBytes.{code_written}
use Rattle.import_codes.proofs.put_code.Goals as goal

pub put_decimal-requires : goal.put_decimal-requires
put_decimal-requires c = omega (arith, three_digits c.args.v (omega arith))

pub returns : goal.returns
returns c = code_written c.args.v c.args.out.now c.put_decimal.ensures (omega arith) c.copy_from_slice.ensures.after
