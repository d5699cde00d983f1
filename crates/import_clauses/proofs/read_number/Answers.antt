-- `import_clauses::read_number` meets its contract: the digits from a place on, read as a number.
use native.Mathlib.Omega.{arith}
use Rattle.import_clauses.proofs.ReadMarks.{digits_small, number_some, mark_read}
use Rattle.import_clauses.proofs.read_number.Goals as goal

pub small_number-number-requires : goal.small_number-number-requires
small_number-number-requires c =
    let s = c in
    let far = c.past_digits-end in
    digits_small s.args.text.now s.args.from far.result s.args.barred far.ensures.0 s.requires.1

pub overflow_sub-result : goal.overflow_sub-result
overflow_sub-result c =
    let s = c in
    let far = c.past_digits-end in
    let some =
    number_some s.args.text.now s.args.from far.result s.args.barred far.ensures.0 s.requires.1 c.small_number-number.result
    c.small_number-number.ensures in
    omega (arith, some)

pub returns : goal.returns
returns c =
    let s = c in
    let far = c.past_digits-end in (
      mark_read s.args.text.now s.args.from far.result s.args.barred far.ensures.0 s.requires.1 c.small_number-number.result
          c.small_number-number.ensures,
      far.ensures.0,
      far.ensures.1,
    )
