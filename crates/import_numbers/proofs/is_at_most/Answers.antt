-- `import_numbers::is_at_most` meets its contract: fewer digits, or as many and no later in the order of slices.
use mathlib.Core.Path.{◌∙◌}
use native.Mathlib.Omega.{arith}
use borrow.Author.Tests.{lt-ltb, ne_eqb}
use lib.ListN.{length}
use Rattle.import_numbers.proofs.DigitByDigit.{shorter, longer, compared}
use Rattle.import_numbers.proofs.is_at_most.Goals as goal

pub returns-then-a-b : goal.returns-then-a-b
returns-then-a-b c =
    let a = c.args.a.now in
    let b = c.args.b.now in
    lt-ltb (length a) (length b) c.if-a-b.true ∙ shorter a b c.requires.0 c.requires.1 c.if-a-b.true

pub returns-then-a-b-2 : goal.returns-then-a-b-2
returns-then-a-b-2 c = compared c.args.a.now c.args.b.now c.requires.0 c.requires.1 c.if-a-b-2.true c.le.result c.le.ensures

pub returns-else-a-b-2 : goal.returns-else-a-b-2
returns-else-a-b-2 c =
    let a = c.args.a.now in
    let b = c.args.b.now in
    ne_eqb (length a) (length b) c.if-a-b-2.false ∙ longer a b c.requires.0 c.requires.1 (omega (arith, c.if-a-b.false, c.if-a-b-2.false))
