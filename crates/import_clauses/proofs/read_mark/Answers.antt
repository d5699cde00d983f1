-- `import_clauses::read_mark` meets its contract: with a minus, or without.
use mathlib.Core.Path.{sym, ap, ◌∙◌}
use native.Mathlib.Omega.{arith}
use Rattle.model.specs.Base.{is_some}
use Rattle.import_clauses.proofs.ReadMarks.{with_minus, without_minus}
use Rattle.import_clauses.proofs.read_mark.Goals as goal

pub read_number-requires : goal.read_number-requires
read_number-requires c =
    let s = c in
    let law = with_minus s.args.text.now s.args.at c.if-text-at-eq45.true in
    (omega (arith, s.requires.0), ap is_some (sym law.0) ∙ s.requires.1)

pub returns-then-text-at-eq45 : goal.returns-then-text-at-eq45
returns-then-text-at-eq45 c =
    let s = c in
    let law = with_minus s.args.text.now s.args.at c.if-text-at-eq45.true in
    let call = c.read_number.ensures in
    (law.0 ∙ call.0, call.1 ∙ law.1, call.2)

pub read_number-requires-else-text-at-eq45 : goal.read_number-requires-else-text-at-eq45
read_number-requires-else-text-at-eq45 c =
    let s = c in
    let law = without_minus s.args.text.now s.args.at c.if-text-at-eq45.false in
    (omega (arith, s.requires.0), ap is_some (sym law.0) ∙ s.requires.1)

pub returns-else-text-at-eq45 : goal.returns-else-text-at-eq45
returns-else-text-at-eq45 c =
    let s = c in
    let law = without_minus s.args.text.now s.args.at c.if-text-at-eq45.false in
    let call = c.read_number-else-text-at-eq45.ensures in
    (law.0 ∙ call.0, call.1 ∙ law.1, call.2)
