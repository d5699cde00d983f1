-- `import_words::read_word` meets its contract: with a minus, or without.
use mathlib.Core.Path.{◌∙◌}
use Rattle.import_words.proofs.WordTests.{with_minus, without_minus}
use Rattle.import_words.proofs.read_word.Goals as goal

pub returns-then-text-at-eq45 : goal.returns-then-text-at-eq45
returns-then-text-at-eq45 c =
    let law = with_minus c.args.text.now c.args.at _ c.if-text-at-eq45.true in
    let told = c.read_number.ensures in
    (told.0 ∙ law.0, told.1 ∙ law.1, told.2)

pub returns-else-text-at-eq45 : goal.returns-else-text-at-eq45
returns-else-text-at-eq45 c =
    let law = without_minus c.args.text.now c.args.at _ c.if-text-at-eq45.false in
    let told = c.read_number-else-text-at-eq45.ensures in
    (told.0 ∙ law.0, told.1 ∙ law.1, told.2)
