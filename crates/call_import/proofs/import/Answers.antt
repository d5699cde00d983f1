-- `call_import::import` meets its contract: 15 where the text is judged no clause file, 16 where it is too large, then the book.
use mathlib.Core.Path.{sym, ◌∙◌}
use native.Mathlib.Omega.{arith}
use Rattle.theory_texts.specs.Numbers.{decimal_digits}
use Rattle.call_import.proofs.ImportAnswers.{no_file_told, too_large_told, judged_limits, few_options}
use Rattle.call_import.proofs.import.Goals as goal

pub returns-in_default : goal.returns-in_default
returns-in_default c = no_file_told _ _ c.in_default.ensures

pub returns-then-is_too_large : goal.returns-then-is_too_large
returns-then-is_too_large c =
    let g = c.in-Some.ensures in
    too_large_told _ _ g.file g.reads (sym (judged_limits g g.options) ∙ sym c.is_too_large.ensures ∙ c.if-is_too_large.true)

pub small_number-options-requires : goal.small_number-options-requires
small_number-options-requires c =
    let g = c.in-Some.ensures in
    let few = few_options _ _ _ (sym c.is_too_large.ensures ∙ c.if-is_too_large.false) in
    (decimal_digits _ g.decimal, omega (arith, few))

pub put_file-requires : goal.put_file-requires
put_file-requires c =
    let g = c.in-Some.ensures in
    record {
      given = g;
      fits = sym (judged_limits g g.options) ∙ sym c.is_too_large.ensures ∙ c.if-is_too_large.false;
      number = c.small_number-options.ensures ∙ g.options;
    }
