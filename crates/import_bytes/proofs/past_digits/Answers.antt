-- `import_bytes::past_digits` meets its contract: the digits are counted.
use mathlib.Core.Path.{◌≡◌, refl, ap, ◌∙◌}
use Rattle.std.proofs.Common.{rules, tests}
use lib.ListN.{length, drop}
use Rattle.std.specs.Char.{is_ascii_digit}
use borrow.Author.Rules.{part_to_end}
use Rattle.std.specs.Slice.Iter.{iter_rest}
use Rattle.std.specs.List.{take_while}
use Rattle.std.proofs.lemmas.Iterator.{YieldsList-from_slice}
use Rattle.std.proofs.lemmas.Iterator.Consumers.{count_from_yields_List}
use Rattle.std.proofs.lemmas.Iterator.Search.{YieldsList-from_take_while}
use Rattle.texts.specs.Decimals.{is_digit}
use Rattle.model.specs.Book.{between}
use Rattle.theory_texts.specs.Figures.{on_digit}
use Rattle.import_bytes.proofs.Places.{far_counted}
use Rattle.import_bytes.proofs.past_digits.Goals as goal

pub returns : goal.returns
unfolding is_digit between
returns c =
    let text = c.args.text.now in
    let counted : c.count.result ≡ length (take_while is_ascii_digit (drop c.args.at text)) =
    count_from_yields_List c.take_while.result _ c.count.ensures.ran
    (YieldsList-from_take_while _ is_ascii_digit (YieldsList-from_slice (drop c.args.at text) (ap iter_rest c.take_while.ensures.source ∙ c.iter.ensures.rest ∙ part_to_end text c.args.at)) c.take_while.ensures.closure c.take_while.ensures.done
    (λ x b q k. search (rules, tests)))
    in
    far_counted is_ascii_digit on_digit (λ x b. refl) text c.args.at c.count.result c.requires counted
