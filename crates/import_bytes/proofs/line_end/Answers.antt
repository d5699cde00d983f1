-- `import_bytes::line_end` meets its contract: the blocks without an end are passed, and then the bytes before the first one.
use mathlib.Core.Path.{◌≡◌, refl, ap, ◌∙◌}
use Rattle.std.proofs.Common.{rules, tests}
use lib.ListN.{length, drop}
use borrow.Author.Rules.{part_to_end}
use Rattle.std.specs.Slice.Iter.{iter_rest}
use Rattle.std.specs.List.{take_while}
use Rattle.std.proofs.lemmas.Iterator.{YieldsList-from_slice}
use Rattle.std.proofs.lemmas.Iterator.Consumers.{count_from_yields_List}
use Rattle.std.proofs.lemmas.Iterator.Search.{YieldsList-from_take_while}
use Rattle.theory_texts.specs.Comments.{on_line, no_end}
use Rattle.import_bytes.proofs.Places.{far_counted}
use Rattle.import_bytes.proofs.line_end.Goals as goal

pub returns : goal.returns
returns c =
    let text = c.args.text.now in
    let from = c.past_blocks-from in
    let counted : c.count.result ≡ length (take_while no_end (drop from.result text)) =
    count_from_yields_List c.take_while.result _ c.count.ensures.ran
    (YieldsList-from_take_while _ no_end (YieldsList-from_slice (drop from.result text) (ap iter_rest c.take_while.ensures.source ∙ c.iter.ensures.rest ∙ part_to_end text from.result)) c.take_while.ensures.closure c.take_while.ensures.done
    (λ x b q k. search (rules, tests)))
    in
    let far = far_counted no_end on_line (λ x b. refl) text from.result c.count.result from.ensures.0 counted in
    (far.0 ∙ from.ensures.1, far.1)
