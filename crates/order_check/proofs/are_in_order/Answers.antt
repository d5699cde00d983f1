-- `order_check::are_in_order` meets its contract: what the chain answers is what all counted lines say.
use mathlib.Core.Path.{◌≡◌}
use borrow.Author.Rules.{rules}
use borrow.Author.Tests.{le-leb, tests}
use lib.Dec.{ltb}
use lib.ListN.{take}
use Rattle.std.specs.List.{list_all}
use Rattle.std.proofs.lemmas.Iterator.{YieldsList-from_slice}
use Rattle.std.proofs.lemmas.Iterator.Search.{all_from_yields_List}
use Rattle.calls.specs.Lines.{most_lines}
use Rattle.order_lines.specs.declared.Line.{Line}
use Rattle.order_check.proofs.Counted.{counted_all}
use Rattle.order_check.proofs.are_in_order.Goals as goal

pub returns-then-count-le-MOST_LINES : goal.returns-then-count-le-MOST_LINES
returns-then-count-le-MOST_LINES c =
    let a = c.args in
    let checked : c.all.result ≡ list_all (λ (d : Line). ltb d.option a.n) (take c.from.result a.lines) =
    all_from_yields_List (λ (d : Line). ltb d.option a.n) _ _ _ c.all.ensures.ran (YieldsList-from_slice (take c.from.result a.lines) cc) (λ x b q k. search (rules, tests)) in
    rw (le-leb a.count most_lines c.if-count-le-MOST_LINES.true, counted_all a.n a.count a.lines, ← c.from.ensures) checked
