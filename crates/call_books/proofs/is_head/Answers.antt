-- `call_books::is_head` meets its contract: its four tests are the definition's, by what each word is.
use Rattle.std.proofs.Common.{◌≡◌, arith, sym, ◌∙◌}
use Rattle.std.proofs.Common.{le-leb}
use Rattle.std.proofs.lemmas.Bool.Decides.{nat_tests}
use Rattle.call_books.proofs.BookTests.{head_tests}
use Rattle.call_books.proofs.is_head.Goals as goal

pub returns-then-nodes-le-MOST_NODES : goal.returns-then-nodes-le-MOST_NODES
returns-then-nodes-le-MOST_NODES c =
    let h = head_tests _ _ _ _ c.word_at-options.ensures c.word_at-rules.ensures c.word_at-nodes.ensures in
    rw h (grind (arith, nat_tests))

pub returns-else-nodes-le-MOST_NODES : goal.returns-else-nodes-le-MOST_NODES
returns-else-nodes-le-MOST_NODES c =
    let h = head_tests _ _ _ _ c.word_at-options.ensures c.word_at-rules.ensures c.word_at-nodes.ensures in
    rw h (grind (arith, nat_tests))
