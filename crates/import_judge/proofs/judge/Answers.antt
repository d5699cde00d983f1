-- `import_judge::judge` meets its contract: comments passed, the p line, and the words after it.
use mathlib.Core.Path.{sym}
use Rattle.import_judge.proofs.Verdicts.{nothing_there, stated_there, stands_placed}
use Rattle.import_judge.proofs.judge.Goals as goal

pub read_head-requires : goal.read_head-requires
read_head-requires c = c.past_comments-at.ensures.0

pub returns-in_err-head : goal.returns-in_err-head
returns-in_err-head c =
    let past = c.past_comments-at in
    rw c.from_residual.ensures (nothing_there c.args.text.now past.result past.ensures.1 past.ensures.2 (sym c.in_err-head.ensures.found))

pub judge_words-requires : goal.judge_words-requires
judge_words-requires c = stands_placed c.in_ok-head.ensures.stands

pub returns : goal.returns
returns c =
    let past = c.past_comments-at in
    let head = c.in_ok-head in
    let there = stated_there c.args.text.now past.result past.ensures.1 head.head (sym head.ensures.found) head.ensures.stands in
    rw there c.judge_words.ensures
