-- `import_judge::judge_words` meets its contract: the words counted, and the count compared with what the p line states.
use mathlib.Core.Path.{sym, ◌∙◌}
use Rattle.theory_texts.specs.Numbers.{decimal_digits}
use Rattle.import_judge.proofs.Verdicts.{none_counted, none_other, gives}
use Rattle.import_judge.proofs.judge_words.Goals as goal

pub count_words-requires : goal.count_words-requires
count_words-requires c = let p = c.requires in (p.within.1, p.options)

pub returns-in_err-tally : goal.returns-in_err-tally
returns-in_err-tally c =
    rw c.from_residual.ensures (none_counted c.args.text.now c.args.head c.requires c.in_err-tally.ensures.told)

pub is_number-requires : goal.is_number-requires
is_number-requires c = decimal_digits _ c.requires.clauses

pub returns-then-not-is_number : goal.returns-then-not-is_number
returns-then-not-is_number c =
    let count = c.in_ok-tally in
    none_other c.args.text.now c.args.head count.tally c.requires count.ensures.told (sym c.is_number.ensures ∙ c.if-not-is_number.true)

pub returns : goal.returns
returns c =
    let count = c.in_ok-tally in
    gives c.args.text.now c.args.head count.tally c.requires count.ensures.told (sym c.is_number.ensures ∙ c.if-not-is_number.false)
    count.ensures.marks_in_bounds

pub slice_bounds-count_words-count : goal.slice_bounds-count_words-count
slice_bounds-count_words-count c = c.requires.options_order

pub slice_bounds-count_words-start : goal.slice_bounds-count_words-start
slice_bounds-count_words-start c = c.requires.options_order

pub slice_bounds-count_words-end : goal.slice_bounds-count_words-end
slice_bounds-count_words-end c = c.requires.within.0

pub slice_bounds-is_number-count : goal.slice_bounds-is_number-count
slice_bounds-is_number-count c = c.requires.clauses_order

pub slice_bounds-is_number-start : goal.slice_bounds-is_number-start
slice_bounds-is_number-start c = c.requires.clauses_order

pub slice_bounds-is_number-end : goal.slice_bounds-is_number-end
slice_bounds-is_number-end c = c.requires.within.1
