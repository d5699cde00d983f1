use mathlib.Core.Path.{sym}
use native.Mathlib.Omega.{arith}
use Rattle.texts.specs.Decimals.{number_in}
use Rattle.import_judge.proofs.Counting.{begun, open_ended, closed_ended, no_count, goes_on, more_counted}
use Rattle.import_judge.proofs.count_words.Goals as goal

pub loop-at-init : goal.loop-at-init
loop-at-init c =
    let a = c.args in
    begun (number_in a.options.now) a.text.now a.body c.past_blanks-at.result c.past_blanks-at.ensures.0 c.past_blanks-at.ensures.1

pub read_word-word-requires : goal.read_word-word-requires
read_word-word-requires c = (c.loop-at-test.true, c.requires.1)

pub returns-in_err-kind-clause-told : goal.returns-in_err-kind-clause-told
returns-in_err-kind-clause-told c =
    let a = c.args in
    let l = c.loop-at in
    let neither = rw c.in_err-kind.was at c.read_word-word.ensures.0 in
    rw c.from_residual.ensures (no_count (number_in a.options.now) a.text.now a.body l.so_far l.at l.invariant c.loop-at-test.true (sym neither))

pub counted-so_far-requires : goal.counted-so_far-requires
counted-so_far-requires c = omega (arith, c.loop-at.invariant.few, c.loop-at-test.true)

pub loop-at-smaller : goal.loop-at-smaller
loop-at-smaller c =
    let a = c.args in
    let l = c.loop-at in
    let word = c.read_word-word in
    let kind = c.in_ok-kind in
    let told = rw kind.was at word.ensures.0 in
    let on = goes_on (number_in a.options.now) a.text.now a.body l.so_far l.at l.invariant c.loop-at-test.true
    kind.kind word.result.end c.past_blanks-at-in-loop-at.result told word.ensures.1 in
    omega (arith, on, c.loop-at-test.true, c.past_blanks-at-in-loop-at.ensures.0)

pub loop-at-preserved : goal.loop-at-preserved
loop-at-preserved c =
    let a = c.args in
    let l = c.loop-at in
    let word = c.read_word-word in
    let kind = c.in_ok-kind in
    let told = rw kind.was at word.ensures.0 in
    more_counted (number_in a.options.now) a.text.now a.body l.so_far l.at l.invariant c.loop-at-test.true
    kind.kind word.result.end c.past_blanks-at-in-loop-at.result told word.ensures.1
    c.counted-so_far.result c.counted-so_far.ensures c.past_blanks-at-in-loop-at.ensures.0 c.past_blanks-at-in-loop-at.ensures.1

pub past_blanks-at-requires-in-loop-at : goal.past_blanks-at-requires-in-loop-at
past_blanks-at-requires-in-loop-at c = c.read_word-word.ensures.2

pub returns-then-so_far-clause-told : goal.returns-then-so_far-clause-told
returns-then-so_far-clause-told c =
    let a = c.args in
    let l = c.loop-at in
    open_ended (number_in a.options.now) a.text.now a.body l.so_far l.at l.invariant c.loop-at-test.false c.if-so_far.true

pub returns-else-so_far : goal.returns-else-so_far
returns-else-so_far c =
    let a = c.args in
    let l = c.loop-at in
    record {
      told = closed_ended (number_in a.options.now) a.text.now a.body l.so_far l.at l.invariant c.loop-at-test.false c.if-so_far.false;
      marks_in_bounds = omega (arith, l.invariant.few, l.invariant.within);
    }
