-- `import_bytes::past_blanks` meets its contract: each blank that is passed leaves how far they go.
use Rattle.theory_texts.specs.Spans.{Passed}
use Rattle.theory_texts.specs.Breaks.{breaks}
use Rattle.import_bytes.proofs.past_blanks.Given as goal

abbrev pub invariant-loop-i : goal.invariant-loop-i
invariant-loop-i l = Passed breaks l.text l.at l.i
