use mathlib.Core.List.{List}
use mathlib.Core.Path.{◌≡◌, sym, ap, ◌∙◌}
use Prim.Native.Nat.{◌≤◌, ◌<◌}
use native.Mathlib.Omega.{arith}
use borrow.Author.Tests.{ltb-true}
use borrow.Author.Rules.{rules}
use lib.Dec.{ltb}
use lib.ListN.{length, get_or, take}
use lib.Seq.{length-take-le, get_or-take}
use Rattle.model.specs.Limits.{most_options}
use Rattle.model.specs.Literal.{option}
use Rattle.calls.specs.Lines as M
use Rattle.theory_forms.specs.Lists.{all_index}
use Rattle.order_lines.specs.LineMeaning.{blank, line_of, lines_of}
use Rattle.order_check.proofs.Counted.{counted_length, counted_option}
use Rattle.order_named.proofs.Passes.{begun, one_more, ended}
use Rattle.order_named.proofs.note_lines.Goals as goal
use Rattle.order_named.proofs.note_lines.Goals.{After-from-in-loop-line}

-- The option is that of a counted line, and has its place in the table.
module _ (c : goal.After-from-in-loop-line) where
  abbrev lines : List M.Line
  lines = take c.args.count (lines_of c.args.lines)

  counts : c.loop-line.line-index < c.args.count
  counts =
      let few : c.from.result ≤ length c.args.lines = omega arith in
      omega (arith, c.loop-line-test.true, length-take-le c.from.result c.args.lines few, c.from.ensures)

  many : length lines ≡ c.args.count
  many =
      let long : length c.args.lines ≡ 64 = search rules in
      counted_length c.args.count c.args.lines (omega arith)

  place : c.from-in-loop-line.result ≡ option (get_or lines c.loop-line.line-index (line_of blank))
  place =
      let a = c.args in
      c.from-in-loop-line.ensures
      ∙ ap (λ d. d.option) (get_or-take c.from.result a.lines c.loop-line.line-index blank (omega (arith, counts, c.from.ensures)))
      ∙ sym (counted_option a.count a.lines c.loop-line.line-index counts)

  in_table : c.from-in-loop-line.result < 513
  in_table =
      let i = c.loop-line.line-index in
      let known = c.requires.lines_value in
      let l = all_index (λ l. ltb (option l) most_options) lines i (line_of blank) known (omega (arith, many, counts)) in
      omega (arith, place, ltb-true (option (get_or lines i (line_of blank))) most_options l)

pub loop-line-init : goal.loop-line-init
loop-line-init c = let a = c.args in begun option (take a.count (lines_of a.lines)) a.named.now

pub bounds-named-from : goal.bounds-named-from
bounds-named-from c = in_table (goal.at.bounds-named-from c).After-from-in-loop-line

pub loop-line-preserved : goal.loop-line-preserved
loop-line-preserved c =
    let k = (goal.at.loop-line-preserved c).After-from-in-loop-line in
    let l = c.loop-line in
    let here : l.line-index < length (lines k) = omega (arith, many k, counts k) in
    let long = l.invariant.long ∙ c.requires.count_le_most_lines.1 in
    one_more option (lines k) _ l.named l.line-index (line_of blank) here (place k) (omega (arith, in_table k, long)) l.invariant

pub returns : goal.returns
returns c =
    let a = c.args in
    let l = c.loop-line in
    let slots : length a.lines ≡ 64 = search rules in
    let long = counted_length a.count a.lines (omega arith) in
    let passed = length-take-le c.from.result a.lines (omega arith) in
    ended option (take a.count (lines_of a.lines)) _ _ l.line-index (omega (arith, long, passed, c.from.ensures, c.loop-line-test.false)) l.invariant
