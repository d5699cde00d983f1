-- `order_marks::put_standing` meets its contract: the marks before line k, then those after it.
use mathlib.Core.Bool.{true}
use mathlib.Core.List.{List}
use mathlib.Core.Path.{◌≡◌, subst, ◌∙◌}
use Prim.Native.Nat.{◌+◌, ◌-◌, suc}
use native.Mathlib.Omega.{arith}
use lib.Dec.{ltb}
use lib.ListN.{length, take, drop, length-map, length-drop}
use lib.Seq.{length-take-le}
use Rattle.model.specs.Base.{all}
use Rattle.model.specs.Literal.{option}
use Rattle.model.specs.Sheet.{options_in}
use Rattle.calls.specs.Lines.{with_marks}
use Rattle.call_laws.specs.OrderLines.{Marked, marks_put, known_take, known_drop}
use Rattle.order_lines.specs.declared.Line.{Line}
use Rattle.order_lines.specs.LineMeaning.{line_of, lines_of}
use Rattle.order_marks.proofs.MarksSoFar.{before, after, both_parts}
use Rattle.order_marks.proofs.put_standing.Goals as goal
use Rattle.order_marks.proofs.put_standing.Goals.{Start}

-- What is known on entry, for the lines before line k.
module _ (c : goal.Start) where
  abbrev lines : List Line
  lines = take c.args.k c.args.lines

  known : all (λ l. ltb (option l) (options_in c.args.sheet.now)) (lines_of lines) ≡ true
  known =
      rw (before c.args.k c.args.count c.args.lines c.requires.sheet_value.2)
      (known_take _ c.args.k _ c.requires.lines_value)

  put : Marked c.args.sheet.now c.args.k (with_marks c.args.sheet.now (lines_of lines))
  put =
      let long : length (lines_of lines) ≡ c.args.k =
      length-map lines line_of ∙ length-take-le c.args.k c.args.lines (omega (arith, c.requires.sheet_value)) in
      let all = marks_put (lines_of lines) c.args.sheet.now c.requires.sheet_value.0 known (omega (arith, long, c.requires.count_bound, c.requires.sheet_value.2)) in
      subst (λ n. Marked c.args.sheet.now n (with_marks c.args.sheet.now (lines_of lines))) long all

pub put_marks-requires-clause-lines_value : goal.put_marks-requires-clause-lines_value
put_marks-requires-clause-lines_value c = known (goal.at.put_marks-requires-clause-lines_value c).Start

pub put_marks-requires-2 : goal.put_marks-requires-2
put_marks-requires-2 c =
    let start = (goal.at.put_marks-requires-2 c).Start in
    let here = put start in
    let a = c.args in
    let few = length-take-le (a.count - (a.k + 1)) (drop (a.k + 1) a.lines) (omega (arith, length-drop (a.k + 1) a.lines, c.requires.sheet_value)) in
    rw c.put_marks.ensures
    (record {
      sheet_value = here.sheet;
      lines_value = rw (here.options, after a.k a.count a.lines c.requires.sheet_value.2) (known_drop _ (suc a.k) _ c.requires.lines_value);
      room = omega (arith, here.weight, few, c.requires.count_bound, c.requires.sheet_value.2);
    })

pub returns : goal.returns
returns c =
    let a = c.args in
    c.put_marks-2.ensures ∙ both_parts a.k a.count a.lines c.requires.sheet_value.2 _ _ c.put_marks.ensures
