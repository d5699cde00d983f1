-- `desk_session::put_lines` meets its contract: the first line, and the rest is lent for the lines of the options.
use mathlib.Core.Bool.{false}
use mathlib.Core.Path.{◌≡◌, sym, ap, ◌∙◌}
use Prim.Native.Nat.{◌-◌, ◌≤◌}
use native.Mathlib.Omega.{arith}
use borrow.Author.Rules.{part_to_end}
use borrow.Rule.Slice.PartMut.{mid_of}
use lib.ListN.{length, take, drop, length-drop}
use lib.Seq.{length-take-le}
use Rattle.model.specs.Book.{options_of, codes_of, pieces}
use Rattle.calls.specs.Calls.{Ran}
use Rattle.calls.specs.Desk.{first_line, option_lines}
use Rattle.common_decimal.specs.Placed.{filled}
use Rattle.common_decimal.proofs.PlacedBytes.{placed_count, placed_within, placed_then}
use Rattle.desk_session.proofs.PrintedAnswers.{few_options, codes_fit, lines_lent, short_first}
use Rattle.desk_session.proofs.put_lines.Goals as goal
use Rattle.desk_session.proofs.put_lines.Goals.{After-put_first-at, After-word_at-n}

-- The options of the book: so many marks are lent.
count_here : (c : goal.After-word_at-n) → c.word_at-n.result ≡ options_of c.args.book.now
unfolding options_of
count_here c = c.word_at-n.ensures

lent_here :
    (c : goal.After-word_at-n) →
    length (take c.word_at-n.result c.args.marks.now) ≡ c.word_at-n.result
lent_here c = length-take-le _ _ (omega (arith, count_here c, c.requires))

-- The first line is short.
first_here : (c : goal.After-put_first-at) → c.put_first-at.result ≤ 35
first_here c =
    let ran : Ran = record { settled = c.args.settled; count = c.args.count } in
    omega (
      arith,
      placed_count (first_line false ran) c.args.out.now c.put_first-at.ensures,
      short_first false ran c.ranges.count.fits,
    )

pub word_at-n-requires : goal.word_at-n-requires
word_at-n-requires c = omega (arith, codes_fit c.args.book.now c.requires.0)

pub slice_bounds-put_options-count : goal.slice_bounds-put_options-count
slice_bounds-put_options-count c =
    omega (arith, codes_fit c.args.book.now c.requires.0)

pub slice_bounds-put_options-start : goal.slice_bounds-put_options-start
slice_bounds-put_options-start c =
    omega (arith, codes_fit c.args.book.now c.requires.0)

pub slice_bounds-put_options-end-2 : goal.slice_bounds-put_options-end-2
slice_bounds-put_options-end-2 c = sym (lent_here (goal.at.slice_bounds-put_options-end-2 c).After-word_at-n)

pub slice_bounds-put_options-count-2 : goal.slice_bounds-put_options-count-2
slice_bounds-put_options-count-2 c =
    omega (arith, first_here (goal.at.slice_bounds-put_options-count-2 c).After-put_first-at, c.put_first-at.auto.out, c.requires)

pub slice_bounds-put_options-start-2 : goal.slice_bounds-put_options-start-2
slice_bounds-put_options-start-2 c =
    omega (arith, first_here (goal.at.slice_bounds-put_options-start-2 c).After-put_first-at, c.put_first-at.auto.out, c.requires)

pub put_options-requires : goal.put_options-requires
put_options-requires c =
    let book = c.args.book.now in
    let out = c.put_first-at.new.out in
    let at = goal.at.put_options-requires c in
    let word = at.After-word_at-n in
    let few = few_options book c.requires.0 in (
      rw (part_to_end book 8, lent_here word) (omega (arith, length-drop 8 book, codes_fit book c.requires.0, count_here word)),
      rw (part_to_end out c.put_first-at.result, lent_here word)
          (omega (
            arith,
            length-drop c.put_first-at.result out,
            first_here at.After-put_first-at,
            c.put_first-at.auto.out,
            count_here word,
            c.requires,
          )),
    )

pub overflow_add-result : goal.overflow_add-result
overflow_add-result c =
    let book = c.args.book.now in
    let marks = take c.word_at-n.result c.args.marks.now in
    let out = c.put_first-at.new.out in
    let options = c.put_options in
    let rest = mid_of c.put_first-at.result (length out - c.put_first-at.result) out in
    let within =
    placed_within (option_lines (pieces 13 (length marks) (take (length book - 8) (drop 8 book))) marks) rest options.ensures in
    omega (
      arith,
      within,
      options.auto.out,
      ap length (part_to_end out c.put_first-at.result),
      length-drop c.put_first-at.result out,
      first_here (goal.at.overflow_add-result c).After-put_first-at,
      c.put_first-at.auto.out,
      c.requires,
    )

pub returns : goal.returns
returns c =
    let word = (goal.at.returns c).After-word_at-n in
    let book = c.args.book.now in
    let marks = c.args.marks.now in
    let old = c.args.out.now in
    let out = c.put_first-at.new.out in
    let ran : Ran = record { settled = c.args.settled; count = c.args.count } in
    let rest = mid_of c.put_first-at.result (length out - c.put_first-at.result) out in
    placed_then (first_line false ran) (option_lines (codes_of book) marks) old c.put_first-at.ensures
    (placed_within (first_line false ran) old c.put_first-at.ensures)
    (c.put_options.ensures
    ∙ ap (λ ls. filled ls rest) (lines_lent book marks (count_here word) (lent_here word)))
