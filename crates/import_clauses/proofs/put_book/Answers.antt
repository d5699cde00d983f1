-- `import_clauses::put_book` meets its contract: head, codes and clauses one after another.
use mathlib.Core.Path.{◌∙◌}
use native.Mathlib.Omega.{arith}
use Rattle.import_clauses.proofs.BookWritten.{codes_room, codes_lent, book_written}
use Rattle.import_clauses.proofs.put_book.Goals as goal

pub put_head-requires : goal.put_head-requires
put_head-requires c =
    let s = c in
    omega (arith, codes_room s.args.out.now s.requires.judged_good s.requires.body_in_bounds)

pub slice_bounds-put_codes-count : goal.slice_bounds-put_codes-count
slice_bounds-put_codes-count c =
    let s = c in
    omega (arith, codes_room s.args.out.now s.requires.judged_good s.requires.body_in_bounds, c.put_head.auto.out)

pub slice_bounds-put_codes-start : goal.slice_bounds-put_codes-start
slice_bounds-put_codes-start c =
    let s = c in
    omega (arith, codes_room s.args.out.now s.requires.judged_good s.requires.body_in_bounds, c.put_head.auto.out)

pub put_codes-requires : goal.put_codes-requires
put_codes-requires c =
    let s = c in
    let head = c.put_head in
    (s.requires.judged_good.few_options, codes_lent s.args.out.now s.requires.judged_good s.requires.body_in_bounds head.new.out head.auto.out)

pub returns : goal.returns
returns c =
    let codes = c.put_codes in
    let head = c.put_head in
    let s = c in
    c.put_clauses.ensures
    ∙ book_written s.args.out.now s.requires.judged_good s.requires.body_in_bounds s.args.shape.nodes _ _ s.requires.nodes_value head.ensures
    head.auto.out codes.ensures
