-- `call_import::put_file` meets its contract: 12 where the output is shorter than the book, else the book.
use mathlib.Core.Path.{sym, ap, ◌∙◌}
use native.Mathlib.Omega.{arith}
use lib.ListN.{length}
use Rattle.model.specs.Base.{placed}
use Rattle.texts.specs.ClauseBook.{nodes_of_file, book_of_file}
use Rattle.call_import.proofs.ImportAnswers.{no_room_told, given_told, file_there, nodes_there, good_there, book_length, few_there}
use Rattle.call_import.proofs.put_file.Goals as goal

pub returns-then-out-long : goal.returns-then-out-long
returns-then-out-long c =
    let s = c in
    let small = s.requires in
    no_room_told s.args.text.now s.args.out.now small.given.file small.given.reads small.fits
    (omega (arith, book_length small, c.if-out-long.true))

pub put_book-requires : goal.put_book-requires
put_book-requires c =
    let s = c in
    let small = s.requires in
    record {
      judged_good = good_there small;
      nodes_value = nodes_there small ∙ ap (λ f. length (nodes_of_file f)) (sym (file_there small));
      body_in_bounds = omega (arith, ap (λ f. length (book_of_file f)) (file_there small), book_length small, c.if-out-long.false);
    }

pub returns : goal.returns
returns c =
    let s = c in
    let small = s.requires in
    given_told s.args.text.now s.args.out.now small.given.file small.given.reads small.fits
    (omega (arith, book_length small, c.if-out-long.false))
    (book_length small)
    (c.put_book.ensures ∙ ap (λ f. placed (book_of_file f) s.args.out.now) (file_there small))

pub overflow_add-nodes : goal.overflow_add-nodes
overflow_add-nodes c = omega (arith, few_there c.requires)

pub overflow_mul-long : goal.overflow_mul-long
overflow_mul-long c = omega (arith, few_there c.requires)

pub overflow_add-long : goal.overflow_add-long
overflow_add-long c = omega (arith, few_there c.requires)

pub overflow_mul-long-2 : goal.overflow_mul-long-2
overflow_mul-long-2 c = omega (arith, few_there c.requires)

pub overflow_add-long-2 : goal.overflow_add-long-2
overflow_add-long-2 c = omega (arith, few_there c.requires)

pub overflow_mul-long-3 : goal.overflow_mul-long-3
overflow_mul-long-3 c = omega (arith, few_there c.requires)

pub overflow_add-long-3 : goal.overflow_add-long-3
overflow_add-long-3 c = omega (arith, few_there c.requires)
