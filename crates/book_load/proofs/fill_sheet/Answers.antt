-- `book_load::fill_sheet` meets its contract: three numbers, and the rest of the sheet is lent and filled.
use mathlib.Core.List.{List, [], ◌∷◌, ◌++◌}
use mathlib.Core.Path.{refl, ap, ◌∙◌}
use Prim.Native.Nat.{ℕ, ◌+◌, ◌*◌}
use native.Mathlib.Omega.{arith}
use lib.ListN.{length-take, length-drop}
use Rattle.common_lists.proofs.Lent.{lent_part, lent_after}
use Rattle.book_load.proofs.Loaded.{head_of, loaded_from}
use Rattle.book_load.proofs.fill_sheet.Goals as goal

pub word_at-n-requires : goal.word_at-n-requires
word_at-n-requires c = omega (arith, head_of c.args.book.now c.requires.0)

pub word_at-m-requires : goal.word_at-m-requires
word_at-m-requires c = omega (arith, head_of c.args.book.now c.requires.0)

pub word_at-t-requires : goal.word_at-t-requires
word_at-t-requires c = omega (arith, head_of c.args.book.now c.requires.0)

pub overflow_mul-bodies : goal.overflow_mul-bodies
overflow_mul-bodies c = omega (arith, head_of c.args.book.now c.requires.0)

pub overflow_add-bodies : goal.overflow_add-bodies
overflow_add-bodies c = omega (arith, head_of c.args.book.now c.requires.0)

pub overflow_mul-bodies-2 : goal.overflow_mul-bodies-2
overflow_mul-bodies-2 c = omega (arith, head_of c.args.book.now c.requires.0)

pub overflow_add-bodies-2 : goal.overflow_add-bodies-2
overflow_add-bodies-2 c = omega (arith, head_of c.args.book.now c.requires.0)

pub overflow_add-t : goal.overflow_add-t
overflow_add-t c = omega (arith, head_of c.args.book.now c.requires.0)

pub overflow_add-m : goal.overflow_add-m
overflow_add-m c = omega (arith, head_of c.args.book.now c.requires.0)

pub put_three-requires : goal.put_three-requires
put_three-requires c = omega (arith, head_of c.args.book.now c.requires.0)

pub slice_bounds-fill_numbers-count : goal.slice_bounds-fill_numbers-count
slice_bounds-fill_numbers-count c = omega (arith, head_of c.args.book.now c.requires.0)

pub slice_bounds-fill_numbers-start : goal.slice_bounds-fill_numbers-start
slice_bounds-fill_numbers-start c = omega (arith, head_of c.args.book.now c.requires.0)

pub fill_numbers-requires : goal.fill_numbers-requires
fill_numbers-requires c =
    simp (length-take, length-drop) (omega (arith, head_of c.args.book.now c.requires.0))

pub returns : goal.returns
returns c =
    let b = c.args.book.now in
    let old = c.args.target.now in
    let three = c.put_three in
    let fill = c.fill_numbers in
    let t = c.word_at-t in
    let m = c.word_at-m in
    let o = c.word_at-n in
    let front : List ℕ = o.result ∷ (t.result + 1) ∷ (20480 + m.result) ∷ [] in
    lent_after front old refl three.ensures fill.new.out (omega arith)
    ∙ ap (λ r. front ++ r) fill.ensures
    ∙ loaded_from b c.requires.0 _ o.ensures m.ensures t.ensures
    (lent_part (8 + 13 * o.result + 4 * m.result) b)
    (simp (length-take, length-drop) (omega arith))
