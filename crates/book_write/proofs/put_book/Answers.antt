-- `book_write::put_book` meets its contract: the head, and the rest is lent for the codes and the trees.
use mathlib.Core.List.{List, [], ◌∷◌, ◌++◌}
use mathlib.Core.Path.{◌≡◌, refl, ap, ◌∙◌}
use Prim.Native.Nat.{ℕ, ◌+◌, ◌*◌, ◌-◌, ◌≤◌}
use native.Mathlib.Omega.{arith}
use borrow.Rule.Slice.PartMut.{mid_of, mid_len}
use lib.ListN.{length, take, drop}
use Rattle.model.specs.Limits.{sheet_length, sheet_room, most_nodes}
use Rattle.model.specs.Book.{bytes_of, lined_up}
use Rattle.theory_reading.specs.Spans.{spans}
use Rattle.common_lists.proofs.Lent.{lent_start}
use Rattle.book_write.proofs.Written.{sizes_of, codes_room, length_written, written_from}
use Rattle.book_write.proofs.put_book.Goals as goal
use Rattle.book_write.proofs.put_book.Goals.{After-rules_in-m}

-- The parts of a sheet and of a book that are lent fit the part of a slice that is lent.
parts_fit :
    (s b l : List ℕ) (n m t : ℕ) →
    length s ≡ sheet_length →
    t ≤ most_nodes →
    8 + 13 * n ≤ length b →
    8 + (13 * n + (4 * m + 2 * t)) ≤ length l →
    let nodes = length (mid_of 3 (3 + t - 3) s) in
    (nodes ≤ sheet_room) × (length (mid_of 8 (8 + 13 * n - 8) b) + (4 * m + 2 * nodes) ≤ length (mid_of 8 (length l - 8) l))
parts_fit s b l n m t whole few codes room =
    let xs = mid_len 3 (3 + t) s (omega arith) in
    let cs = mid_len 8 (8 + 13 * n) b codes in
    let rest = mid_len 8 (length l) l (omega arith) in
    (omega arith, omega arith)

-- The sheet is whole, the codes stand in the book, and what is written fits.
known :
    (c : goal.After-rules_in-m) →
    let a = c.args in
    let n = c.options_in-n.result in
    let m = c.rules_in-m.result in
    let t = c.nodes_below-t.result in
    (length a.sheet.now ≡ sheet_length) × (8 + 13 * n ≤ length a.book.now) × (8 + (13 * n + (4 * m + 2 * t)) ≤ length a.out.now)
known c =
    let s = c.args.sheet.now in
    let b = c.args.book.now in
    let p = c.requires in
    let room = codes_room s b p.formed p.accepted.0 p.accepted.1 in
    let long = length_written s b p.formed p.accepted.0 p.accepted.1 in
    ((sizes_of s p.formed).whole, omega arith, omega arith)

pub put_head-requires : goal.put_head-requires
put_head-requires c = omega (arith, known (goal.at.put_head-requires c).After-rules_in-m)

pub slice_bounds-put_parts-end : goal.slice_bounds-put_parts-end
slice_bounds-put_parts-end c = omega (arith, known (goal.at.slice_bounds-put_parts-end c).After-rules_in-m)

pub slice_bounds-put_parts-end-2 : goal.slice_bounds-put_parts-end-2
slice_bounds-put_parts-end-2 c = omega (arith, known (goal.at.slice_bounds-put_parts-end-2 c).After-rules_in-m)

pub slice_bounds-put_parts-count-3 : goal.slice_bounds-put_parts-count-3
slice_bounds-put_parts-count-3 c = omega (arith, known (goal.at.slice_bounds-put_parts-count-3 c).After-rules_in-m)

pub slice_bounds-put_parts-start-3 : goal.slice_bounds-put_parts-start-3
slice_bounds-put_parts-start-3 c = omega (arith, known (goal.at.slice_bounds-put_parts-start-3 c).After-rules_in-m)

pub put_parts-requires : goal.put_parts-requires
put_parts-requires c =
    let z = known (goal.at.put_parts-requires c).After-rules_in-m in
    let a = c.args in
    let head = c.put_head in
    parts_fit a.sheet.now a.book.now head.new.out _ _ _ z.0 c.nodes_below-t.ensures.1 z.1 (omega (arith, head.auto.out))

pub returns : goal.returns
unfolding bytes_of
returns c =
    let s = c.args.sheet.now in
    let b = c.args.book.now in
    let old = c.args.out.now in
    let n = c.options_in-n.result in
    let m = c.rules_in-m.result in
    let t = c.nodes_below-t.result in
    let codes : List ℕ = take (8 + 13 * n - 8) (drop 8 b) in
    let xs : List ℕ = take (3 + t - 3) (drop 3 s) in
    let head = c.put_head in
    let wide : 8 + 13 * n - 8 ≡ 13 * n = omega arith in
    let count : 3 + t - 3 ≡ t = omega arith in
    lent_start (bytes_of (n ∷ m ∷ t ∷ 0 ∷ [])) old refl head.ensures
    (codes ++ (bytes_of (lined_up 0 (spans m xs)) ++ bytes_of xs))
    (length codes + (4 * m + 2 * length xs))
    (omega (arith, known (goal.at.returns c).After-rules_in-m, head.auto.out))
    c.put_parts.ensures
    ∙ written_from s b c.requires.formed c.requires.accepted.0 c.requires.accepted.1 codes xs old
    c.options_in-n.ensures.0
    c.rules_in-m.ensures.0
    c.nodes_below-t.ensures.0
    (ap (λ k. take k (drop 8 b)) wide)
    (ap (λ k. take k (drop 3 s)) count)
