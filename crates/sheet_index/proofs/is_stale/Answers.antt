-- `sheet_index::is_stale` meets its contract: an index that is long enough is compared with a fresh one.
use mathlib.Core.Bool.{Bool, true, false, not, ◌&&◌}
use mathlib.Core.List.{List, [], ◌∷◌}
use mathlib.Core.Path.{◌≡◌, refl, sym, ap, ◌∙◌}
use Prim.Native.Nat.{ℕ, ◌*◌}
use native.Mathlib.Omega.{arith}
use borrow.Author.Tests.{ltb-false}
use lib.Dec.{eqb}
use lib.ListN.{length, take}
use lib.Pointwise.{pointwise}
use lib.Seq.{length-take-le}
use Rattle.model.specs.Base.{placed, same_list}
use Rattle.model.specs.Sheet.{options_in}
use Rattle.calls.specs.Index.{fresh_count}
use Rattle.calls.specs.Conditions.{index_length, has_short_index, has_stale_index}
use Rattle.theory_forms.specs.Sheets.{sheet_formed, sheet_options}
use Rattle.theory_index.specs.Entries.{fresh_length}
use Rattle.theory_forms.specs.Placed.{placed_start}
use Rattle.sheet_index.proofs.is_stale.Goals as goal

pointwise_same : (xs ys : List ℕ) → pointwise eqb xs ys ≡ same_list xs ys
unfolding same_list
pointwise_same [] [] = refl
pointwise_same [] (y ∷ ys) = refl
pointwise_same (x ∷ xs) [] = refl
pointwise_same (x ∷ xs) (y ∷ ys) = ap (λ b. eqb x y && b) (pointwise_same xs ys)

module _ (s index : List ℕ) where
  -- A short index is none that could be compared.
  short_unread : has_short_index s index ≡ true → false ≡ has_stale_index s index
  short_unread e = rw e

  compared :
      (zeros : List ℕ) {table : List ℕ} {n : ℕ} {alike : Bool} →
      has_short_index s index ≡ false →
      table ≡ placed (fresh_count s) zeros →
      n ≡ index_length s →
      alike ≡ same_list (take n index) (take n table) →
      not alike ≡ has_stale_index s index
  compared zeros long filled many e =
      let read = ap (take (index_length s)) filled ∙ placed_start (fresh_count s) zeros (fresh_length s) in
      rw (long, e, many, read)

pub returns-then-is_short : goal.returns-then-is_short
returns-then-is_short c =
    let a = c.args in
    short_unread a.sheet.now a.index.now (sym c.is_short.ensures ∙ c.if-is_short.true)

pub fill-requires : goal.fill-requires
fill-requires c =
    (c.requires, omega (arith, sheet_options c.args.sheet.now c.requires))

pub bounds-sheet-0 : goal.bounds-sheet-0
bounds-sheet-0 c =
    omega (arith, (sheet_formed c.args.sheet.now c.requires).whole)

pub slice_bounds-ne-end : goal.slice_bounds-ne-end
unfolding options_in
slice_bounds-ne-end c =
    let index = c.args.index.now in
    let long = ltb-false (length index) (index_length c.args.sheet.now) (sym c.is_short.ensures ∙ c.if-is_short.false) in
    sym (length-take-le (2 * c.from-end.result) index (omega (arith, c.from-end.ensures, long)))

pub slice_bounds-fresh-end : goal.slice_bounds-fresh-end
unfolding options_in
slice_bounds-fresh-end c = omega (arith, c.from-end.ensures, c.fill.auto.index, sheet_options c.args.sheet.now c.requires)

pub slice_bounds-ne-end-2 : goal.slice_bounds-ne-end-2
unfolding options_in
slice_bounds-ne-end-2 c =
    sym (length-take-le (2 * c.from-end.result) c.fill.new.index
    (omega (arith, c.from-end.ensures, c.fill.auto.index, sheet_options c.args.sheet.now c.requires)))

pub returns : goal.returns
unfolding options_in
returns c =
    let many = ap (λ n. 2 * n) c.from-end.ensures in
    let long = sym c.is_short.ensures ∙ c.if-is_short.false in
    let n = 2 * c.from-end.result in
    c.ne.ensures
    ∙ compared c.args.sheet.now c.args.index.now _ long c.fill.ensures many (pointwise_same (take n c.args.index.now) (take n c.fill.new.index))
