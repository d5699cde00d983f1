-- A table of sizes, entry by entry, and the table of a part.
use mathlib.Core.List.{List}
use mathlib.Core.Logic.{⊎_elim}
use mathlib.Core.Path.{◌≡◌, sym, ap, ◌∙◌}
use Prim.Native.Nat.{ℕ, ◌+◌, ◌≤◌, ◌<◌}
use native.Mathlib.Omega.{arith}
use borrow.Author.Tests.{eqb-true, eqb-false}
use lib.Dec.{eqb}
use lib.ListN.{length, get_or, drop, set, length-drop}
use lib.Seq.{drop-drop, get_or-set_other, get_or-set_same, get_or-drop}
use Rattle.theory_forms.specs.Logic.{either}
use Rattle.theory_reading.specs.Spans.{span}
use Rattle.search_sizes.specs.SizeTables.{SizesFrom, SizesOf, Measured}

-- One entry more, before those that are right.
pub sized_more :
    (p : ℕ) (l t : List ℕ) →
    p < length l →
    length t ≡ length l →
    SizesFrom (p + 1) l t →
    SizesFrom p l (set t p (span 1 (drop p l)))
sized_more p l t h n s q from to =
    ⊎_elim
    (λ e. let same : p ≡ q = eqb-true p q e in
    ap (λ k. get_or (set t p (span 1 (drop p l))) k 0) (sym same) ∙ get_or-set_same t p (span 1 (drop p l)) 0 (omega arith) ∙
    ap (λ k. span 1 (drop k l)) same)
    (λ e. let other : q ≡ p → ⊥ = λ d. eqb-false p q e (sym d) in
    get_or-set_other t p q (span 1 (drop p l)) 0 other ∙ s q (omega (arith, other)) to)
    (either (eqb p q))

-- The table of a part, and of a sheet from its nodes on.
pub sizes_part : (p : ℕ) (l t : List ℕ) → p ≤ length l → SizesOf l t → SizesOf (drop p l) (drop p t)
sizes_part p l t within w =
    record {
      long = omega (arith, length-drop p l, length-drop p t, w.long);
      each = λ q from to. rw (get_or-drop p t q 0, drop-drop q p l) (w.each (p + q) (omega arith) (omega (arith, length-drop p l)));
    }

pub sheet_sizes : {s t : List ℕ} → Measured s t → SizesOf (drop 2 s) t
sheet_sizes {s} w = record { long = omega (arith, w.long, w.sheet.whole, length-drop 2 s); each = w.each }
