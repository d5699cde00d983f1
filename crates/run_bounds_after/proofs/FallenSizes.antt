-- Tables of sizes, entry by entry: some fall, others move, and ones follow.
use mathlib.Core.List.{List}
use mathlib.Core.Logic.{⊎_elim}
use mathlib.Core.Path.{◌≡◌, sym, ap, ◌∙◌}
use Prim.Native.Nat.{ℕ, ◌+◌, ◌-◌, ◌≤◌, ◌<◌}
use native.Mathlib.Omega.{arith}
use borrow.Author.Tests.{eqb-true, eqb-false}
use lib.Dec.{eqb}
use lib.ListN.{length, get_or, set}
use lib.Seq.{get_or-set_same, get_or-set_other}
use Rattle.model.specs.Limits.{sheet_room}
use Rattle.theory_forms.specs.Logic.{either}
use Rattle.run_bounds_after.specs.Resized.{fallen_size, Falls, Shrunk, Resized}
use Rattle.run_bounds_after.proofs.RenewedEntries.{Ones, gone, gone_before, gone_after}

pub shrunk_more :
    (to place by : ℕ) (t u : List ℕ) {x : ℕ} →
    to < length u →
    x ≡ fallen_size place by to (get_or t to 0) →
    Shrunk to place by t u →
    Shrunk (to + 1) place by t (set u to x)
shrunk_more to place by t u {x} l e w =
    record {
      before = λ q lt. ⊎_elim
          (λ d. let same : q ≡ to = eqb-true q to d in
          ap (λ k. get_or (set u to x) k 0) same ∙ get_or-set_same u to x 0 l ∙ e ∙ ap (λ k. fallen_size place by k (get_or t k 0)) (sym same))
          (λ d. let other : q ≡ to → ⊥ = eqb-false q to d in get_or-set_other u to q x 0 other ∙ w.before q (omega (arith, other)))
          (either (eqb q to));
      after = λ q le. get_or-set_other u to q x 0 (λ d. omega arith) ∙ w.after q (omega arith);
    }

-- Two tables that agree before `to`: where the sizes of the one can fall, so can those of the other.
pub falls_same : (to place by : ℕ) (t u : List ℕ) → ((q : ℕ) → q < to → get_or u q 0 ≡ get_or t q 0) → Falls to place by t → Falls to place by u
falls_same to place by t u same w =
    record {
      short = λ q l. rw (same q l) (w.short q l);
      enough = λ q l. rw (same q l) (w.enough q l);
    }

-- The whole: table t, table o with its entries moved and ones after them, and table u with its first sizes fallen.
module _ (to place new old : ℕ) (t o u : List ℕ) (long : length t ≡ sheet_room) (order : to ≤ new) (down : new ≤ old)
    (inside : old ≤ sheet_room) where
  abbrev back : ℕ
  back = old - new

  -- Before the entries that moved all is as it was.
  pub kept_before : Ones (sheet_room - (old - new)) sheet_room (gone t new (old - new)) o → (q : ℕ) → q < new → get_or o q 0 ≡ get_or t q 0
  kept_before w q l =
      w.before q (omega arith) ∙ gone_before t new back (omega arith) q l

  pub resized : Ones (sheet_room - (old - new)) sheet_room (gone t new (old - new)) o → Shrunk to place (old - new) o u → Resized to place new old t u
  resized w z =
      record {
        before = λ q l. z.before q l ∙ ap (fallen_size place back q) (kept_before w q (omega arith));
        between = λ q l m. z.after q l ∙ kept_before w q m;
        after = λ q l m. z.after q (omega arith) ∙ w.before q (omega arith) ∙ gone_after t new back (omega arith) q l (omega arith);
        end = λ q l m n. z.after q (omega arith) ∙ w.ones q (omega arith) n;
      }
