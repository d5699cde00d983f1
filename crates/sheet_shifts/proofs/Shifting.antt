-- The numbers before the first zero, counted.
use mathlib.Core.List.{List, [], ◌∷◌}
use mathlib.Core.Path.{◌≡◌, refl, ◌∙◌}
use Prim.Native.Nat.{ℕ, suc, ◌+◌, ◌<◌}
use native.Mathlib.Nat.{add-zero}
use native.Mathlib.Numerals.{add-one}
use lib.ListN.{length, get_or, drop}
use lib.Seq.{get_or-drop, drop-cons}
use borrow.Author.Tests.{eq-eqb, ne_eqb}
use Rattle.model.specs.Base.{pick}
use Rattle.model.specs.Book.{characters}
use Rattle.theory_reading.specs.Stretches.{live}

no_live : (l : List ℕ) → get_or l 0 0 ≡ 0 → length (live l) ≡ 0
unfolding characters pick
no_live [] e = refl
no_live (x ∷ l) e = rw (eq-eqb x 0 e)

-- At a zero, and past the end, no number is left to count.
pub live_over : (l : List ℕ) (i : ℕ) → get_or l i 0 ≡ 0 → length (live (drop i l)) ≡ 0
live_over l i e = no_live (drop i l) (get_or-drop i l 0 0 ∙ rw (add-zero i) e)

pub live_more : (l : List ℕ) (i : ℕ) → i < length l → (get_or l i 0 ≡ 0 → ⊥) → length (live (drop i l)) ≡ suc (length (live (drop (i + 1) l)))
unfolding characters pick
live_more l i h n = rw (drop-cons l i 0, ne_eqb (get_or l i 0) 0 n, add-one)
