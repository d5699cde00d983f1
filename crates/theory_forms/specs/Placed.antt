-- A buffer whose first numbers were written: its start, its rest, and what is read off it; and lists compared number by number.
use Rattle.std.specs.Prelude.{List, [], ◌∷◌, true, ◌↔◌, ◌≡◌, refl, ℕ, ◌≤◌, ◌<◌, eqb, length, take, get_or}
use Rattle.std.proofs.Common.{append-nil, sym, ap₂, ◌∙◌, arith, eqb-true, eq-eqb}
use Rattle.std.proofs.Math.Path.{ap}
use Rattle.std.proofs.Math.ListN.{drop, length-append, length-drop, get_or-append}
use Rattle.std.proofs.Math.Seq.{take_at, drop_at, drop-length}
use Rattle.model.specs.Base.{placed, same_list}
use Rattle.theory_forms.specs.Logic.{true_false, and_split}

module _ (new old : List ℕ) {n : ℕ} (long : length new ≡ n) where
  pub placed_start : take n (placed new old) ≡ new
  unfolding placed
  placed_start = take_at new (drop (length new) old) n long

  pub placed_rest : drop n (placed new old) ≡ drop n old
  unfolding placed
  placed_rest = drop_at new (drop (length new) old) n long ∙ ap (λ k. drop k old) long

  pub placed_at : (v : ℕ) → v < n → get_or (placed new old) v 0 ≡ get_or new v 0
  unfolding placed
  placed_at v h = get_or-append new (drop (length new) old) 0 v (omega (arith, long))

  pub placed_length : n ≤ length old → length (placed new old) ≡ length old
  unfolding placed
  placed_length h = omega (arith, length-append new (drop (length new) old), length-drop (length new) old, long)

  -- An output that is filled to its end.
  pub placed_whole : length old ≡ n → placed new old ≡ new
  unfolding placed
  placed_whole e = rw (long, ← e, drop-length old) (append-nil new)

-- Two lists have the same numbers exactly if they are one.
pub same_list_is : (xs ys : List ℕ) → (same_list xs ys ≡ true) ↔ (xs ≡ ys)
unfolding same_list
same_list_is xs ys = (to xs ys, λ e. ap (same_list xs) (sym e) ∙ self xs)
  where
    to : (xs ys : List ℕ) → same_list xs ys ≡ true → xs ≡ ys
    to [] [] e = refl
    to [] (y ∷ ys) e = true_false (sym e)
    to (x ∷ xs) [] e = true_false (sym e)
    to (x ∷ xs) (y ∷ ys) e = let s = and_split (eqb x y) _ e in ap₂ ◌∷◌ (eqb-true x y s.0) (to xs ys s.1)

    self : (xs : List ℕ) → same_list xs xs ≡ true
    self [] = refl
    self (x ∷ xs) = rw (eq-eqb x x refl) (self xs)
