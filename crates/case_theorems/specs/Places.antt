-- Tests by what they say: one of two; over a list, by its places.
use Rattle.std.specs.Prelude.{Bool, ◌||◌, ◌⊎◌, ◌↔◌, ◌≡◌, ℕ, zero, suc, ◌<◌, get_or}
use Rattle.std.proofs.Math.Bool.{true}
use mathlib.Core.List.{List, [], ◌∷◌}
use Rattle.std.proofs.Common.{inl, inr, sym}
use Rattle.std.proofs.Math.Logic.{⊎_elim}
use Rattle.std.proofs.Math.Path.{refl}
use native.Mathlib.Omega.{arith}
use Rattle.std.proofs.Math.ListN.{length}
use Rattle.model.specs.Base.{all, any}
use Rattle.theory_forms.specs.Logic.{true_false, and_join, or_split, or_left, or_right}
use Rattle.theory_forms.specs.Lists.{all_index}

pub or_exactly :
    {A B : Type 0} (a b : Bool) →
    (a ≡ true) ↔ A →
    (b ≡ true) ↔ B →
    ((a || b) ≡ true) ↔ (A ⊎ B)
or_exactly a b f g = (
  λ e. ⊎_elim (λ p. inl (f.0 p)) (λ q. inr (g.0 q)) (or_split a b e),
  ⊎_elim (λ x. or_left b (f.1 x)) (λ y. or_right a (g.1 y)),
)

module _ {A : Type 0} (p : A → Bool) (d : A) where
  -- A place of the list passes the test.
  abbrev pub Somewhere : List A → Type 0
  Somewhere xs = (i : ℕ) × (i < length xs) × (p (get_or xs i d) ≡ true)

  pub any_place : (xs : List A) → (any p xs ≡ true) ↔ Somewhere xs
  unfolding any
  any_place xs = (to xs, λ w. from xs w.0 w.1 w.2)
    where
      to : (xs : List A) → any p xs ≡ true → Somewhere xs
      to [] e = true_false (sym e)
      to (x ∷ xs) e =
          let later = to xs in
          ⊎_elim
          (λ here. (0, omega arith, here))
          (λ rest. let w = later rest in (suc w.0, omega (arith, w.1), w.2))
          (or_split (p x) (any p xs) e)

      from : (xs : List A) (i : ℕ) → i < length xs → p (get_or xs i d) ≡ true → any p xs ≡ true
      from [] i h e = absurd (omega arith)
      from (x ∷ xs) zero h e = or_left (any p xs) e
      from (x ∷ xs) (suc i) h e = or_right (p x) (from xs i (omega arith) e)

  pub all_place : (xs : List A) → (all p xs ≡ true) ↔ ((i : ℕ) → i < length xs → p (get_or xs i d) ≡ true)
  unfolding all
  all_place xs = (λ e i h. all_index p xs i d e h, from xs)
    where
      from : (xs : List A) → ((i : ℕ) → i < length xs → p (get_or xs i d) ≡ true) → all p xs ≡ true
      from [] h = refl
      from (x ∷ xs) h = and_join (h 0 (omega arith)) (from xs (λ i l. h (suc i) (omega arith)))

-- What holds of a number, and of the numbers after it up to a place, holds up to the place after that.
pub one_more :
    (P : ℕ → Type 0) (x : ℕ) (xs : List ℕ) (n : ℕ) →
    P x →
    ((i : ℕ) → i < n → P (get_or xs i 0)) →
    (i : ℕ) →
    i < suc n →
    P (get_or (x ∷ xs) i 0)
one_more P x xs n here later zero h = here
one_more P x xs n here later (suc i) h = later i (omega arith)
