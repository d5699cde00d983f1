-- The lesser of two numbers, and the greater: how it stands to both, and that it is one of them.
use mathlib.Core.Logic.{◌⊎◌, inl, inr, ⊎_elim}
use mathlib.Core.Path.{◌≡◌}
use Prim.Native.Nat.{ℕ, ◌≤◌, min, max}
use native.Mathlib.Omega.{arith}
use borrow.Author.Tests.{leb-true, leb-false}
use lib.Dec.{leb}
use Rattle.theory_forms.specs.Logic.{either}

module _ (a b : ℕ) {m : ℕ} where
  pub lesser : m ≡ min a b → (m ≤ a) × (m ≤ b) × ((m ≡ a) ⊎ (m ≡ b))
  lesser e =
      let one : (m ≡ a) ⊎ (m ≡ b) =
      ⊎_elim (λ h. inl (omega (arith, leb-true a b h))) (λ h. inr (omega (arith, leb-false a b h))) (either (leb a b)) in
      (omega arith, omega arith, one)

  pub greater : m ≡ max a b → (a ≤ m) × (b ≤ m) × ((m ≡ a) ⊎ (m ≡ b))
  greater e =
      let one : (m ≡ a) ⊎ (m ≡ b) =
      ⊎_elim (λ h. inr (omega (arith, leb-true a b h))) (λ h. inl (omega (arith, leb-false a b h))) (either (leb a b)) in
      (omega arith, omega arith, one)
