-- What holds of every number from one up to another.
use Rattle.std.proofs.Common.{⊎_elim, subst, arith, ltb-true, ltb-false}
use Rattle.std.specs.Prelude.{◌≡◌, ℕ, ◌+◌, ◌≤◌, ◌<◌, ltb}
use Rattle.theory_forms.specs.Logic.{either}

-- So many entries of a table are looked at together.
abbrev pub block : ℕ
block = 32

abbrev pub Throughout : (ℕ → Type 0) → ℕ → ℕ → Type 0
Throughout P from to = (q : ℕ) → from ≤ q → q < to → P q

-- One number more, and two ranges one after the other.
pub range_more : (P : ℕ → Type 0) {from : ℕ} (to : ℕ) → Throughout P from to → P to → Throughout P from (to + 1)
range_more P to h here q a b =
    ⊎_elim
    (λ e. h q a (ltb-true q to e))
    (λ e. let same : to ≡ q = omega (arith, ltb-false q to e) in subst P same here)
    (either (ltb q to))

pub range_join : (P : ℕ → Type 0) {from : ℕ} (mid : ℕ) {to : ℕ} → Throughout P from mid → Throughout P mid to → Throughout P from to
range_join P mid h g q a b = ⊎_elim (λ e. h q a (ltb-true q mid e)) (λ e. g q (ltb-false q mid e) b) (either (ltb q mid))
