-- How far a text goes on with what a test holds for: the loops that pass over blanks, digits and the rest of a line.
use Rattle.std.specs.Prelude.{Bool, ◌≡◌, drop}
use Rattle.std.proofs.Math.Bool.{true, false}
use mathlib.Core.List.{List, [], ◌∷◌}
use Rattle.std.proofs.Math.Logic.{⊎_elim}
use Rattle.std.proofs.Common.{sym, ◌∙◌, drop_of_length-le}
use Rattle.std.proofs.Math.Path.{ap}
use Prim.Native.Nat.{ℕ, zero, suc, ◌+◌, ◌≤◌, ◌<◌}
use native.Mathlib.Omega.{arith}
use Rattle.std.proofs.Math.ListN.{length}
use Rattle.std.proofs.Math.Seq.{drop-cons}
use Rattle.model.specs.Base.{pick}
use Rattle.theory_forms.specs.Logic.{either}

-- The number of bytes from the start on at each of which the test holds, for what begins there.
unfoldable pub span : (List ℕ → Bool) → List ℕ → ℕ
span on [] = zero
span on (x ∷ b) = pick (on (x ∷ b)) (suc (span on b)) zero

module _ (on : List ℕ → Bool) where
  pub span_within : (b : List ℕ) → span on b ≤ length b
  unfolding span pick
  span_within [] = omega arith
  span_within (x ∷ b) = go (on (x ∷ b)) (span_within b)
    where
      go : (t : Bool) → span on b ≤ length b → pick t (suc (span on b)) zero ≤ suc (length b)
      go true h = omega arith
      go false h = omega arith

  module _ (l : List ℕ) (i : ℕ) where
    pub span_more : i < length l → on (drop i l) ≡ true → span on (drop i l) ≡ suc (span on (drop (suc i) l))
    unfolding span pick
    span_more h e = let c = drop-cons l i 0 h in ap (span on) c ∙ rw (sym (ap on c) ∙ e)

    pub span_stop : i < length l → on (drop i l) ≡ false → span on (drop i l) ≡ 0
    unfolding span pick
    span_stop h e = let c = drop-cons l i 0 h in ap (span on) c ∙ rw (sym (ap on c) ∙ e)

    pub span_end : length l ≤ i → span on (drop i l) ≡ 0
    unfolding span
    span_end h = ap (span on) (drop_of_length-le l h)

  -- Where it stops before the end, the test fails.
  pub span_fails : (b : List ℕ) → span on b < length b → on (drop (span on b) b) ≡ false
  unfolding span pick
  span_fails [] h = absurd (omega arith)
  span_fails (x ∷ b) h =
      ⊎_elim
      (λ e. let s : span on (x ∷ b) ≡ suc (span on b) = rw e in rw s (span_fails b (omega (arith, s))))
      (λ e. let s : span on (x ∷ b) ≡ 0 = rw e in rw s e)
      (either (on (x ∷ b)))

  -- A loop that has passed some of these bytes: how far they go is the same from where it is.
  abbrev pub Passed : List ℕ → ℕ → ℕ → Type 0
  Passed l at i = (i ≤ length l) × (i + span on (drop i l) ≡ at + span on (drop at l))

  module _ (l : List ℕ) (at i : ℕ) (p : Passed l at i) where
    pub passed_more : i < length l → on (drop i l) ≡ true → Passed l at (i + 1)
    passed_more h e =
        let next : i + 1 ≡ suc i = omega arith in (omega arith, rw next (omega (arith, p.1, span_more l i h e)))

    pub passed_stop : i < length l → on (drop i l) ≡ false → (i ≡ at + span on (drop at l)) × (i ≤ length l)
    passed_stop h e = (omega (arith, p.1, span_stop l i h e), p.0)

    pub passed_end : length l ≤ i → (i ≡ at + span on (drop at l)) × (i ≤ length l)
    passed_end h = (omega (arith, p.1, span_end l i h), p.0)
