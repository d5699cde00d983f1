-- Laws of the counts of the literals of a list.
use mathlib.Core.Bool.{Bool, true, false, ◌&&◌, ◌||◌, and-false, or-true, or-false}
use mathlib.Core.List.{List, [], ◌∷◌, ◌++◌}
use mathlib.Core.Logic.{inl, ⊎_elim}
use mathlib.Core.Path.{◌≡◌, refl, ap}
use Prim.Native.Nat.{ℕ, ◌+◌, ◌≤◌, ◌<◌}
use native.Mathlib.Omega.{arith}
use borrow.Author.Tests.{eqb-true, eqb-false, eq-eqb, ne_eqb}
use lib.Dec.{eqb}
use lib.ListN.{length, get_or, set}
use lib.Seq.{get_or-set_same, get_or-set_other}
use Rattle.model.specs.Base.{pick}
use Rattle.theory_forms.specs.Logic.{either, pick_keeps}
use Rattle.report_breaking.specs.Stacks.{among, raised, BlankBut}
use Rattle.report_breaking.proofs.Among.{among_same, among_other, among_last}

module _ (n : ℕ) (y : ℕ) (ls held : List ℕ) (inside : y < length held) where
  -- One literal at the number is raised; one that is not stays.
  pub raised_here : get_or held y 0 ≡ n → (x : ℕ) → raised n (y ∷ ls) held x ≡ raised n ls (set held y (n + 1)) x
  unfolding raised pick
  raised_here e x = ⊎_elim
      (λ q. rw (eqb-true x y q) at_it)
      (λ q. let d = eqb-false x y q in rw (among_other x y ls d, get_or-set_other held y x (n + 1) 0 d))
      (either (eqb x y))
    where
      at_it : raised n (y ∷ ls) held y ≡ raised n ls (set held y (n + 1)) y
      at_it = rw (
        among_same y y ls refl,
        get_or-set_same held y (n + 1) 0 inside,
        eq-eqb (get_or held y 0) n e,
        ne_eqb (n + 1) n (λ q. omega arith),
        and-false (among y ls),
      )

  pub raised_none : (get_or held y 0 ≡ n → ⊥) → (x : ℕ) → raised n (y ∷ ls) held x ≡ raised n ls held x
  unfolding raised pick
  raised_none d x = ⊎_elim
      (λ q. rw (eqb-true x y q, ne_eqb (get_or held y 0) n d, and-false (among y ls), and-false (among y (y ∷ ls))))
      (λ q. rw (among_other x y ls (eqb-false x y q)))
      (either (eqb x y))

pub raised_end : (n : ℕ) (held : List ℕ) (x : ℕ) → raised n [] held x ≡ get_or held x 0
unfolding raised pick among
raised_end n held x = refl

-- A count that was not above the number is now at the next one where the list has the literal and the count was at the number.
module _ (n : ℕ) (ls held : List ℕ) (x : ℕ) where
  pub raised_at : get_or held x 0 ≤ n → eqb (raised n ls held x) (n + 1) ≡ (among x ls && eqb (get_or held x 0) n)
  unfolding raised pick
  raised_at h = go (among x ls && eqb (get_or held x 0) n)
    where
      go : (b : Bool) → eqb (pick b (n + 1) (get_or held x 0)) (n + 1) ≡ b
      go true = eq-eqb (n + 1) (n + 1) refl
      go false = ne_eqb (get_or held x 0) (n + 1) (λ e. omega arith)

  pub raised_most : get_or held x 0 ≤ n → raised n ls held x ≤ n + 1
  unfolding raised
  raised_most h = pick_keeps (λ r. r ≤ n + 1) (among x ls && eqb (get_or held x 0) n) (omega arith) (omega arith)

  pub raised_other : among x ls ≡ false → raised n ls held x ≡ get_or held x 0
  unfolding raised pick
  raised_other e = rw e

-- What is kept so far, and what is left of which the counts are at the number: one literal more that is kept, and one that is
-- not.
module _ (n : ℕ) (some : 1 ≤ n) (y : ℕ) (kept ls held : List ℕ) (inside : y < length held) where
  pub kept_here : get_or held y 0 ≡ n → (x : ℕ) →
      (among x (kept ++ (y ∷ [])) || (among x ls && eqb (get_or (set held y 0) x 0) n))
      ≡ (among x kept || (among x (y ∷ ls) && eqb (get_or held x 0) n))
  kept_here e x = ⊎_elim
      (λ q. rw (eqb-true x y q) at_it)
      (λ q. let d = eqb-false x y q in rw (among_last x y kept, q, or-false (among x kept), among_other x y ls d, get_or-set_other held y x 0 0 d))
      (either (eqb x y))
    where
      at_it : (among y (kept ++ (y ∷ [])) || (among y ls && eqb (get_or (set held y 0) y 0) n))
          ≡ (among y kept || (among y (y ∷ ls) && eqb (get_or held y 0) n))
      at_it = rw (
        among_last y y kept,
        eq-eqb y y refl,
        or-true (among y kept),
        among_same y y ls refl,
        eq-eqb (get_or held y 0) n e,
        or-true (among y kept),
      )

  pub kept_none : (get_or held y 0 ≡ n → ⊥) → (x : ℕ) →
      (among x kept || (among x ls && eqb (get_or (set held y 0) x 0) n)) ≡ (among x kept || (among x (y ∷ ls) && eqb (get_or held x 0) n))
  kept_none d x = ⊎_elim
      (λ q. rw (eqb-true x y q) (ap (λ b. among y kept || b) at_it))
      (λ q. let w = eqb-false x y q in rw (among_other x y ls w, get_or-set_other held y x 0 0 w))
      (either (eqb x y))
    where
      at_it : (among y ls && eqb (get_or (set held y 0) y 0) n) ≡ (among y (y ∷ ls) && eqb (get_or held y 0) n)
      at_it = rw (
        get_or-set_same held y 0 0 inside,
        ne_eqb 0 n (λ q. omega arith),
        and-false (among y ls),
        ne_eqb (get_or held y 0) n d,
        and-false (among y (y ∷ ls)),
      )

  -- A count is set back.
  pub blank_more : BlankBut (y ∷ ls) held → BlankBut ls (set held y 0)
  blank_more h x = ⊎_elim
      (λ q. inl (rw (eqb-true x y q) (get_or-set_same held y 0 0 inside)))
      (λ q. let d = eqb-false x y q in rw (get_or-set_other held y x 0 0 d, ← among_other x y ls d) (h x))
      (either (eqb x y))
