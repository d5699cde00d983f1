use mathlib.Core.Bool.{Bool, true, ◌&&◌, and-true, and_assoc}
use mathlib.Core.List.{List}
use mathlib.Core.Path.{◌≡◌, sym, ◌∙◌}
use Prim.Native.Nat.{ℕ, ◌+◌, ◌≤◌, ◌<◌}
use native.Mathlib.Numerals.{add-one}
use native.Mathlib.Omega.{arith}
use borrow.Author.Tests.{eq-eqb, eqb-true}
use Rattle.theory_forms.specs.Logic.{same_test}
use lib.Dec.{eqb}
use lib.ListN.{length, get_or, drop, drop_of_length-le}
use lib.Seq.{drop-cons}
use Rattle.model.specs.Base.{all}
use Rattle.sheet_check.proofs.is_clear.Goals as goal

-- All numbers from a place on are zero; by the first of them, and where none is left.
abbrev clear_from : ℕ → List ℕ → Bool
clear_from i s = all (eqb 0) (drop i s)

zero_test : (x : ℕ) → eqb 0 x ≡ eqb x 0
zero_test x = same_test (eqb 0 x) (eqb x 0) (λ e. eq-eqb x 0 (sym (eqb-true 0 x e))) (λ e. eq-eqb 0 x (sym (eqb-true x 0 e)))

module _ (i : ℕ) (s : List ℕ) where
  clear_more : i < length s → clear_from i s ≡ (eqb 0 (get_or s i 0) && clear_from (i + 1) s)
  unfolding all
  clear_more h = rw (drop-cons s i 0, add-one)

  clear_end : length s ≤ i → clear_from i s ≡ true
  unfolding all
  clear_end h = rw (drop_of_length-le s h)

pub loop-x-preserved : goal.loop-x-preserved
loop-x-preserved c =
    let s = c.args.s.now in
    let i = c.loop-x.x-index in
    c.loop-x.invariant
    ∙ rw (clear_more i s c.loop-x-test.true, zero_test (get_or s i 0)) (sym (and_assoc c.loop-x.clear (eqb (get_or s i 0) 0) (clear_from (i + 1) s)))

pub returns : goal.returns
returns c = sym (c.loop-x.invariant ∙ rw (clear_end c.loop-x.x-index c.args.s.now (omega arith), and-true))
