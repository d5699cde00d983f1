-- What is asked of the first tree of a run of numbers, test by test.
use Rattle.std.specs.Prelude as P
use Rattle.std.specs.Option.{is_some}
use mathlib.Core.Bool.{Bool, true, false}
use mathlib.Core.List.{List}
use mathlib.Core.Option.{none, some}
use mathlib.Core.Path.{◌≡◌, refl, sym, ap, ◌∙◌}
use Prim.Native.Nat.{ℕ, ◌≤◌, ◌<◌}
use borrow.Author.Tests.{le-leb, lt-leb, lt-ltb, le-ltb, eqb-true, eq-eqb, ne_eqb}
use lib.Dec.{eqb, leb}
use lib.ListN.{get_or, drop}
use Rattle.common_lists.specs.Given.{given}
use Rattle.model.specs.Base.{pick, maybe, only_if}
use Rattle.model.specs.Code.{kind, children}
use Rattle.theory_forms.specs.Logic.{true_false, none_some, some_inj, only_some, and_split}
use Rattle.theory_forms.specs.Scan.{is_literal}
use Rattle.theory_reading.specs.Spans.{span, child_at}
use Rattle.rule_factor.specs.Walks.{unit_place, among, unit_at, unit_of, shares_here}

-- What an answer tells of its test.
pub tells : (o : P.Option ℕ) (b : Bool) (x : ℕ) → given o ≡ only_if b x → is_some o ≡ b
unfolding only_if
tells P.None true x e = none_some e
tells P.None false x e = refl
tells (P.Some y) true x e = refl
tells (P.Some y) false x e = none_some (sym e)

pub met : (b : Bool) {o : P.Option ℕ} {x y : ℕ} → o ≡ P.Some y → given o ≡ only_if b x → (b ≡ true) × (y ≡ x)
met b {x = x} e f = let w = only_some b x (sym f ∙ ap given e) in (w.0, sym w.1)

-- Whether it shares a number.
module _ (a : ℕ) (l : List ℕ) where
  pub shares_literal : is_literal (get_or l 0 0) ≡ true → shares_here a l ≡ true
  unfolding shares_here
  shares_literal h = rw h

  pub shares_not : is_literal (get_or l 0 0) ≡ false → (kind (get_or l 0 0) ≡ 3 → ⊥) → shares_here a l ≡ false
  unfolding shares_here
  shares_not h k = rw (h, ne_eqb (kind (get_or l 0 0)) 3 k)

  pub shares_among :
      is_literal (get_or l 0 0) ≡ false →
      kind (get_or l 0 0) ≡ 3 →
      shares_here a l ≡ among a (children (get_or l 0 0)) (drop 1 l)
  unfolding shares_here
  shares_among h k = rw (h, eq-eqb (kind (get_or l 0 0)) 3 k)

-- The literal that is child j of a group, for the first time.
module _ (j : ℕ) (l : List ℕ) where
  pub none_past : children (get_or l 0 0) ≤ j → unit_at j l ≡ none
  unfolding unit_at pick
  none_past h = rw (le-leb (children (get_or l 0 0)) j h)

  pub unit_past : children (get_or l 0 0) ≤ j → unit_of j l ≡ 0
  unfolding unit_of maybe
  unit_past h = rw (none_past h)

  module _ (h : j < children (get_or l 0 0)) where
    pub none_inner : is_literal (get_or l (child_at j l) 0) ≡ false → unit_at j l ≡ none
    unfolding unit_at pick
    none_inner e = rw (lt-leb (children (get_or l 0 0)) j h, e)

    pub unit_inner : is_literal (get_or l (child_at j l) 0) ≡ false → unit_of j l ≡ 0
    unfolding unit_of maybe
    unit_inner e = rw (none_inner e)

    module _ (e : is_literal (get_or l (child_at j l) 0) ≡ true) where
      pub none_again : among (get_or l (child_at j l) 0) j (drop 1 l) ≡ true → unit_at j l ≡ none
      unfolding unit_at pick
      none_again k = rw (lt-leb (children (get_or l 0 0)) j h, e, k)

      pub unit_again : unit_place (get_or l (child_at j l) 0) j (drop 1 l) < span j (drop 1 l) → unit_of j l ≡ 0
      unfolding unit_of maybe among
      unit_again k = rw (none_again (lt-ltb (unit_place (get_or l (child_at j l) 0) j (drop 1 l)) (span j (drop 1 l)) k))

      pub some_new : among (get_or l (child_at j l) 0) j (drop 1 l) ≡ false → unit_at j l ≡ some (get_or l (child_at j l) 0)
      unfolding unit_at pick
      some_new k = rw (lt-leb (children (get_or l 0 0)) j h, e, k)

      pub unit_new : span j (drop 1 l) ≤ unit_place (get_or l (child_at j l) 0) j (drop 1 l) → unit_of j l ≡ get_or l (child_at j l) 0
      unfolding unit_of maybe among
      unit_new k = rw (some_new (le-ltb (unit_place (get_or l (child_at j l) 0) j (drop 1 l)) (span j (drop 1 l)) k))

-- What is found is a literal, and so not 0.
picked :
    (past literal again : Bool) {x y : ℕ} →
    pick past none (pick literal (pick again none (some x)) none) ≡ some y →
    (literal ≡ true) × (x ≡ y)
unfolding pick
picked true b c e = none_some e
picked false true true e = none_some e
picked false true false e = (refl, some_inj e)
picked false false c e = none_some e

literal_some : (x : ℕ) → is_literal x ≡ true → x ≡ 0 → ⊥
unfolding is_literal kind
literal_some x e z = true_false (sym e ∙ ap is_literal z)

module _ (j : ℕ) (l : List ℕ) where
  pub unit_as_none : none ≡ unit_at j l → unit_of j l ≡ 0
  unfolding unit_of maybe
  unit_as_none e = rw (sym e)

  pub unit_as_some : {x : ℕ} → some x ≡ unit_at j l → unit_of j l ≡ x
  unfolding unit_of maybe
  unit_as_some e = rw (sym e)

  pub unit_not_0 : {x : ℕ} → some x ≡ unit_at j l → unit_of j l ≡ 0 → ⊥
  unfolding unit_at
  unit_not_0 {x} e z =
      let y = get_or l (child_at j l) 0 in
      let w = picked (leb (children (get_or l 0 0)) j) (is_literal y) (among y j (drop 1 l)) (sym e) in
      literal_some y w.0 (w.1 ∙ sym (unit_as_some e) ∙ z)

-- A group that shares a number is a conjunction that has it among its children.
pub shares_group :
    (a : ℕ) (l : List ℕ) →
    shares_here a l ≡ true →
    is_literal (get_or l 0 0) ≡ false →
    (kind (get_or l 0 0) ≡ 3) × (among a (children (get_or l 0 0)) (drop 1 l) ≡ true)
unfolding shares_here
shares_group a l h e =
    let s = and_split (eqb (kind (get_or l 0 0)) 3) (among a (children (get_or l 0 0)) (drop 1 l)) (rw e at h) in
    (eqb-true (kind (get_or l 0 0)) 3 s.0, s.1)
