use mathlib.Core.Bool.{Bool, true, false, ◌&&◌}
use mathlib.Core.List.{List}
use mathlib.Core.Path.{◌≡◌, refl, sym, ap, ◌∙◌}
use Prim.Native.Nat.{ℕ, ◌+◌, ◌<◌}
use native.Mathlib.Omega.{arith}
use borrow.Author.Tests.{eqb-true, eqb-false, ltb-true, ltb-false, lt-ltb, le-leb, lt-leb, ne_eqb}
use lib.Dec.{eqb, ltb}
use lib.ListN.{length, get_or, set, replicate, length-set, get_or-replicate}
use lib.Seq.{ext_get_or, get_or-set_same, get_or-set_other}
use Rattle.model.specs.Book.{between, character}
use Rattle.theory_forms.specs.Logic.{same_test}
use Rattle.book_codes.specs.Characters.{character_table}
use Rattle.book_codes.proofs.Listing.{looked_up, table_length}
use Rattle.book_codes.proofs.character_table.Invariants.{Listed}
use Rattle.book_codes.proofs.character_table.Goals as goal

none_below : (v : ℕ) → v < 45 → character v ≡ false
unfolding character between
none_below v h =
    rw (lt-leb 65 v (omega arith), lt-leb 97 v (omega arith), lt-leb 48 v (omega arith), ne_eqb v 45 (λ e. omega arith))

none_above : (v : ℕ) → 122 < v → character v ≡ false
unfolding character between
none_above v h =
    rw (
      le-leb 65 v (omega arith),
      lt-leb v 90 (omega arith),
      le-leb 97 v (omega arith),
      lt-leb v 122 h,
      le-leb 48 v (omega arith),
      lt-leb v 57 (omega arith),
      ne_eqb v 45 (λ e. omega arith),
    )

begun : Listed (replicate 256 false) 45
begun v l = get_or-replicate 256 v false false l ∙ go (ltb v 45) refl
  where
    go : (b : Bool) → ltb v 45 ≡ b → false ≡ (b && character v)
    go true e = sym (none_below v (ltb-true v 45 e))
    go false e = refl

-- Another byte is below x + 1 where it is below x.
other_byte : (v x : ℕ) → (v ≡ x → ⊥) → ltb v x ≡ ltb v (x + 1)
other_byte v x d =
    same_test (ltb v x) (ltb v (x + 1))
    (λ e. lt-ltb v (x + 1) (omega (arith, ltb-true v x e)))
    (λ e. lt-ltb v x (below (ltb-true v (x + 1) e)))
  where
    below : v < x + 1 → v < x
    below l = omega arith

more :
    (table : List Bool) (x : ℕ) {m : Bool} →
    x < length table →
    m ≡ character x →
    Listed table x →
    Listed (set table x m) (x + 1)
more table x {m} h p so v l = go (eqb v x) refl
  where
    go : (b : Bool) → eqb v x ≡ b → get_or (set table x m) v false ≡ (ltb v (x + 1) && character v)
    go true e =
        let q = eqb-true v x e in
        rw (q, get_or-set_same table x m false h, lt-ltb x (x + 1) (omega arith)) p
    go false e =
        let d = eqb-false v x e in
        get_or-set_other table x v m false (λ q. d q) ∙ so v l ∙ ap (λ b. b && character v) (other_byte v x d)

-- All of them.
whole : (table : List Bool) → length table ≡ 256 → Listed table 123 → table ≡ character_table
whole table long so =
    ext_get_or false table _ (long ∙ sym table_length) (λ v l.
    so v (omega arith) ∙ go v (ltb v 123) refl ∙ sym (looked_up v (omega arith)))
  where
    go : (v : ℕ) (b : Bool) → ltb v 123 ≡ b → (b && character v) ≡ character v
    go v true e = refl
    go v false e = sym (none_above v (omega (arith, ltb-false v 123 e)))

pub loop-x-init : goal.loop-x-init
loop-x-init c = (refl, begun)

pub loop-x-preserved : goal.loop-x-preserved
loop-x-preserved c =
    let l = c.loop-x in
    let w = l.invariant in (
      length-set l.table c.from.result c.is_character.result ∙ w.0,
      rw c.from.ensures (more l.table l.x (omega (arith, w.0)) c.is_character.ensures w.1),
    )

pub returns : goal.returns
returns c =
    let l = c.loop-x in
    let e : l.x ≡ 123 = omega arith in
    whole l.table l.invariant.0 (rw e at l.invariant.1)
