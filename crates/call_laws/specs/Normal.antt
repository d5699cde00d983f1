-- Normal forms: where no rule applies, the sheet is the falsum sheet, or its units are exactly the derived literals.
use Rattle.std.proofs.Math.Bool.{true}
use mathlib.Core.List.Memᴰ
use mathlib.Core.List.{[], Memᴰ}
use Rattle.std.specs.Prelude.{◌⊎◌, ◌↔◌, ◌≡◌, refl, ℕ}
use Rattle.std.proofs.Common.{inl, inr, sym, ◌∙◌}
use Rattle.std.proofs.Math.Logic.{⊎_elim}
use Rattle.model.specs.Base.{all}
use Rattle.model.specs.Literal.{Literal, pos, neg, complement, same}
use Rattle.model.specs.Forest.{or, root, Forest, nil, node, size, has_unit}
use Rattle.model.specs.Code.{encode}
use Rattle.model.specs.Clauses.{Clause, unions, need, no_tree, one_tree_more, some_of, clauses, Derived, derived, Contradictory}
use Rattle.model.specs.Rules.{NoRule}
use Rattle.theory_forms.specs.Logic.{or_split}
use Rattle.theory_forms.specs.Lists.{all_from, any_from}
use Rattle.theory_forms.specs.Literals.{same_is}
use Rattle.theory_meaning.specs.Evaluation.{Set, some_inside, with_one, bridge}
use Rattle.theory_meaning.specs.Clauses.{unit_derived, all_but_one}
use Rattle.theory_forms.specs.Fine.{fine}
use Rattle.call_laws.specs.Irreducible.{Still, Irreducible, irreducible}
use Rattle.call_laws.specs.Standing.{unit_stands}
use Rattle.call_laws.specs.Still.{NoFalse, only_false, complement_absent}
use Rattle.call_laws.specs.Failing.{OnlyOne, root_fails}

module _ (n : ℕ) (k : Forest) (g : fine n k ≡ true) (h : Still root k) (w : Irreducible k) (u : NoFalse k) where
  -- The literals whose complements are units: none of them stands in the trees.
  refuted_by_units : Set
  refuted_by_units x = has_unit (complement x) k

  -- Where a clause lies inside a set of which only one literal may stand in the trees, that literal is a unit.
  forced_unit :
      (s : Set) (l : Literal) →
      OnlyOne s l k →
      (c : Clause) →
      Memᴰ c (clauses root k) →
      all s c ≡ true →
      has_unit l k ≡ true
  unfolding some_inside
  forced_unit s l o c m i = root_fails s l n k g h w u o (sym (bridge s root k) ∙ any_from (all s) (clauses root k) m i)

  -- A derived literal is a unit: its clause lies inside the literals that units refute and itself.
  derived_unit : {l : Literal} → Derived (clauses root k) l → has_unit l k ≡ true
  unfolding with_one refuted_by_units
  derived_unit {l} (derived c m q r) =
      let alone : OnlyOne (with_one refuted_by_units l) l k =
      λ x e p. ⊎_elim (λ z. absurd (complement_absent k h x z e)) (same_is x l) (or_split (refuted_by_units x) (same x l) p) in
      forced_unit (with_one refuted_by_units l) l alone c m ((all_but_one refuted_by_units l c).1 (λ x i d. derived_unit (r x i d)))

  -- A contradiction would make every literal a unit, one and its complement.
  consistent : Contradictory (clauses root k) → ⊥
  unfolding refuted_by_units complement
  consistent x =
      let inside = all_from refuted_by_units x.0 (λ y i. derived_unit (x.2 y i)) in
      let every : (l : Literal) → has_unit l k ≡ true =
      λ l. forced_unit refuted_by_units l (λ y e z. absurd (complement_absent k h y z e)) x.0 x.1 inside in
      complement_absent k h (pos 0) (every (neg 0)) (unit_stands (pos 0) k (every (pos 0)))

-- The falsum sheet has one clause, the empty one, so it is contradictory.
pub falsum_contradictory : Contradictory (clauses root (node or nil nil))
unfolding clauses need some_of one_tree_more no_tree unions size
falsum_contradictory = ([], Memᴰ.head refl, λ x m. absurd (Memᴰ.not-nil m))

-- Where no rule applies, the sheet is the falsum sheet; or it is not contradictory, and its units are the derived literals.
pub normal_form :
    (n : ℕ) (k : Forest) →
    fine n k ≡ true →
    NoRule (encode (node root k nil)) →
    (k ≡ node or nil nil) ⊎ ((Contradictory (clauses root k) → ⊥) × ((l : Literal) → (has_unit l k ≡ true) ↔ Derived (clauses root k) l))
normal_form n k g r =
    let w = irreducible (node root k nil) r in
    ⊎_elim inl (λ u. inr (consistent n k g w.0 w.1 u, λ l. (unit_derived l k, derived_unit n k g w.0 w.1 u)))
    (only_false k w.0)
