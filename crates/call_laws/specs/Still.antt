-- What the children of a still node are like: otherwise a rule would turn it.
use Rattle.std.proofs.Math.Bool.{Bool, true, false}
use Rattle.std.specs.Prelude.{◌&&◌, ◌||◌, ◌⊎◌, ◌≡◌, ltb}
use Rattle.std.proofs.Math.Logic.{inl, inr, ⊎_elim}
use Rattle.std.proofs.Math.Option.{none, some}
use Rattle.std.proofs.Math.Path.{refl, sym, ap}
use Rattle.std.proofs.Common.{◌∙◌}
use Prim.Native.Nat.{ℕ, zero, suc, ◌+◌, ◌≤◌, ◌<◌}
use native.Mathlib.Omega.{arith}
use borrow.Author.Tests.{leb-true, leb-false, le-leb, ltb-false, eqb-false, eq-eqb, ne_eqb}
use Rattle.std.proofs.Math.Dec.{eqb, leb}
use Rattle.model.specs.Base.{only_if, then}
use Rattle.model.specs.Literal.{Literal, complement, option, same}
use Rattle.model.specs.Forest.{Conn, and, or, root, at_least, same_conn, Forest, nil, lit, node, size, first, after, literal_at}
use Rattle.model.specs.Forest.{conjunction_at, constant_at, has_unit, mentions}
use Rattle.model.specs.Code.{conn_kind}
use Rattle.model.specs.Rules.{neutral, deciding, shares, groups, absorb, omit, unwrap, spread, lift, factor, absorbs, omits}
use Rattle.model.specs.Rules.{unwraps, spreads, lifts, factors, drop_member, decided, decide, renamed, rename, drops, decides, renames}
use Rattle.model.specs.Rules.{change, Row, row, table, row_of, turn}
use Rattle.theory_forms.specs.Logic.{true_false, none_some, and_join, or_split, or_neither, either, fails_if, only_none}
use Rattle.theory_forms.specs.Logic.{pick_none, first_none}
use Rattle.theory_forms.specs.Literals.{same_is, complement_other, option_complement}
use Rattle.theory_forms.specs.Forests.{size-⊕, cut_at, size_after, size_zero, literal_here, conjunction_here, constant_here}
use Rattle.theory_forms.specs.Forests.{grouping, groups_size, mentions_some, past_end}
use Rattle.call_laws.specs.Irreducible.{Still}
use Rattle.call_laws.specs.Standing.{stands, stands-⊕, stands_mentions, unit_index, group_index}

-- None of the trees is false.
abbrev pub NoFalse : Forest → Type 0
NoFalse f = (i : ℕ) → constant_at or (after i f) ≡ false

module _ (k : Forest) where
  -- A rule whose row fits the node makes nothing of it.
  refused :
      (r : ℕ) (w : Row) →
      row_of r ≡ some w →
      (c : Conn) →
      w.kind ≡ conn_kind c →
      Still c k →
      w.fewest ≤ size k →
      (i j : ℕ) →
      change w.family c i j k ≡ none
  unfolding then only_if turn
  refused r w e c o h n i j =
      let fits : (eqb w.kind (conn_kind c) && leb w.fewest (size k)) ≡ true =
      and_join (eq-eqb w.kind (conn_kind c) o) (le-leb w.fewest (size k) n) in
      let turned : turn w c i j k ≡ none = sym (rw e) ∙ h r i j in
      sym (rw fits) ∙ turned

  -- At least so many of still members: two or more, and fewer than all. Rules 16 and 17.
  pub still_asked : (a : ℕ) → Still (at_least a) k → (2 ≤ a) × (a < size k)
  unfolding row_of table change decide decided rename renamed then only_if conn_kind
  still_asked a h =
      let x = pick_none (eqb a 0) _ _ (refused 16 (row 6 0 decides) refl (at_least a) refl h (omega arith) 0 0) in
      let y = pick_none (eqb a 1) _ _ (refused 17 (row 6 0 renames) refl (at_least a) refl h (omega arith) 0 0) in
      let low = eqb-false a 0 x.0 in
      let next = eqb-false a 1 y.0 in
      let high = ltb-false (size k) a (only_none (ltb (size k) a) _ x.1) in
      let other = eqb-false a (size k) (only_none (eqb a (size k)) _ y.1) in
      (omega arith, omega arith)

  -- Where there are two children or more, none of them is false: rules 1, 5, 3 and 15.
  pub no_false :
      (c : Conn) →
      Still c k →
      2 ≤ size k →
      NoFalse k
  unfolding row_of table change absorb omit drop_member deciding neutral conn_kind
  no_false and h n i = only_none _ _ (refused 1 (row 3 2 absorbs) refl and refl h n i 0)
  no_false or h n i = only_none _ _ (refused 5 (row 4 1 omits) refl or refl h (omega arith) i 0)
  no_false root h n i = only_none _ _ (refused 3 (row 5 2 absorbs) refl root refl h n i 0)
  no_false (at_least a) h n i =
      only_none _ _ (first_none _ _ (refused 15 (row 6 1 drops) refl (at_least a) refl h (omega arith) i 0)).0

  -- At the root no child is false, or false is the only child.
  pub only_false : Still root k → (k ≡ node or nil nil) ⊎ NoFalse k
  unfolding after constant_at
  only_false h = go (either (leb 2 (size k))) (either (constant_at or k))
    where
      go :
          (leb 2 (size k) ≡ true) ⊎ (leb 2 (size k) ≡ false) →
          (constant_at or k ≡ true) ⊎ (constant_at or k ≡ false) →
          (k ≡ node or nil nil) ⊎ NoFalse k
      go (inl n) q = inr (no_false root h (leb-true 2 (size k) n))
      go (inr n) (inl q) = inl (constant_here or 0 k q ∙ ap (node or nil) (past_end 1 k (omega (arith, leb-false 2 (size k) n))))
      go (inr n) (inr q) =
          inr (λ i. elim i as (λ n. constant_at or (after n k) ≡ false) [ zero ↦ q | suc j ↦ ap (constant_at or) (past_end (suc j) k (omega (arith, leb-false 2 (size k) n))) ])

  -- A node below the root has no child or at least two: rules 7 and 8; of kind 6 by what is asked.
  pub empty_or_two :
      (c : Conn) →
      same_conn root c ≡ false →
      Still c k →
      (k ≡ nil) ⊎ (2 ≤ size k)
  unfolding row_of table same_conn change unwrap conn_kind
  empty_or_two c e h = go (either (leb 1 (size k))) (single c e h)
    where
      single : (d : Conn) → same_conn root d ≡ false → Still d k → 1 ≤ size k → eqb (size k) 1 ≡ false
      single and e h n = only_none _ _ (refused 7 (row 3 1 unwraps) refl and refl h n 0 0)
      single or e h n = only_none _ _ (refused 8 (row 4 1 unwraps) refl or refl h n 0 0)
      single root e h n = true_false e
      single (at_least a) e h n = let w = still_asked a h in ne_eqb (size k) 1 (λ q. omega arith)

      go : (leb 1 (size k) ≡ true) ⊎ (leb 1 (size k) ≡ false) → (1 ≤ size k → eqb (size k) 1 ≡ false) → (k ≡ nil) ⊎ (2 ≤ size k)
      go (inl p) s = let n = leb-true 1 (size k) p in inr (omega (arith, eqb-false (size k) 1 (s n)))
      go (inr p) s = inl (size_zero k (omega (arith, leb-false 1 (size k) p)))

  -- In a disjunction and at the root, no other child mentions the option of a child that is a literal: rules 9 and 10.
  pub literal_alone :
      (c : Conn) →
      grouping c ≡ true →
      same_conn and c ≡ false →
      Still c k →
      (i : ℕ) {l : Literal} →
      literal_at (after i k) ≡ some l →
      (mentions (option l) (first i k) ≡ false) × (mentions (option l) (after (suc i) k) ≡ false)
  unfolding row_of table grouping same_conn change spread size then conn_kind
  literal_alone c o e h i {l} p =
      or_neither (mentions (option l) (first i k)) (mentions (option l) (after (suc i) k))
      (fails_if elsewhere (λ m. true_false (sym m ∙ only_none _ _ (rw p at (go c o e h (two m))))))
    where
      elsewhere : Bool
      elsewhere = mentions (option l) (first i k) || mentions (option l) (after (suc i) k)

      two : elsewhere ≡ true → 2 ≤ size k
      two m =
          let whole : size k ≡ size (first i k) + suc (size (after (suc i) k)) =
          ap size (sym (cut_at i k _ (literal_here i k p))) ∙ size-⊕ (first i k) (lit l (after (suc i) k)) in
          ⊎_elim
          (λ q. omega (arith, mentions_some (option l) (first i k) q))
          (λ q. omega (arith, mentions_some (option l) (after (suc i) k) q))
          (or_split (mentions (option l) (first i k)) _ m)

      go : (d : Conn) → grouping d ≡ true → same_conn and d ≡ false → Still d k → 2 ≤ size k → change spreads d i 0 k ≡ none
      go and o e h n = true_false e
      go or o e h n = refused 9 (row 4 2 spreads) refl or refl h n i 0
      go root o e h n = refused 10 (row 5 2 spreads) refl root refl h n i 0
      go (at_least a) o e h n = true_false (sym o)

  -- In a conjunction and at the root, no child that is a conjunction has a literal among its children: rules 11 and 12.
  pub nothing_to_lift :
      (c : Conn) →
      grouping c ≡ true →
      same_conn or c ≡ false →
      Still c k →
      (l : Literal) (i : ℕ) (m : Forest) →
      conjunction_at (after i k) ≡ some m →
      has_unit l m ≡ false
  unfolding row_of table grouping same_conn change lift size then conn_kind
  nothing_to_lift c o e h l i m p =
      fails_if (has_unit l m) (λ u. let w = unit_index l m u in none_some (sym (rw (p, w.1) at (go c o e h w.0))))
    where
      one : 1 ≤ size k
      one = let here = ap size (conjunction_here i k p) in omega (arith, size_after i k)

      go : (d : Conn) → grouping d ≡ true → same_conn or d ≡ false → Still d k → (j : ℕ) → change lifts d i j k ≡ none
      go and o e h j = refused 11 (row 3 1 lifts) refl and refl h one i j
      go or o e h j = true_false e
      go root o e h j = refused 12 (row 5 1 lifts) refl root refl h one i j
      go (at_least a) o e h j = true_false (sym o)

  -- In a disjunction with two groups, these are not all conjunctions that have one literal in common: rule 14.
  pub nothing_to_factor :
      Still or k →
      (l : Literal) →
      shares l k ≡ true →
      2 ≤ groups k →
      ⊥
  unfolding row_of table change factor then only_if conn_kind
  nothing_to_factor h l e n =
      let g = group_index l k e (omega arith) in
      let u = unit_index l g.1 g.4 in
      let kept : change factors or g.0 u.0 k ≡ none =
      refused 14 (row 4 2 factors) refl or refl h (omega (arith, groups_size k)) g.0 u.0 in
      none_some (sym (rw (g.2, u.1, g.3, u.2, e, le-leb 2 (groups k) n) at kept))

  -- At the root, the complement of a unit stands nowhere.
  pub complement_absent :
      Still root k →
      (l : Literal) →
      has_unit (complement l) k ≡ true →
      stands l k ≡ true →
      ⊥
  unfolding grouping same_conn stands conn_kind
  complement_absent h l u e =
      let i = unit_index (complement l) k u in
      let alone = literal_alone root refl refl h i.0 i.1 in
      let whole = sym (stands-⊕ l (first i.0 k) _) ∙ ap (stands l) (cut_at i.0 k _ (literal_here i.0 k i.1)) ∙ e in
      ⊎_elim
      (unseen (first i.0 k) alone.0)
      (λ q.
      ⊎_elim (λ p. complement_other l (sym (same_is l (complement l) p))) (unseen (after (suc i.0) k) alone.1)
      (or_split (same l (complement l)) _ q))
      (or_split (stands l (first i.0 k)) _ whole)
    where
      unseen : (f : Forest) → mentions (option (complement l)) f ≡ false → stands l f ≡ true → ⊥
      unseen f p q = true_false (sym (stands_mentions l f q) ∙ ap (λ v. mentions v f) (sym (option_complement l)) ∙ p)
