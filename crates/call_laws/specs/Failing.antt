-- Evaluation where no rule applies: under a set of which at most one literal stands in the trees, the root fails only if that
-- literal is a unit.
use Rattle.std.proofs.Math.Bool.{true, false, and-true}
use Rattle.std.specs.Prelude.{◌&&◌, ◌||◌, not, ◌⊎◌, ◌≡◌, ltb, length}
use Rattle.std.proofs.Common.{inl, inr, sym, ◌∙◌}
use Rattle.std.proofs.Math.Logic.{⊎_elim}
use Rattle.std.proofs.Math.Option.{some}
use Rattle.std.proofs.Math.Path.{refl, ap}
use Prim.{Unit, tt}
use Prim.Native.Nat.{ℕ, suc, ◌-◌, ◌≤◌}
use native.Mathlib.Omega.{arith}
use borrow.Author.Tests.{leb-true, eqb-true, eq-eqb, ne_eqb, not-true}
use Rattle.std.proofs.Math.Dec.{eqb}
use Rattle.model.specs.Base.{pick, all, any}
use Rattle.model.specs.Literal.{Literal, option, same}
use Rattle.model.specs.Forest.{Conn, and, or, root, at_least, same_conn, Forest, nil, lit, node, size, first, after}
use Rattle.model.specs.Forest.{literal_at, conjunction_at, constant_at, has_unit, mentions, members, seated}
use Rattle.model.specs.Code.{conn_kind}
use Rattle.model.specs.Clauses.{need}
use Rattle.model.specs.Rules.{shares, groups}
use Rattle.theory_forms.specs.Logic.{true_false, fails_if, and_split, and_join, or_split, or_left, or_right, or_neither, either}
use Rattle.theory_forms.specs.Literals.{is_same, same_self}
use Rattle.theory_meaning.specs.Evaluation.{Set, count, fails_all, fails, values, length_values}
use Rattle.theory_meaning.specs.Members.{one_member_more}
use Rattle.theory_forms.specs.Fine.{placed, placed_not_root, fine, fine_node}
use Rattle.theory_forms.specs.Numbers.{inner}
use Rattle.call_laws.specs.Irreducible.{Still, Irreducible}
use Rattle.theory_forms.specs.Forests.{grouping, size_zero, unit_mentions}
use Rattle.call_laws.specs.Standing.{stands, unit_index}
use Rattle.call_laws.specs.Still.{NoFalse, still_asked, no_false, empty_or_two, literal_alone, nothing_to_lift}
use Rattle.call_laws.specs.Still.{nothing_to_factor}

module _ (s : Set) (a : Literal) where
  -- No literal of the set but a stands in the trees.
  abbrev pub OnlyOne : Forest → Type 0
  OnlyOne f = (x : Literal) → stands x f ≡ true → s x ≡ true → x ≡ a

  -- Each tree that fails is a, or a conjunction that has a among its children.
  abbrev FailBy : Forest → Type 0
  FailBy nil = Unit {0}
  FailBy (lit x f) = (s x ≡ true → x ≡ a) × FailBy f
  FailBy (node c k f) = (fails s c k ≡ true → (c ≡ and) × (has_unit a k ≡ true)) × FailBy f

  -- Under a conjunction or the root such a conjunction would have been lifted from: it fails only if it has a itself.
  some_fails :
      (f : Forest) →
      ((i : ℕ) (m : Forest) → conjunction_at (after i f) ≡ some m → has_unit a m ≡ false) →
      FailBy f →
      any (λ b. b) (values s f) ≡ true →
      has_unit a f ≡ true
  unfolding fails values any has_unit after conjunction_at
  some_fails nil u w e = true_false (sym e)
  some_fails (lit x f) u w e =
      ⊎_elim
      (λ p. or_left _ (is_same (sym (w.0 p))))
      (λ p. or_right (same a x) (some_fails f (λ i. u (suc i)) w.1 p))
      (or_split (s x) _ e)
  some_fails (node d k f) u w e =
      ⊎_elim
      (λ p. let q = w.0 p in true_false (sym q.1 ∙ u 0 k (rw q.0)))
      (λ p. some_fails f (λ i. u (suc i)) w.1 p)
      (or_split (fails_all d (values s k)) _ e)

  -- Where all trees fail, they mention the option of a; and where a is none of them, they are all conjunctions that have a.
  all_mention :
      (f : Forest) →
      1 ≤ size f →
      FailBy f →
      fails s or f ≡ true →
      mentions (option a) f ≡ true
  unfolding fails fails_all values all mentions size
  all_mention nil n w e = absurd (omega arith)
  all_mention (lit x f) n w e = or_left _ (eq-eqb (option a) (option x) (sym (ap option (w.0 (and_split (s x) _ e).0))))
  all_mention (node c k f) n w e = or_left _ (unit_mentions a k (w.0 (and_split (fails_all c (values s k)) _ e).0).1)

  all_share :
      (f : Forest) →
      FailBy f →
      fails s or f ≡ true →
      has_unit a f ≡ false →
      (shares a f ≡ true) × (groups f ≡ size f)
  unfolding fails fails_all values all has_unit shares groups size
  all_share nil w e n = (refl, refl)
  all_share (lit x f) w e n = true_false (sym (is_same (sym (w.0 (and_split (s x) _ e).0))) ∙ (or_neither (same a x) _ n).0)
  all_share (node c k f) w e n =
      let p = and_split (fails_all c (values s k)) _ e in
      let q = w.0 p.0 in
      let r = all_share f w.1 p.1 n in
      (rw q.0 (and_join q.1 r.0), ap suc r.1)

  -- A disjunction of two or more does not fail.
  or_holds :
      (k : Forest) →
      Still or k →
      2 ≤ size k →
      FailBy k →
      fails s or k ≡ true →
      ⊥
  unfolding fails fails_all values all has_unit size grouping same_conn literal_at after first mentions conn_kind
  or_holds nil h n w e = omega arith
  or_holds (lit x f) h n w e =
      let p = and_split (s x) (fails s or f) e in
      let alone = literal_alone (lit x f) or refl refl h 0 refl in
      true_false (sym (all_mention f (omega arith) w.1 p.1) ∙ rw (w.0 p.0) at alone.1)
  or_holds (node c m f) h n w e = go (either (has_unit a f))
    where
      go : (has_unit a f ≡ true) ⊎ (has_unit a f ≡ false) → ⊥
      go (inl u) =
          let i = unit_index a f u in
          let alone = literal_alone (node c m f) or refl refl h (suc i.0) i.1 in
          let inside = unit_mentions a m (w.0 (and_split (fails_all c (values s m)) (fails s or f) e).0).1 in
          true_false (sym inside ∙ (or_neither (mentions (option a) m) _ alone.0).0)
      go (inr u) =
          let t = all_share (node c m f) w e u in
          nothing_to_factor (node c m f) h a t.0 (omega arith)

  -- The set without the literals of a's option: no member fails under it. So under the set itself one member fails at most, since
  -- members name distinct options.
  others : Set
  others x = s x && not (eqb (option a) (option x))

  none_fails : (f : Forest) → members f ≡ true → FailBy f → count (values others f) ≡ 0
  unfolding members values count pick others fails has_unit
  none_fails nil m w = refl
  none_fails (lit x f) m w =
      let holds : others x ≡ false =
      fails_if (others x) (λ e.
      let q = and_split (s x) (not (eqb (option a) (option x))) e in
      let here = eq-eqb (option a) (option x) (sym (ap option (w.0 q.0))) in
      true_false (sym here ∙ not-true (eqb (option a) (option x)) q.1)) in
      rw holds (none_fails f (and_split (not (mentions (option x) f)) (members f) m).1 w.1)
  none_fails (node c k f) m w =
      let p = and_split ((same_conn and c || same_conn or c) && eqb (size k) 0) (members f) m in
      let empty = size_zero k (eqb-true (size k) 0 (and_split (same_conn and c || same_conn or c) _ p.0).1) in
      let alike : fails_all c (values s k) ≡ fails_all c (values others k) = rw empty in
      let holds : fails_all c (values others k) ≡ false =
      fails_if (fails_all c (values others k)) (λ e. true_false (sym (w.0 (alike ∙ e)).1 ∙ ap (has_unit a) empty)) in
      rw holds (none_fails f p.1 w.1)

  one_fails : (f : Forest) → members f ≡ true → FailBy f → count (values s f) ≤ 1
  unfolding others
  one_fails f m w =
      let alike : (l : Literal) → (option l ≡ option a → ⊥) → s l ≡ others l =
      λ l n. rw (ne_eqb (option a) (option l) (λ e. n (sym e))) (sym (and-true (s l))) in
      omega (arith, one_member_more alike f m, none_fails f m w)

  -- At least so many of still members do not fail: two would have to.
  least_holds :
      (b : ℕ) (k : Forest) →
      Still (at_least b) k →
      members k ≡ true →
      FailBy k →
      fails s (at_least b) k ≡ true →
      ⊥
  unfolding fails fails_all need
  least_holds b k h m w e =
      let t = still_asked k b h in
      omega (arith, one_fails k m w, leb-true (suc (length (values s k)) - b) (count (values s k)) e, length_values s k)

  group_fails :
      (c : Conn) (k : Forest) →
      placed c k ≡ true →
      Still c k →
      constant_at or (node c k nil) ≡ false →
      (NoFalse k → FailBy k) →
      fails s c k ≡ true →
      (c ≡ and) × (has_unit a k ≡ true)
  unfolding fails fails_all values any placed inner seated constant_at grouping same_conn size conn_kind
  group_fails c k n h u w e = go c n h u e (empty_or_two k c (placed_not_root c k n) h)
    where
      go :
          (d : Conn) →
          placed d k ≡ true →
          Still d k →
          constant_at or (node d k nil) ≡ false →
          fails s d k ≡ true →
          (k ≡ nil) ⊎ (2 ≤ size k) →
          (d ≡ and) × (has_unit a k ≡ true)
      go and n h u e (inl q) = true_false (sym e ∙ ap (fails s and) q)
      go or n h u e (inl q) = true_false (sym (eq-eqb (size k) 0 (ap size q)) ∙ u)
      go and n h u e (inr q) = (refl, some_fails k (nothing_to_lift k and refl refl h a) (w (no_false k and h q)) e)
      go or n h u e (inr q) = absurd (or_holds k h q (w (no_false k or h q)) e)
      go (at_least b) n h u e (inl q) = let t = still_asked k b h in absurd (omega (arith, ap size q))
      go (at_least b) n h u e (inr q) =
          absurd (least_holds b k h (and_split (inner (at_least b) (size k)) (members k) n).1 (w (no_false k (at_least b) h q)) e)
      go root n h u e q = true_false (sym n)

  fail_by :
      (n : ℕ) (f : Forest) →
      fine n f ≡ true →
      Irreducible f →
      NoFalse f →
      OnlyOne f →
      FailBy f
  unfolding fine after stands constant_at
  fail_by n nil g w u o = tt
  fail_by n (lit x f) g w u o =
      let rest = (and_split (ltb (option x) n) (fine n f) g).1 in
      (o x (or_left _ (same_self x)), fail_by n f rest w (λ i. u (suc i)) (λ y p. o y (or_right (same y x) p)))
  fail_by n (node c k f) g w u o =
      let p = fine_node n c k f g in
      let inner : NoFalse k → FailBy k = λ v. fail_by n k p.1 w.1 v (λ y r. o y (or_left _ r)) in
      (group_fails c k p.0 w.0 (u 0) inner, fail_by n f p.2 w.2 (λ i. u (suc i)) (λ y r. o y (or_right (stands y k) r)))

  -- Where no rule applies and no child of the root is false, the root fails only if a is a unit.
  pub root_fails :
      (n : ℕ) (k : Forest) →
      fine n k ≡ true →
      Still root k →
      Irreducible k →
      NoFalse k →
      OnlyOne k →
      fails s root k ≡ true →
      has_unit a k ≡ true
  unfolding grouping same_conn fails fails_all conn_kind
  root_fails n k g h w u o e = some_fails k (nothing_to_lift k root refl refl h a) (fail_by n k g w u o) e
