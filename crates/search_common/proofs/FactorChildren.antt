-- Inner children of child i: where they begin, how many there are, and what the rule asks of their numbers.
use mathlib.Core.Bool.{Bool, true, false}
use mathlib.Core.List.{List}
use mathlib.Core.Logic.{⊎_elim}
use mathlib.Core.Option.{some, none}
use mathlib.Core.Path.{◌≡◌, sym, ap, subst, ◌∙◌}
use Prim.Native.Nat.{ℕ, ◌+◌, ◌≤◌, ◌<◌}
use native.Mathlib.Omega.{arith}
use borrow.Author.Tests.{eqb-true, eqb-false, leb-true, leb-false, ltb-true, ltb-false}
use lib.Dec.{eqb, ltb, leb}
use lib.ListN.{length, get_or, drop, length-drop}
use lib.Seq.{get_or-drop}
use Rattle.model.specs.Base.{is_some}
use Rattle.model.specs.Forest.{Forest, nil, lit, node, ◌⊕◌, size, after, kids}
use Rattle.model.specs.Code.{encode, kind, children}
use Rattle.model.specs.Rules.{rewrite}
use Rattle.theory_forms.specs.Logic.{true_false, either, fails_if}
use Rattle.theory_forms.specs.Forests.{size_after}
use Rattle.theory_forms.specs.Scan.{is_literal}
use Rattle.theory_reading.specs.Spans.{arity, arity_leaf, arity_head, arity_inner, span, child_at}
use Rattle.theory_reading.specs.Flat.{spell, Fits, fits_lit, fits_tree}
use Rattle.theory_reading.specs.Stretches.{Stretch, forest_in}
use Rattle.theory_rewriting.specs.Heads.{Headed}
use Rattle.theory_rewriting.specs.Children.{headed_group, group_children, first_left, child_stands, child_fits}
use Rattle.search_sizes.specs.FirstApplying.{FirstInner}
use Rattle.rule_factor.specs.Walks.{unit_place, unit_of, sharing}
use Rattle.rule_factor.proofs.Here.{unit_past, unit_inner, unit_again, unit_new}
use Rattle.rule_factor.proofs.Asking.{applies_nothing, applies_other, applies_shared, conjunction_there, conjunction_room}
use Rattle.search_common.specs.Held.{Filter, Barred}

-- The number of a child announces its own children.
first_arity : (z : ℕ) (f g : Forest) → 1 ≤ size g → Fits (g ⊕ f) → arity (get_or (spell (g ⊕ f) z) 0 0) ≡ size (kids g)
unfolding spell encode ◌⊕◌ size kids
first_arity z f nil n h = absurd (omega arith)
first_arity z f (lit x g) n h = arity_leaf x (fits_lit x (g ⊕ f) h).0
first_arity z f (node c m g) n h = arity_head c (size m) (fits_tree c m (g ⊕ f) h).0

pub child_arity :
    {r : ℕ} {l : List ℕ} →
    Stretch l →
    (h : Headed r l) →
    (i : ℕ) {at : ℕ} →
    i < children (get_or l 0 0) →
    at ≡ child_at i l →
    arity (get_or l at 0) ≡ size (kids (after i (kids (forest_in l))))
unfolding kids
child_arity {r} {l} s h i there e =
    let g = headed_group s h in
    let k = h.children in
    let within : i < size k = omega (arith, group_children g) in
    let some_left : 1 ≤ size (after i k) = omega (arith, size_after i k) in
    rw (e, h.forest)
    (ap arity (sym (first_left (child_at i l) l) ∙ ap (λ t. get_or t 0 0) (child_stands g i (omega arith)))
    ∙ first_arity h.zeros h.rest (after i k) some_left (child_fits g i (omega arith)).1)

-- A conjunction has as many as its number says.
pub conjunction_arity : (x : ℕ) → kind x ≡ 3 → arity x ≡ children x
unfolding is_literal
conjunction_arity x e = arity_inner x (rw e)

-- A number that a group offers is that of its child j, a literal.
unit_literal :
    (j : ℕ) (l : List ℕ) →
    (unit_of j l ≡ 0 → ⊥) →
    (j < children (get_or l 0 0)) × (is_literal (get_or l (child_at j l) 0) ≡ true) × (unit_of j l ≡ get_or l (child_at j l) 0)
unit_literal j l some_unit =
    ⊎_elim
    (λ past. absurd (some_unit (unit_past j l (leb-true (children (get_or l 0 0)) j past))))
    (λ before. let within = leb-false (children (get_or l 0 0)) j before in
    ⊎_elim (offered within) (λ inner. absurd (some_unit (unit_inner j l within inner))) (either (is_literal (get_or l (child_at j l) 0))))
    (either (leb (children (get_or l 0 0)) j))
  where
    offered :
        j < children (get_or l 0 0) →
        is_literal (get_or l (child_at j l) 0) ≡ true →
        (j < children (get_or l 0 0)) × (is_literal (get_or l (child_at j l) 0) ≡ true) × (unit_of j l ≡ get_or l (child_at j l) 0)
    offered within literal =
        let place = unit_place (get_or l (child_at j l) 0) j (drop 1 l) in
        let end = span j (drop 1 l) in
        ⊎_elim
        (λ again. absurd (some_unit (unit_again j l within literal (ltb-true place end again))))
        (λ new. (within, literal, unit_new j l within literal (ltb-false place end new)))
        (either (ltb place end))

-- The group at a place is a conjunction, and its child j a literal that all children of the first tree share, two conjunctions
-- among them.
record Common (at j : ℕ) (l : List ℕ) : Type 0 where
  pub conjunction : kind (get_or l at 0) ≡ 3
  pub within : j < children (get_or l at 0)
  pub literal : is_literal (get_or l (at + child_at j (drop at l)) 0) ≡ true
  pub shared : 2 ≤ sharing (get_or l (at + child_at j (drop at l)) 0) (children (get_or l 0 0)) (drop 1 l)

module _ {l : List ℕ} (s : Stretch l) (h : Headed 14 l) (i : ℕ) (there : (i < children (get_or l 0 0)) × (1 + i ≡ child_at i l)) where
  -- So it is where the rule applies.
  common : (j : ℕ) → is_some (rewrite 14 i j (forest_in l)) ≡ true → Common (1 + i) j l
  common j t = subst (λ at. Common at j l) (sym there.1) here
    where
      at : ℕ
      at = child_at i l

      conj : kind (get_or l at 0) ≡ 3
      conj =
          ⊎_elim
          (eqb-true (kind (get_or l at 0)) 3)
          (λ e. true_false (sym t ∙ sym (applies_other s h i j there.0 (eqb-false (kind (get_or l at 0)) 3 e))))
          (either (eqb (kind (get_or l at 0)) 3))

      some_unit : unit_of j (drop at l) ≡ 0 → ⊥
      some_unit e = true_false (sym t ∙ sym (applies_nothing s h i j e))

      here : Common at j l
      here =
          let u = unit_literal j (drop at l) some_unit in
          let its : unit_of j (drop at l) ≡ get_or l (at + child_at j (drop at l)) 0 = u.2 ∙ get_or-drop at l (child_at j (drop at l)) 0 in
          let two =
          leb-true 2 (sharing (unit_of j (drop at l)) (children (get_or l 0 0)) (drop 1 l))
          (applies_shared s h i j there.0 conj (sym there.1) some_unit ∙ t) in
          record {
            conjunction = conj;
            within = rw (first_left at l) at u.0;
            literal = ap is_literal (sym (get_or-drop at l (child_at j (drop at l)) 0)) ∙ u.1;
            shared = rw its at two;
          }

  -- It does not where child i is no conjunction, where inner child j is past the last, and where the table refuses it.
  pub other_none : (kind (get_or l (1 + i) 0) ≡ 3 → ⊥) → (j : ℕ) → is_some (rewrite 14 i j (forest_in l)) ≡ false
  other_none other j = fails_if (is_some (rewrite 14 i j (forest_in l))) (λ t. other (common j t).conjunction)

  pub past_none : (j : ℕ) → children (get_or l (1 + i) 0) ≤ j → is_some (rewrite 14 i j (forest_in l)) ≡ false
  past_none j past = fails_if (is_some (rewrite 14 i j (forest_in l))) (λ t. omega (arith, (common j t).within))

  pub past_arity : (j : ℕ) → arity (get_or l (1 + i) 0) ≤ j → is_some (rewrite 14 i j (forest_in l)) ≡ false
  past_arity j past =
      fails_if (is_some (rewrite 14 i j (forest_in l)))
      (λ t. let w = common j t in omega (arith, w.within, conjunction_arity (get_or l (1 + i) 0) w.conjunction))

  module _ (groups : ℕ) (held : List ℕ) (filter : Filter groups l held) (j : ℕ) where
    pub few_none : groups < 2 → is_some (rewrite 14 i j (forest_in l)) ≡ false
    few_none few =
        fails_if (is_some (rewrite 14 i j (forest_in l))) (λ t. let c = common j t in omega (arith, (filter _ c.literal c.shared).0))

    pub barred_none :
        (x : ℕ) {from : ℕ} {passed : Bool} →
        x ≡ get_or l from 0 →
        from ≡ 1 + i + child_at j (drop (1 + i) l) →
        Barred passed x groups held →
        passed ≡ false →
        is_some (rewrite 14 i j (forest_in l)) ≡ false
    barred_none x {from} {passed} read place barred refused =
        let its : get_or l (1 + i + child_at j (drop (1 + i) l)) 0 ≡ x = sym (read ∙ ap (λ k. get_or l k 0) place) in
        fails_if (is_some (rewrite 14 i j (forest_in l)))
        (λ t. let c = common j t in
        let lit : is_literal x ≡ true = rw its at c.literal in
        let two : 2 ≤ sharing x (children (get_or l 0 0)) (drop 1 l) = rw its at c.shared in
        omega (arith, (filter x lit two).1, barred refused lit))

  -- The children of a conjunction stand within the stretch.
  pub inner_room : kind (get_or l (1 + i) 0) ≡ 3 → (j : ℕ) → j < children (get_or l (1 + i) 0) → 1 + i + child_at j (drop (1 + i) l) < length l
  inner_room = subst (λ at. kind (get_or l at 0) ≡ 3 → (j : ℕ) → j < children (get_or l at 0) → at + child_at j (drop at l) < length l)
      (sym there.1) here
    where
      here : let at = child_at i l in kind (get_or l at 0) ≡ 3 → (j : ℕ) → j < children (get_or l at 0) → at + child_at j (drop at l) < length l
      here conj j within =
          let at = child_at i l in
          let room = conjunction_room s h i j (conjunction_there s h i j there.0 conj).1 in
          omega (arith, room.1 (rw (first_left at l) within), length-drop at l)

  -- The answer: an inner child with which the rule applies, of those that the number of child i announces, or none.
  module _ {m : ℕ} (counted : m ≡ arity (get_or l (1 + i) 0)) where
    pub found_first :
        (j : ℕ) →
        j < m →
        is_some (rewrite 14 i j (forest_in l)) ≡ true →
        ((k : ℕ) → k < j → is_some (rewrite 14 i k (forest_in l)) ≡ false) →
        FirstInner 14 i (some j) l
    found_first j few t none_before = (omega (arith, child_arity s h i there.0 there.1), record { before = none_before; there = t })

    -- With those past the last it never does.
    pub found_none : ((k : ℕ) → k < m → is_some (rewrite 14 i k (forest_in l)) ≡ false) → FirstInner 14 i none l
    found_none none_below k few =
        ⊎_elim
        (λ e. none_below k (ltb-true k m e))
        (λ e. past_arity k (omega (arith, counted, ltb-false k m e)))
        (either (ltb k m))
