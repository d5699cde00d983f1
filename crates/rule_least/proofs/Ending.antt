-- Rules 16 and 17 on a stretch: what they ask of its first number, and what becomes of its numbers.
use mathlib.Core.Bool.{Bool, true, false, ◌&&◌, ◌||◌, and-false}
use mathlib.Core.List.{List, [], ◌∷◌, ◌++◌}
use mathlib.Core.Logic.{◌⊎◌, inl, inr, ⊎_elim}
use mathlib.Core.Option.{Option, some}
use mathlib.Core.Path.{◌≡◌, refl, sym, ap, ap₂, ◌∙◌}
use Prim.Native.Nat.{ℕ, ◌+◌, ◌-◌, ◌≤◌}
use native.Mathlib.Omega.{arith}
use borrow.Author.Tests.{eqb-true, eqb-false, eq-eqb, ne_eqb}
use lib.Dec.{eqb, ltb}
use lib.ListN.{length, get_or, take, drop, set, replicate}
use Rattle.model.specs.Base.{pick, is_some, then, only_if}
use Rattle.model.specs.Forest.{Conn, and, or, at_least, Forest, nil, node, constant, ◌⊕◌, size, first}
use Rattle.model.specs.Code.{head, number, conn_kind, number_of}
use Rattle.model.specs.Rules.{decided, decide, renamed, rename, change, rewrite}
use Rattle.theory_forms.specs.Logic.{either, is_some_only, only_some, only_then, pick_some, pick_true, pick_false}
use Rattle.theory_forms.specs.Forests.{grouping, past_end}
use Rattle.theory_forms.specs.Numbers.{head_number}
use Rattle.theory_reading.specs.Spans.{child_at}
use Rattle.theory_reading.specs.Flat.{spell, spell_node}
use Rattle.theory_reading.specs.Stretches.{Stretch, forest_in}
use Rattle.theory_rewriting.specs.Heads.{Headed, rewritten_to}
use Rattle.theory_rewriting.specs.Children.{Group, code, headed_group, group_children, child_place, child_split, spell_zeros, removed_at}
use Rattle.theory_rewriting.specs.Turns.{family_at, family_16, family_17, family_applies, family_turn}
use Rattle.rule_least.specs.LeastHeads.{is_ended, ended_head}
use Rattle.rule_least.proofs.LeastNumbers.{least_known}

-- What the families ask: i = j = 0, and a number at its end.
some_picked : {A : Type 0} (b : Bool) (a : A) (o : Option A) → is_some (pick b (some a) o) ≡ (b || is_some o)
unfolding is_some pick
some_picked true a o = refl
some_picked false a o = refl

asked_alone : (i j : ℕ) (k : Forest) (f : Forest → Option Forest) →
    is_some (then (only_if (eqb i 0 && eqb j 0) k) f) ≡ ((eqb i 0 && eqb j 0) && is_some (f k))
unfolding is_some then only_if
asked_alone i j k f = go (eqb i 0 && eqb j 0)
  where
    go : (b : Bool) → is_some (then (only_if b k) f) ≡ (b && is_some (f k))
    go true = refl
    go false = refl

asked_decide :
    (a i j : ℕ) (k : Forest) →
    is_some (decide (at_least a) i j k) ≡ ((eqb i 0 && eqb j 0) && (eqb a 0 || ltb (size k) a))
unfolding decide decided
asked_decide a i j k =
    asked_alone i j k (decided (at_least a))
    ∙ ap (λ b. (eqb i 0 && eqb j 0) && b) (some_picked (eqb a 0) _ _ ∙ ap (λ b. eqb a 0 || b) (is_some_only _ _))

asked_rename :
    (a i j : ℕ) (k : Forest) →
    is_some (rename (at_least a) i j k) ≡ ((eqb i 0 && eqb j 0) && (eqb a 1 || eqb a (size k)))
unfolding rename renamed
asked_rename a i j k =
    asked_alone i j k (renamed (at_least a))
    ∙ ap (λ b. (eqb i 0 && eqb j 0) && b) (some_picked (eqb a 1) _ _ ∙ ap (λ b. eqb a 1 || b) (is_some_only _ _))

-- Rule 16 or 17.
pub either_end : (r : ℕ) → 16 ≤ r → r ≤ 17 → (r ≡ 16) ⊎ (r ≡ 17)
either_end r lo hi = ⊎_elim (λ e. inl (eqb-true r 16 e)) (λ e. inr (omega (arith, eqb-false r 16 e))) (either (eqb r 16))

-- The numbers of the heads that are written.
constant_of : (d : Conn) → grouping d ≡ true → number_of (head d 0) ≡ number (conn_kind d) 0
constant_of d o = head_number d 0 o

module _ {r : ℕ} {l : List ℕ} (s : Stretch l) (h : Headed r l) (i j : ℕ) {a : ℕ} (least : h.conn ≡ at_least a) where
  group : Group l (at_least a) h.children h.rest h.zeros
  group = rw least at (headed_group s h)

  -- The test, on the first number.
  applies_end : r ≡ 16 → is_some (rewrite r i j (forest_in l)) ≡ ((eqb i 0 && eqb j 0) && (eqb a 0 || ltb (size h.children) a))
  unfolding change
  applies_end e =
      family_applies h i j
      ∙ ap₂ (λ x c. is_some (change x c i j h.children)) (ap family_at e ∙ family_16) least
      ∙ asked_decide a i j h.children

  applies_rename : r ≡ 17 → is_some (rewrite r i j (forest_in l)) ≡ ((eqb i 0 && eqb j 0) && (eqb a 1 || eqb a (size h.children)))
  unfolding change
  applies_rename e =
      family_applies h i j
      ∙ ap₂ (λ x c. is_some (change x c i j h.children)) (ap family_at e ∙ family_17) least
      ∙ asked_rename a i j h.children

  ended_is : (r ≡ 16) ⊎ (r ≡ 17) → is_some (rewrite r i j (forest_in l)) ≡ ((eqb i 0 && eqb j 0) && is_ended (get_or l 0 0) r)
  unfolding is_ended pick
  ended_is (inl e) = applies_end e ∙ rw (e, (least_known group).rest, group_children group)
  ended_is (inr e) = applies_rename e ∙ rw (e, (least_known group).rest, group_children group)

  module _ (lo : 16 ≤ r) (hi : r ≤ 17) where
    pub ends_not_child : (i ≡ 0 → ⊥) → false ≡ is_some (rewrite r i j (forest_in l))
    ends_not_child n = sym (ended_is (either_end r lo hi) ∙ rw (ne_eqb i 0 n))

    pub ends_not_inner : (j ≡ 0 → ⊥) → false ≡ is_some (rewrite r i j (forest_in l))
    ends_not_inner n = sym (ended_is (either_end r lo hi) ∙ rw (ne_eqb j 0 n, and-false (eqb i 0)))

    pub ends_number : i ≡ 0 → j ≡ 0 → is_ended (get_or l 0 0) r ≡ is_some (rewrite r i j (forest_in l))
    ends_number e f = sym (ended_is (either_end r lo hi) ∙ rw (eq-eqb i 0 e, eq-eqb j 0 f))

  -- Rule 16: a constant takes the place of all numbers of the tree.
  all_gone :
      (d : Conn) (v : ℕ) {out : List ℕ} →
      v ≡ number_of (head d 0) →
      let end = child_at (size h.children) l in
      out ≡ take 1 (set l 0 v) ++ (drop (1 + (end - 1)) (set l 0 v) ++ replicate (end - 1) 0) →
      out ≡ spell (constant d ⊕ h.rest) (h.zeros + (end - 1))
  unfolding ◌⊕◌ size
  all_gone d v n e =
      let k = h.children in
      let end = child_at (size k) l in
      let w = h.zeros + (end - 1) in
      let old = code (first (size k) k) in
      let long : length old ≡ end - 1 = omega (arith, child_place group (size k) (omega arith)) in
      let split : l ≡ number_of (head (at_least a) (size k)) ∷ (old ++ spell h.rest h.zeros) =
      child_split group (size k) (omega arith)
      ∙ ap (λ m. number_of (head (at_least a) (size k)) ∷ (old ++ spell (m ⊕ h.rest) h.zeros)) (past_end (size k) k (omega arith)) in
      e
      ∙ removed_at (v ∷ []) old (spell h.rest h.zeros) (set l 0 v) 1 (end - 1) (ap (λ t. set t 0 v) split) refl long
      ∙ ap₂ (λ x t. x ∷ t) n (spell_zeros h.rest h.zeros (end - 1))
      ∙ sym (spell_node d nil h.rest w)

  pub turns_end :
      {out : List ℕ} {v : ℕ} →
      r ≡ 16 →
      is_some (rewrite r i j (forest_in l)) ≡ true →
      v ≡ ended_head (get_or l 0 0) r →
      length out ≡ length l →
      let end = child_at (size h.children) l in
      out ≡ take 1 (set l 0 v) ++ (drop (1 + (end - 1)) (set l 0 v) ++ replicate (end - 1) 0) →
      out ≡ rewritten_to r i j l
  unfolding change decide decided ended_head pick grouping conn_kind number
  turns_end {out} {v} is t n same e =
      let k = h.children in
      let known = least_known group in
      let end = child_at (size k) l in
      let new : v ≡ pick (eqb a 0) 12288 16384 = n ∙ rw (is, known.rest) in
      family_turn h i j (h.zeros + (end - 1)) t
      (λ g q. let f : r ≡ 16 = is in
      let at = only_then (eqb i 0 && eqb j 0) k (decided (at_least a)) (rw (ap family_at f ∙ family_16, least) at q) in
      ⊎_elim
      (λ w. all_gone and v (new ∙ pick_true {A = ℕ} (eqb a 0) 12288 16384 w.0 ∙ sym (constant_of and refl)) e
      ∙ ap (λ m. spell (m ⊕ h.rest) (h.zeros + (end - 1))) w.1)
      (λ w. let o = only_some (ltb (size k) a) _ w.1 in
      all_gone or v (new ∙ pick_false {A = ℕ} (eqb a 0) 12288 16384 w.0 ∙ sym (constant_of or refl)) e
      ∙ ap (λ m. spell (m ⊕ h.rest) (h.zeros + (end - 1))) o.1)
      (pick_some (eqb a 0) _ _ at.1))
      same

  -- Rule 17: another head stands before the members.
  headed_anew : (d : Conn) (v : ℕ) {out : List ℕ} → v ≡ number_of (head d (size h.children)) → out ≡ set l 0 v →
      out ≡ spell (node d h.children nil ⊕ h.rest) h.zeros
  unfolding ◌⊕◌
  headed_anew d v n e =
      let k = h.children in
      e
      ∙ ap (λ t. set t 0 v) (group.spelled ∙ spell_node (at_least a) k h.rest h.zeros)
      ∙ ap (λ x. x ∷ spell (k ⊕ h.rest) h.zeros) n
      ∙ sym (spell_node d k h.rest h.zeros)

  pub turns_rename :
      {out : List ℕ} {v : ℕ} →
      r ≡ 17 →
      is_some (rewrite r i j (forest_in l)) ≡ true →
      v ≡ ended_head (get_or l 0 0) r →
      length out ≡ length l →
      out ≡ set l 0 v →
      out ≡ rewritten_to r i j l
  unfolding change rename renamed ended_head pick grouping conn_kind number
  turns_rename {out} {v} is t n same e =
      let k = h.children in
      let known = least_known group in
      let new : v ≡ pick (eqb a 1) (16384 + size k) (12288 + size k) = n ∙ rw (is, known.rest, group_children group) in
      family_turn h i j h.zeros t
      (λ g q. let f : r ≡ 17 = is in
      let at = only_then (eqb i 0 && eqb j 0) k (renamed (at_least a)) (rw (ap family_at f ∙ family_17, least) at q) in
      ⊎_elim
      (λ w. headed_anew or v (new ∙ pick_true (eqb a 1) _ _ w.0 ∙ sym (head_number or (size k) refl)) e ∙ ap (λ m. spell (m ⊕ h.rest) h.zeros) w.1)
      (λ w. let o = only_some (eqb a (size k)) _ w.1 in
      headed_anew and v (new ∙ pick_false (eqb a 1) _ _ w.0 ∙ sym (head_number and (size k) refl)) e ∙ ap (λ m. spell (m ⊕ h.rest) h.zeros) o.1)
      (pick_some (eqb a 1) _ _ at.1))
      same
