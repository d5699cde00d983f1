-- Rule 15 on a stretch: what it asks of its numbers, and what becomes of them.
use mathlib.Core.Bool.{Bool, true, false, ◌&&◌, ◌||◌}
use mathlib.Core.List.{List, ◌++◌}
use mathlib.Core.Logic.{⊎_elim}
use mathlib.Core.Option.{Option, none, some}
use mathlib.Core.Path.{◌≡◌, refl, sym, ap, ap₂, ◌∙◌}
use Prim.Native.Nat.{ℕ, suc, ◌+◌, ◌-◌, ◌*◌, ◌%◌, ◌≤◌, ◌<◌}
use native.Mathlib.Omega.{arith}
use borrow.Author.Tests.{eqb-true, eq-eqb, ltb-true, ltb-false, ne_eqb}
use lib.Dec.{eqb, ltb}
use lib.ListN.{length, get_or, take, drop, set, replicate}
use Rattle.model.specs.Base.{pick, is_some, first_of}
use Rattle.model.specs.Forest.{Conn, and, or, at_least, Forest, nil, node, ◌⊕◌, size, first, after, constant_at}
use Rattle.model.specs.Code.{number, conn_kind}
use Rattle.model.specs.Limits.{least_factor}
use Rattle.model.specs.Rules.{neutral, deciding, omit, one_less, lower, drop_member, change, rewrite}
use Rattle.theory_forms.specs.Logic.{and_split, either, is_some_only, only_some, first_some, pick_true, pick_false}
use Rattle.theory_forms.specs.Forests.{grouping, constant_here}
use Rattle.theory_reading.specs.Spans.{child_at}
use Rattle.theory_reading.specs.Flat.{spell}
use Rattle.theory_reading.specs.Stretches.{Stretch, forest_in}
use Rattle.theory_rewriting.specs.Heads.{Headed, rewritten_to}
use Rattle.theory_rewriting.specs.Children.{Group, headed_group, child_within, child_constant, child_opened_under, children_opened}
use Rattle.theory_rewriting.specs.Turns.{family_15, family_applies, family_turn}
use Rattle.rule_least.specs.LeastHeads.{is_constant, without_member}
use Rattle.rule_least.proofs.LeastNumbers.{least_known, least_number}

-- One of two answers is there.
some_first : {A : Type 0} (a b : Option A) → is_some (first_of a b) ≡ (is_some a || is_some b)
unfolding is_some first_of
some_first none b = refl
some_first (some a) b = refl

-- The family asks for j = 0 and a constant.
asked_drop :
    (a i j : ℕ) (k : Forest) →
    is_some (drop_member (at_least a) i j k) ≡ ((eqb j 0 && constant_at or (after i k)) || (eqb j 0 && constant_at and (after i k)))
unfolding drop_member omit lower neutral deciding
asked_drop a i j k = some_first _ _ ∙ ap₂ ◌||◌ (is_some_only _ _) (is_some_only _ _)

-- The head that is written, where a false member goes, and where a true one does.
head_kept : (x y : ℕ) → y ≡ 16384 → without_member x y ≡ x - least_factor
unfolding without_member pick
head_kept x y e = rw e

head_lowered : (x a : ℕ) → x % least_factor ≡ a → without_member x 12288 ≡ x - least_factor - pick (ltb 0 a) 1 0
unfolding without_member pick
head_lowered x a e = rw e (go (ltb 0 a))
  where
    go : (b : Bool) → pick b (x - least_factor - 1) (x - least_factor) ≡ x - least_factor - pick b 1 0
    go true = refl
    go false = omega arith

one_fewer : (a : ℕ) → a ≡ pick (ltb 0 a) 1 0 + (a - 1)
one_fewer a =
    ⊎_elim
    (λ e. let some = ltb-true 0 a e in rw (pick_true {A = ℕ} (ltb 0 a) 1 0 e) (omega arith))
    (λ e. let none = ltb-false 0 a e in rw (pick_false {A = ℕ} (ltb 0 a) 1 0 e) (omega arith))
    (either (ltb 0 a))

module _ {l : List ℕ} (s : Stretch l) (h : Headed 15 l) (i j : ℕ) {a : ℕ} (least : h.conn ≡ at_least a) where
  group : Group l (at_least a) h.children h.rest h.zeros
  group = rw least at (headed_group s h)

  applies_drop : is_some (rewrite 15 i j (forest_in l)) ≡ is_some (drop_member (at_least a) i j h.children)
  unfolding change
  applies_drop =
      family_applies h i j ∙ ap₂ (λ x c. is_some (change x c i j h.children)) family_15 least

  pub drops_nothing : (j ≡ 0 → ⊥) → false ≡ is_some (rewrite 15 i j (forest_in l))
  drops_nothing n = sym (applies_drop ∙ asked_drop a i j h.children ∙ rw (ne_eqb j 0 n))

  pub drops_constant :
      j ≡ 0 →
      i < size h.children →
      is_constant (get_or l (child_at i l) 0) ≡ is_some (rewrite 15 i j (forest_in l))
  unfolding is_constant grouping conn_kind number
  drops_constant e n =
      ap₂ ◌||◌ (child_constant group i n or refl) (child_constant group i n and refl)
      ∙ sym (applies_drop ∙ asked_drop a i j h.children ∙ rw (eq-eqb j 0 e))

  -- The number of a member that is a constant.
  member_is : (d : Conn) → grouping d ≡ true → constant_at d (after i h.children) ≡ true → get_or l (child_at i l) 0 ≡ number (conn_kind d) 0
  member_is d o e =
      let there = child_within i h.children (constant_here d i h.children e) in
      eqb-true _ _ (child_constant group i there d o ∙ e)

  -- A constant goes, under a head of another number.
  member_gone :
      (b v : ℕ) (d : Conn) {out : List ℕ} →
      constant_at d (after i h.children) ≡ true →
      v ≡ 24576 + (size h.children - 1) * least_factor + b →
      out ≡ take (child_at i l) (set l 0 v) ++ (drop (child_at i l + 1) (set l 0 v) ++ replicate 1 0) →
      out ≡ spell (node (at_least b) (first i h.children ⊕ after (suc i) h.children) nil ⊕ h.rest) (h.zeros + 1)
  unfolding ◌⊕◌ size
  member_gone b v d c n e =
      let k = h.children in
      let here = constant_here d i k c in
      let rest = first i k ⊕ after (suc i) k in
      let fewer : size k - 1 ≡ size rest = omega (arith, children_opened group i here) in
      e ∙ child_opened_under group i here (at_least b) v (n ∙ ap (λ m. 24576 + m * least_factor + b) fewer ∙ sym (least_number b (size rest)))

  pub turns_drop :
      {out : List ℕ} {v : ℕ} →
      is_some (rewrite 15 i j (forest_in l)) ≡ true →
      v ≡ without_member (get_or l 0 0) (get_or l (child_at i l) 0) →
      length out ≡ length l →
      out ≡ take (child_at i l) (set l 0 v) ++ (drop (child_at i l + 1) (set l 0 v) ++ replicate 1 0) →
      out ≡ rewritten_to 15 i j l
  unfolding change drop_member omit lower neutral deciding one_less grouping conn_kind number
  turns_drop {out} {v} t n same e =
      let k = h.children in
      let known = least_known group in
      family_turn h i j (h.zeros + 1) t
      (λ g q. ⊎_elim
      (λ w. let o = only_some _ _ w in
      let c = (and_split (eqb j 0) _ o.0).1 in
      let new = n ∙ head_kept _ _ (member_is or refl c) ∙ omega (arith, known.number, some_left or c) in
      member_gone a v or c new e ∙ ap (λ m. spell (m ⊕ h.rest) (h.zeros + 1)) o.1)
      (λ w. let o = only_some _ _ w in
      let c = (and_split (eqb j 0) _ o.0).1 in
      let less = head_lowered (get_or l 0 0) a known.rest in
      let new = n ∙ ap (without_member (get_or l 0 0)) (member_is and refl c) ∙ less ∙ omega (arith, known.number, some_left and c, one_fewer a) in
      member_gone (a - 1) v and c new e ∙ ap (λ m. spell (m ⊕ h.rest) (h.zeros + 1)) o.1)
      (first_some _ _ (rw (family_15, least) at q)))
      same
    where
      some_left : (d : Conn) → constant_at d (after i h.children) ≡ true → 1 ≤ size h.children
      some_left d c = omega (arith, child_within i h.children (constant_here d i h.children c))
