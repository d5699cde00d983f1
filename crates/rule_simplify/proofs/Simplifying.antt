-- Rules 1 to 8 on a stretch: what they ask of its numbers, and what becomes of them.
use mathlib.Core.Bool.{Bool, true, false, ◌&&◌}
use mathlib.Core.List.{List, [], ◌∷◌, ◌++◌}
use mathlib.Core.Path.{◌≡◌, refl, sym, ap, ap₂, ◌∙◌}
use Prim.Native.Nat.{ℕ, zero, suc, ◌+◌, ◌-◌, ◌≤◌, ◌<◌}
use native.Mathlib.Omega.{arith}
use borrow.Author.Tests.{le-leb, eqb-true, eq-eqb}
use lib.Dec.{eqb, leb}
use lib.ListN.{length, get_or, take, drop, set, replicate, length-drop}
use lib.Seq.{drop-cons}
use Rattle.model.specs.Base.{pick, maybe, is_some, only_if}
use Rattle.model.specs.Forest.{Conn, and, or, root, at_least, Forest, nil, node, constant, ◌⊕◌, size, first, after, constant_at}
use Rattle.model.specs.Code.{head, value, number, conn_kind, number_of}
use Rattle.model.specs.Rules.{neutral, deciding, absorb, omit, unwrap, Family, table, change, row_of, rewrite}
use Rattle.theory_forms.specs.Logic.{true_false, and_split, and_join, same_test, fails_if, pick_keeps, is_some_only, only_some}
use Rattle.theory_forms.specs.Forests.{grouping, neutral_groups, deciding_groups, constant_here, past_end}
use Rattle.theory_forms.specs.Numbers.{head_number}
use Rattle.theory_reading.specs.Spans.{child_at}
use Rattle.theory_reading.specs.Flat.{spell, spell_node}
use Rattle.theory_reading.specs.Stretches.{Stretch, forest_in}
use Rattle.theory_rewriting.specs.Heads.{Headed, headed_groups, rewritten_to}
use Rattle.theory_rewriting.specs.Children.{Group, code, headed_group, group_head, group_few, child_place, child_split, child_later, child_constant, child_opened, spell_zeros, removed_at, applied_child}
use Rattle.theory_rewriting.specs.Turns.{family_at, family_1, family_4, family_7, family_of, family_applies, family_turn}
use Rattle.rule_simplify.specs.Constants.{wanted, group_of, constant_for}

-- Rules 2, 4 and 6 look for true.
pub constant_true : (r : ℕ) → 1 ≤ r → r ≤ 6 → (r ≡ 1 → ⊥) → (r ≡ 3 → ⊥) → (r ≡ 5 → ⊥) → 12288 ≡ constant_for r
unfolding constant_for row_of table maybe group_of pick wanted neutral deciding conn_kind number
constant_true zero a b x y z = absurd (omega arith)
constant_true (suc zero) a b x y z = absurd (x refl)
constant_true (suc (suc zero)) a b x y z = refl
constant_true (suc (suc (suc zero))) a b x y z = absurd (y refl)
constant_true (suc (suc (suc (suc zero)))) a b x y z = refl
constant_true (suc (suc (suc (suc (suc zero))))) a b x y z = absurd (z refl)
constant_true (suc (suc (suc (suc (suc (suc zero)))))) a b x y z = refl
constant_true (suc (suc (suc (suc (suc (suc (suc r))))))) a b x y z = absurd (omega arith)

-- What the families ask.
module _ (r : ℕ) (c : Conn) (i j : ℕ) (k : Forest) where
  constant_asked : r ≤ 6 → is_some (change (family_at r) c i j k) ≡ (eqb j 0 && constant_at (wanted (family_at r) c) (after i k))
  unfolding family_at pick change absorb omit wanted
  constant_asked b =
      rw (le-leb r 6 b)
      (pick_keeps (λ x. is_some (change x c i j k) ≡ (eqb j 0 && constant_at (wanted x c) (after i k))) (leb r 3) (is_some_only _ _)
      (is_some_only _ _))

  single_asked : 7 ≤ r → r ≤ 8 → is_some (change (family_at r) c i j k) ≡ (eqb i 0 && eqb j 0 && eqb (size k) 1)
  unfolding family_at pick change unwrap
  single_asked a b = rw (family_7 r a b) (is_some_only _ _)

  -- In either case j is 0.
  second_zero : r ≤ 8 → is_some (change (family_at r) c i j k) ≡ true → j ≡ 0
  unfolding family_at pick change absorb omit unwrap
  second_zero b = rw (le-leb r 8 b) (pick_keeps Zero (leb r 3) (first _ _) (pick_keeps Zero (leb r 6) (first _ _) single))
    where
      Zero : Family → Type 0
      Zero x = is_some (change x c i j k) ≡ true → j ≡ 0

      first : (b : Bool) (g : Forest) → is_some (only_if (eqb j 0 && b) g) ≡ true → j ≡ 0
      first b g t = eqb-true j 0 (and_split (eqb j 0) b (sym (is_some_only _ _) ∙ t)).0

      single : is_some (only_if (eqb i 0 && eqb j 0 && eqb (size k) 1) k) ≡ true → j ≡ 0
      single t =
          let o = and_split (eqb i 0 && eqb j 0) (eqb (size k) 1) (sym (is_some_only _ _) ∙ t) in
          eqb-true j 0 (and_split (eqb i 0) (eqb j 0) o.0).1

group_is : (c : Conn) → grouping c ≡ true → group_of (conn_kind c) ≡ c
unfolding group_of conn_kind grouping pick
group_is and g = refl
group_is or g = refl
group_is root g = refl
group_is (at_least a) g = true_false (sym g)

-- The number that is looked for, and that it is one of document 01's connectives.
constant_number : {r : ℕ} {l : List ℕ} (h : Headed r l) → r ≤ 14 → constant_for r ≡ number (conn_kind (wanted (family_at r) h.conn)) 0
unfolding constant_for maybe
constant_number {r} h low = rw (h.its_row, family_of r h.its_row, h.its_kind, group_is h.conn (headed_groups h low))

wanted_groups : (r : ℕ) (c : Conn) → r ≤ 6 → grouping (wanted (family_at r) c) ≡ true
unfolding family_at pick wanted
wanted_groups r c b =
    rw (le-leb r 6 b) (pick_keeps (λ x. grouping (wanted x c) ≡ true) (leb r 3) (deciding_groups c) (neutral_groups c))

-- The test, on the numbers.
module _ {r : ℕ} {l : List ℕ} (s : Stretch l) (h : Headed r l) (i j : ℕ) where
  pub applies_nothing : r ≤ 8 → (j ≡ 0 → ⊥) → false ≡ is_some (rewrite r i j (forest_in l))
  applies_nothing b n = sym (fails_if (is_some (rewrite r i j (forest_in l)))
      (λ t. n (second_zero r h.conn i j h.children b (sym (family_applies h i j) ∙ t))))

  pub applies_single : 7 ≤ r → r ≤ 8 → j ≡ 0 → i < size h.children → eqb (size h.children) 1 ≡ is_some (rewrite r i j (forest_in l))
  applies_single a b e n =
      let k = h.children in
      same_test (eqb (size k) 1) (eqb i 0 && eqb j 0 && eqb (size k) 1)
      (λ q. let one = eqb-true (size k) 1 q in and_join (and_join (eq-eqb i 0 (omega arith)) (eq-eqb j 0 e)) q)
      (λ q. (and_split (eqb i 0 && eqb j 0) (eqb (size k) 1) q).1)
      ∙ sym (family_applies h i j ∙ single_asked r h.conn i j k a b)

  pub applies_constant : r ≤ 6 → j ≡ 0 → i < size h.children →
      eqb (get_or l (child_at i l) 0) (constant_for r) ≡ is_some (rewrite r i j (forest_in l))
  applies_constant b e n =
      let c = h.conn in
      let k = h.children in
      let asked : is_some (rewrite r i j (forest_in l)) ≡ (eqb j 0 && constant_at (wanted (family_at r) c) (after i k)) = family_applies h i j
      ∙ constant_asked r c i j k b in
      rw (asked, constant_number h (omega arith), eq-eqb j 0 e) (child_constant (headed_group s h) i n (wanted (family_at r) c) (wanted_groups r c b))

-- Where a constant is written after the head, and the other numbers of the children go.
only_child : {l : List ℕ} {c : Conn} {k f : Forest} {z : ℕ} → Group l c k f z → grouping c ≡ true → 1 ≤ size k → (d : Conn) → grouping d ≡ true →
    let end = child_at (size k) l in
    let new = set (set l 0 (get_or l 0 0 - value (get_or l 0 0) + 1)) 1 (number (conn_kind d) 0) in
    take 2 new ++ (drop (2 + (end - 2)) new ++ replicate (end - 2) 0) ≡ spell (node c (constant d) f) (z + (end - 2))
unfolding number size ◌⊕◌ value
only_child {l} {c} {k} {f} {z} g o n d known =
    let x = get_or l 0 0 - value (get_or l 0 0) + 1 in
    let y = number (conn_kind d) 0 in
    let end = child_at (size k) l in
    let w = z + (end - 2) in
    let old = code (first (size k) k) in
    let long : length old + 1 ≡ end = omega (arith, child_place g (size k) (omega arith)) in
    let split : l ≡ number_of (head c (size k)) ∷ (get_or old 0 0 ∷ (drop 1 old ++ spell f z)) =
    child_split g (size k) (omega arith)
    ∙ ap₂ (λ u m. number_of (head c (size k)) ∷ (u ++ spell (m ⊕ f) z)) (drop-cons old 0 0 (omega (arith, child_later g (size k) (omega arith))))
    (past_end (size k) k (omega arith)) in
    let one : x ≡ number_of (head c 1) = omega (arith, group_head g o, group_few g, head_number c 1 o) in
    removed_at (x ∷ y ∷ []) (drop 1 old) (spell f z) (set (set l 0 x) 1 y) 2 (end - 2) (ap (λ u. set (set u 0 x) 1 y) split) refl
    (omega (arith, length-drop 1 old))
    ∙ ap₂ (λ u m. u ∷ (y ∷ m)) one (spell_zeros f z (end - 2))
    ∙ sym (spell_node c (constant d) f w
    ∙ ap (λ u. number_of (head c 1) ∷ u) (spell_node d nil f w ∙ ap (λ u. u ∷ spell f w) (head_number d 0 known)))

-- The step, on the numbers.
module _ {r : ℕ} {l out : List ℕ} (s : Stretch l) (h : Headed r l) (i j : ℕ) (t : is_some (rewrite r i j (forest_in l)) ≡ true)
    (n : length out ≡ length l) where
  -- The head goes.
  pub turns_single : 7 ≤ r → r ≤ 8 → out ≡ take 0 l ++ (drop (0 + 1) l ++ replicate 1 0) → out ≡ rewritten_to r i j l
  unfolding family_at pick change unwrap
  turns_single a b e =
      let k = h.children in
      let z = h.zeros in
      let gone : out ≡ spell (k ⊕ h.rest) (z + 1) =
      e ∙ removed_at [] (number_of (head h.conn (size k)) ∷ []) (spell (k ⊕ h.rest) z) l 0 1 (h.spelled ∙ spell_node h.conn k h.rest z) refl refl
      ∙ spell_zeros (k ⊕ h.rest) z 1 in
      family_turn h i j (z + 1) t
      (λ g q. let o = only_some (eqb i 0 && eqb j 0 && eqb (size k) 1) k (rw (family_7 r a b) at q) in
      rw o.1 at gone)
      n

  -- Child i, one number, goes.
  pub turns_omit : 4 ≤ r → r ≤ 6 → (v : ℕ) → v + 1 ≡ get_or l 0 0 →
      out ≡ take (child_at i l) (set l 0 v) ++ (drop (child_at i l + 1) (set l 0 v) ++ replicate 1 0) → out ≡ rewritten_to r i j l
  unfolding family_at pick change omit size ◌⊕◌
  turns_omit a b v d e =
      let c = h.conn in
      let k = h.children in
      family_turn h i j (h.zeros + 1) t
      (λ g w. let o = only_some (eqb j 0 && constant_at (neutral c) (after i k)) (node c (first i k ⊕ after (suc i) k) nil)
      (rw (family_4 r a b) at w) in
      let here = constant_here (neutral c) i k (and_split (eqb j 0) _ o.0).1 in
      e ∙ child_opened (headed_group s h) i here v (headed_groups h (omega arith)) (omega arith) ∙ ap (λ m. spell (m ⊕ h.rest) (h.zeros + 1)) o.1)
      n

  -- Only the constant stays, after a head with one child.
  pub turns_absorb : r ≤ 3 → let end = child_at (size h.children) l in
      let new = set (set l 0 (get_or l 0 0 - value (get_or l 0 0) + 1)) 1 (constant_for r) in
      out ≡ take 2 new ++ (drop (2 + (end - 2)) new ++ replicate (end - 2) 0) → out ≡ rewritten_to r i j l
  unfolding family_at pick change absorb wanted ◌⊕◌
  turns_absorb b e =
      let d = deciding h.conn in
      let k = h.children in
      let sought : constant_for r ≡ number (conn_kind d) 0 = constant_number h (omega arith) ∙ rw (family_1 r b) in
      let there = (applied_child s h j (omega arith) t).there in
      family_turn h i j (h.zeros + (child_at (size k) l - 2)) t
      (λ g w. let o = only_some (eqb j 0 && constant_at d (after i k)) (node h.conn (constant d) nil) (rw (family_1 r b) at w) in
      rw sought at e ∙ only_child (headed_group s h) (headed_groups h (omega arith)) (omega arith) d (deciding_groups h.conn)
      ∙ ap (λ m. spell (m ⊕ h.rest) (h.zeros + (child_at (size k) l - 2))) o.1)
      n
