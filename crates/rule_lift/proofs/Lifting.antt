-- Rules 11 to 13 on a stretch: what they ask of its numbers, and what becomes of them.
use mathlib.Core.Bool.{Bool, true, false, ◌&&◌}
use mathlib.Core.List.{List, ◌∷◌, ◌++◌}
use mathlib.Core.Option.{some}
use mathlib.Core.Path.{◌≡◌, refl, sym, ap, ap₂, ◌∙◌}
use Prim.Native.Nat.{ℕ, suc, ◌+◌, ◌-◌, ◌≤◌, ◌<◌}
use native.Mathlib.Numerals.{add-one}
use native.Mathlib.Omega.{arith}
use borrow.Author.Tests.{le-leb, lt-leb, eq-eqb, ne_eqb, ltb-true, ltb-false}
use lib.Dec.{eqb, leb, ltb}
use lib.ListN.{length, get_or, take, drop, set, replicate}
use lib.Seq.{slice, slice_empty, slice-cons, take-add, drop_at, length-take-le, set_at}
use Rattle.model.specs.Base.{pick, all, is_some, then}
use Rattle.model.specs.Literal.{Literal}
use Rattle.model.specs.Forest.{Conn, and, Forest, nil, lit, node, ◌⊕◌, size, first, after, literal_at, conjunction_at, literals_only}
use Rattle.model.specs.Code.{leaf, head, encode, children, number, conn_kind, number_of}
use Rattle.model.specs.Rules.{lift, merge, lifts, merges, change, rewrite}
use Rattle.theory_forms.specs.Logic.{true_false, some_inj, fails_if, pick_keeps, is_some_of, is_some_only, is_some_then, is_some_first, only_some, then_some}
use Rattle.theory_forms.specs.Forests.{size-⊕, size_first, size_after, past_end, conjunction_here, literal_here, grouping}
use Rattle.theory_forms.specs.Numbers.{head_number}
use Rattle.theory_forms.specs.Scan.{is_literal}
use Rattle.theory_reading.specs.Leaves.{leaf_literal, head_inner}
use Rattle.theory_reading.specs.Spans.{child_at}
use Rattle.theory_reading.specs.Flat.{spell, spell-⊕, Fits, fits-⊕, fits_lit, fits_tree}
use Rattle.theory_reading.specs.Stretches.{Stretch, forest_in}
use Rattle.theory_rewriting.specs.Heads.{Headed, headed_groups, rewritten_to}
use Rattle.theory_rewriting.specs.Children.{moved_at, first_left, code, spell_parts, Group, group_head, group_children, group_bounds, opening, child_opened, child_within, child_place, headed_group, child_stands, child_room, child_fits, child_split, child_group, child_literal, literal_within, conjunction_group}
use Rattle.theory_rewriting.specs.Turns.{family_at, family_11, family_applies, family_turn}
use Rattle.rule_lift.specs.Asked.{literal_child, others_literal}

-- Trees that are literals, counted by their numbers.
literals_code : (g : Forest) (r : List ℕ) → Fits g → all is_literal (take (size g) (code g ++ r)) ≡ literals_only g
unfolding all literals_only encode size
literals_code nil r h = refl
literals_code (lit x g) r h =
    let s = fits_lit x g h in
    ap₂ ◌&&◌ (leaf_literal x s.0) (literals_code g r s.1)
literals_code (node c k g) r h = rw (head_inner c (size k) (fits_tree c k g h).0)

-- One number more that the loop has passed.
pub literals_next : (k to : ℕ) (l : List ℕ) → k < to → to ≤ length l → is_literal (get_or l k 0) ≡ true →
    all is_literal (slice (k + 1) to l) ≡ all is_literal (slice k to l)
unfolding all
literals_next k to l a b e = rw (slice-cons k to l 0 a b, e, add-one)

pub literals_none : (k to : ℕ) (l : List ℕ) → k < to → to ≤ length l → is_literal (get_or l k 0) ≡ false →
    all is_literal (slice k to l) ≡ false
unfolding all
literals_none k to l a b e = rw (slice-cons k to l 0 a b, e)

pub literals_over : (to : ℕ) (l : List ℕ) → all is_literal (slice to to l) ≡ true
unfolding all
literals_over to l = rw (slice_empty to l)

-- So many numbers from a place on as there are trees, where those trees stand.
literals_seen : (g : Forest) (from : ℕ) (l r : List ℕ) → from ≤ length l → Fits g → drop from l ≡ code g ++ r →
    all is_literal (slice from (from + size g) l) ≡ literals_only g
literals_seen g from l r h w e =
    ap (λ t. all is_literal (drop from t)) (take-add from (size g) l)
    ∙ ap (all is_literal) (drop_at (take from l) (take (size g) (drop from l)) from (length-take-le from l h) ∙ ap (take (size g)) e)
    ∙ literals_code g r w

others_literals : {l : List ℕ} {c : Conn} {k f : Forest} {z : ℕ} → Group l c k f z → (i : ℕ) → i < size k →
    others_literal i (size k) l ≡ (literals_only (first i k) && literals_only (after (suc i) k))
unfolding others_literal
others_literals {l} {c} {k} {f} {z} g i h =
    let before = size_first i k (omega arith) in
    let later : size (after (suc i) k) ≡ size k - 1 - i = omega (arith, size_after (suc i) k) in
    let room = child_room g (suc i) h in
    let there : drop (child_at (suc i) l) l ≡ code (after (suc i) k) ++ spell f z = child_stands g (suc i) h ∙ spell-⊕ (after (suc i) k) f z in
    let left = literals_seen (first i k) 1 l (spell (after i k ⊕ f) z) (omega arith) (child_fits g i (omega arith)).0
    (ap (drop 1) (child_split g i (omega arith))) in
    let right = literals_seen (after (suc i) k) (child_at (suc i) l) l (spell f z) (omega arith)
    (fits-⊕ (after (suc i) k) f (child_fits g (suc i) h).1).0 there in
    rw add-one (ap₂ ◌&&◌ (rw before at left) (rw later at right))

-- A child that is a literal.
literal_child_place : {l : List ℕ} {c : Conn} {k f : Forest} {z : ℕ} → Group l c k f z → (j : ℕ) →
    literal_child j l ≡ is_some (literal_at (after j k))
unfolding literal_child literal_at is_some
literal_child_place {l} {k = k} g j = rw (group_children g) (go (ltb j (size k)) refl)
  where
    go : (b : Bool) → ltb j (size k) ≡ b → (b && is_literal (get_or l (child_at j l) 0)) ≡ is_some (literal_at (after j k))
    go true e = child_literal g j (ltb-true j (size k) e)
    go false e = sym (ap (λ t. is_some (literal_at t)) (past_end j k (ltb-false j (size k) e)))

-- What the families ask.
late_family : (r : ℕ) → 11 ≤ r → r ≤ 13 → family_at r ≡ pick (leb r 12) lifts merges
unfolding family_at pick
late_family r a b =
    rw (lt-leb r 3 (omega arith), lt-leb r 6 (omega arith), lt-leb r 8 (omega arith), lt-leb r 10 (omega arith), le-leb r 13 b)

module _ (r : ℕ) (c : Conn) (i j : ℕ) (k : Forest) where
  conjunction_asked : 11 ≤ r → r ≤ 13 → is_some (change (family_at r) c i j k) ≡ true → is_some (conjunction_at (after i k)) ≡ true
  unfolding change lift merge
  conjunction_asked a b =
      rw (late_family r a b)
      (pick_keeps (λ x. is_some (change x c i j k) ≡ true → is_some (conjunction_at (after i k)) ≡ true) (leb r 12)
      (is_some_first (conjunction_at (after i k)) _) (is_some_first (conjunction_at (after i k)) _))

  module _ {m : Forest} (e : conjunction_at (after i k) ≡ some m) where
    literal_asked : 11 ≤ r → r ≤ 12 → is_some (change (family_at r) c i j k) ≡ is_some (literal_at (after j m))
    unfolding change lift then
    literal_asked a b = rw (family_11 r a b, e) (is_some_then (literal_at (after j m)) _)

    others_asked : r ≡ 13 →
        is_some (change (family_at r) c i j k) ≡ (eqb j 0 && literals_only (first i k) && literals_only (after (suc i) k))
    unfolding family_at pick change merge then
    others_asked q = rw (q, e) (is_some_only _ _)

-- The test, on the numbers.
module _ {r : ℕ} {l : List ℕ} (s : Stretch l) (h : Headed r l) (i j : ℕ) where
  pub applies_nothing : 11 ≤ r → r ≤ 13 → is_some (conjunction_at (after i h.children)) ≡ false →
      false ≡ is_some (rewrite r i j (forest_in l))
  applies_nothing a b e =
      sym (fails_if (is_some (rewrite r i j (forest_in l)))
      (λ t. true_false (sym (conjunction_asked r h.conn i j h.children a b (sym (family_applies h i j) ∙ t)) ∙ e)))

  -- Child i is a conjunction.
  module _ {m : Forest} (e : conjunction_at (after i h.children) ≡ some m) where
    pub applies_literal : 11 ≤ r → r ≤ 12 → literal_child j (drop (child_at i l) l) ≡ is_some (rewrite r i j (forest_in l))
    applies_literal a b =
        literal_child_place (conjunction_group s h i e) j ∙ sym (family_applies h i j ∙ literal_asked r h.conn i j h.children e a b)

    applies_beside : r ≡ 13 →
        is_some (rewrite r i j (forest_in l)) ≡ (eqb j 0 && literals_only (first i h.children) && literals_only (after (suc i) h.children))
    applies_beside q = family_applies h i j ∙ others_asked r h.conn i j h.children e q

    pub applies_others_none : r ≡ 13 → (j ≡ 0 → ⊥) → false ≡ is_some (rewrite r i j (forest_in l))
    applies_others_none q n = sym (applies_beside q ∙ rw (ne_eqb j 0 n))

    pub applies_others : r ≡ 13 → j ≡ 0 → i < size h.children →
        others_literal i (size h.children) l ≡ is_some (rewrite r i j (forest_in l))
    applies_others q n b = others_literals (headed_group s h) i b ∙ sym (applies_beside q ∙ rw (eq-eqb j 0 n))

-- Where the literal of an inner conjunction moves to before it.
literal_moved : {l : List ℕ} {c : Conn} {k f : Forest} {z : ℕ} (g : Group l c k f z) → grouping c ≡ true → (i j : ℕ) {m q u : Forest} {x : Literal} →
    after i k ≡ node and m q → after j m ≡ lit x u → let a = child_at i l in let b = a + child_at j (drop a l) in
    let new = set (set l 0 (get_or l 0 0 + 1)) a (get_or l a 0 - 1) in
    take a new ++ (get_or new b 0 ∷ take (b - a) (drop a new) ++ drop (b + 1) new) ≡ spell
    (node c (first i k ⊕ lit x (node and (first j m ⊕ u) q)) f) z
unfolding spell encode size number ◌⊕◌ grouping conn_kind
literal_moved {l} {c} {k} {f} {z} g grouped i j {m} {q} {u} {x} e w =
    let a = child_at i l in
    let b = a + child_at j (drop a l) in
    let v = get_or l 0 0 + 1 in
    let y = get_or l a 0 - 1 in
    let p = first i k in
    let o = first j m in
    let r = spell (u ⊕ (q ⊕ f)) z in
    let here = child_within i k e in
    let h : i ≤ size k = omega arith in
    let d : Group (drop a l) and m (q ⊕ f) z = child_group g i e in
    let n : j ≤ size m = omega (arith, size_after j m, ap size w) in
    let inside : spell (after i k ⊕ f) z ≡ opening and m j ++ number_of (leaf x) ∷ r =
    sym (child_stands g i h) ∙ child_split d j n ∙ ap (λ t. opening and m j ++ spell (t ⊕ (q ⊕ f)) z) w in
    let split : l ≡ opening c k i ++ (opening and m j ++ number_of (leaf x) ∷ r) = child_split g i h ∙ ap (λ t. opening c k i ++ t) inside in
    let put : set (set l 0 v) a y ≡ (v ∷ code p) ++ ((y ∷ code o) ++ number_of (leaf x) ∷ r) =
    ap (λ t. set (set t 0 v) a y) split
    ∙ set_at (v ∷ code p) (number_of (head and (size m))) (code o ++ number_of (leaf x) ∷ r) y a (child_place g i h) in
    let new : v ≡ number_of (head c (size (p ⊕ lit x (node and (o ⊕ u) q)))) =
    omega (
      arith,
      group_head g grouped,
      head_number c (size (p ⊕ lit x (node and (o ⊕ u) q))) grouped,
      size_after i k,
      ap size e,
      size-⊕ p (lit x (node and (o ⊕ u) q)),
      size_first i k h,
    ) in
    let less : y ≡ number_of (head and (size (o ⊕ u))) =
    omega (arith, first_left a l, head_number and (size (o ⊕ u)) refl, group_head d refl, size_after j m, ap size w, size-⊕ o u, size_first j m n) in
    moved_at (v ∷ code p) (y ∷ code o) r (set (set l 0 v) a y) (number_of (leaf x)) a b put (child_place g i h) (omega (arith, child_place d j n))
    ∙ ap₂ (λ s t. s ∷ (code p ++ number_of (leaf x) ∷ (t ∷ (code o ++ r)))) new less
    ∙ sym (spell_parts c p (lit x (node and (o ⊕ u) q)) f z
    ∙ ap (λ t. number_of (head c (size (p ⊕ lit x (node and (o ⊕ u) q)))) ∷ (code p ++ number_of (leaf x) ∷ t)) (spell_parts and o u (q ⊕ f) z))

-- The step, on the numbers.
module _ {r : ℕ} {l : List ℕ} (s : Stretch l) (h : Headed r l) (i j : ℕ) (t : is_some (rewrite r i j (forest_in l)) ≡ true) where
  -- The conjunction among the children, and the place of its literal.
  pub conjunction_there : 11 ≤ r → r ≤ 13 → (m : Forest) × (conjunction_at (after i h.children) ≡ some m)
  conjunction_there a b =
      is_some_of (conjunction_at (after i h.children)) (conjunction_asked r h.conn i j h.children a b (sym (family_applies h i j) ∙ t))

  pub inner_within : 11 ≤ r → r ≤ 12 → {m : Forest} → conjunction_at (after i h.children) ≡ some m → j < size m
  inner_within a b {m} e =
      let w = is_some_of (literal_at (after j m)) (sym (family_applies h i j ∙ literal_asked r h.conn i j h.children e a b) ∙ t) in
      literal_within (conjunction_group s h i e) j w.1

  -- The conjunction's head goes.
  pub turns_merge : {out : List ℕ} {a x m : ℕ} → r ≡ 13 → length out ≡ length l → a ≡ child_at i l → x ≡ get_or l 0 0 →
      m ≡ children (get_or l (child_at i l) 0) → let new = set l 0 (x + m - 1) in
      out ≡ take a new ++ (drop (a + 1) new ++ replicate 1 0) → out ≡ rewritten_to r i j l
  unfolding family_at pick change merge ◌⊕◌
  turns_merge q n at_place at_head more_children e =
      let c = h.conn in
      let k = h.children in
      let g = headed_group s h in
      family_turn h i j (h.zeros + 1) t
      (λ new w. let o = then_some (conjunction_at (after i k)) _ (rw q at w) in
      let m = o.0 in
      let here = conjunction_here i k o.1 in
      let more : get_or l 0 0 + children (get_or l (child_at i l) 0) - 1 + 1 ≡ get_or l 0 0 + size m =
      rw (← first_left (child_at i l) l) (omega (arith, group_children (child_group g i here), group_bounds g)) in
      rw (at_place, at_head, more_children) at e ∙ child_opened g i here _ (headed_groups h (omega arith)) more
      ∙ ap (λ f. spell (f ⊕ h.rest) (h.zeros + 1)) (only_some _ (node c (first i k ⊕ m ⊕ after (suc i) k) nil) o.2).1)
      n

  -- The literal moves.
  pub turns_lift : {out : List ℕ} {a d y : ℕ} → 11 ≤ r → r ≤ 12 → length out ≡ length l → a ≡ child_at i l →
      d ≡ child_at j (drop (child_at i l) l) → y ≡ get_or l (child_at i l) 0 →
      let new = set (set l 0 (get_or l 0 0 + 1)) a (y - 1) in
      out ≡ take a new ++ (get_or new (a + d) 0 ∷ take (a + d - a) (drop a new) ++ drop (a + d + 1) new) → out ≡ rewritten_to r i j l
  unfolding change lift ◌⊕◌
  turns_lift a b n at_place inner_place head_there e =
      let k = h.children in
      family_turn h i j h.zeros t
      (λ new w. let o = then_some (conjunction_at (after i k)) _ (rw (family_11 r a b) at w) in
      let v = then_some (literal_at (after j o.0)) _ o.2 in
      rw (head_there, at_place, inner_place) at e
      ∙ literal_moved (headed_group s h) (headed_groups h (omega arith)) i j (conjunction_here i k o.1) (literal_here j o.0 v.1)
      ∙ ap (λ f. spell (f ⊕ h.rest) h.zeros) (some_inj v.2))
      n
