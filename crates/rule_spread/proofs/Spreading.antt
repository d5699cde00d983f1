-- Rules 9 and 10 on a stretch: what they ask of its numbers, and what becomes of them where a literal is assigned.
use mathlib.Core.Bool.{Bool, true, false, ◌||◌, not}
use mathlib.Core.List.{List, [], ◌∷◌, ◌++◌, map, map-append, append_assoc}
use mathlib.Core.Logic.{⊎_elim}
use mathlib.Core.Option.{Option, none, some}
use mathlib.Core.Path.{◌≡◌, refl, sym, ap, ap₂, subst, ◌∙◌}
use Prim.Native.Nat.{ℕ, suc, ◌+◌, ◌*◌, ◌≤◌, ◌<◌}
use native.Mathlib.Nat.{eq-or-lt_of_le}
use native.Mathlib.Numerals.{add-one}
use native.Mathlib.Omega.{arith}
use borrow.Author.Tests.{ne_eqb, lt-ltb, le-ltb, ltb-true}
use lib.Dec.{eqb}
use lib.ListN.{length, get_or, take, drop, length-append, length-map, take-append-drop}
use lib.Seq.{slice, take_at, drop_at, get_or_at, drop-cons, drop-append-le, length-take-le, length-slice, get_or-take}
use Rattle.model.specs.Base.{pick, any, is_some, then, only_if}
use Rattle.model.specs.Limits.{kind_factor}
use Rattle.model.specs.Literal.{Literal, pos, neg, option, complement, same}
use Rattle.model.specs.Forest.{Conn, or, root, Forest, nil, lit, node, ◌⊕◌, size, first, after, literal_at, mentions}
use Rattle.model.specs.Code.{leaf, head, encode, number, conn_kind, conn_value, number_of}
use Rattle.model.specs.Rules.{Row, table, row_of, neutral, deciding, assigned, spread, change, rewrite}
use Rattle.theory_forms.specs.Logic.{some_inj, is_some_only, pick_true, pick_false, only_some, then_some}
use Rattle.theory_forms.specs.Lists.{any_append}
use Rattle.theory_forms.specs.Literals.{option_complement}
use Rattle.theory_forms.specs.Forests.{conn_of_kind, cut_at, size-⊕, literal_here, size_assigned, grouping}
use Rattle.theory_forms.specs.Numbers.{amount, fits}
use Rattle.theory_reading.specs.Leaves.{leaf_literal, leaf_value, leaf_test, head_inner, head_unlike}
use Rattle.theory_reading.specs.Spans.{child_at}
use Rattle.theory_reading.specs.Flat.{spell, Fits, fits-⊕, fits_lit, fits_tree, spell-⊕}
use Rattle.theory_reading.specs.Stretches.{Stretch, forest_in}
use Rattle.theory_rewriting.specs.Heads.{Headed, rewritten_to}
use Rattle.theory_rewriting.specs.Children.{code, Group, headed_group, group_end, child_place, child_split, child_fits, child_literal, literal_within, literal_fits, literal_number, opening, spell_parts}
use Rattle.theory_rewriting.specs.Turns.{family_9, family_applies, family_turn}
use Rattle.sheet_shifts.specs.Replaced.{replaced}
use Rattle.rule_spread.specs.Assigning.{names, spreads_from, opposite, empty, assign, around}

-- A list of a head, numbers, one number, more numbers and a rest.
slice_at : (p m q : List ℕ) (a b : ℕ) {l : List ℕ} → l ≡ p ++ (m ++ q) → length p ≡ a → b ≡ a + length m → slice a b l ≡ m
slice_at p m q a b s h e =
    let long : length (p ++ m) ≡ b = omega (arith, length-append p m) in
    ap (λ t. drop a (take b t)) (s ∙ sym (append_assoc p m q)) ∙ ap (drop a) (take_at (p ++ m) q b long) ∙ drop_at p m a h

module _ (h x : ℕ) (m n q : List ℕ) {l : List ℕ} (s : l ≡ h ∷ (m ++ x ∷ (n ++ q))) {a b : ℕ} (ea : a ≡ 1 + length m) (eb : b ≡ a + 1 + length n) where
  abbrev upto : List ℕ
  upto = h ∷ (m ++ x ∷ [])

  upto_long : length upto ≡ a + 1
  upto_long = omega (arith, length-append m (x ∷ []))

  upto_cut : l ≡ upto ++ (n ++ q)
  upto_cut = s ∙ ap (λ t. h ∷ t) (sym (append_assoc m (x ∷ []) (n ++ q)))

  part_number : get_or l a 0 ≡ x
  part_number = ap (λ t. get_or t a 0) s ∙ get_or_at (h ∷ m) x (n ++ q) 0 a (omega arith)

  part_left : slice 1 a l ≡ m
  part_left = slice_at (h ∷ []) m (x ∷ (n ++ q)) 1 a s refl ea

  part_right : slice (a + 1) b l ≡ n
  part_right = slice_at upto n q (a + 1) b upto_cut upto_long eb

  part_rest : drop b l ≡ q
  part_rest =
      let long : length (upto ++ n) ≡ b = omega (arith, length-append upto n, upto_long) in
      ap (drop b) (upto_cut ∙ sym (append_assoc upto n q)) ∙ drop_at (upto ++ n) q b long

  part_upto : take (a + 1) l ≡ upto
  part_upto = ap (take (a + 1)) upto_cut ∙ take_at upto (n ++ q) (a + 1) upto_long

-- The changed list, where it is cut at a number.
part_around :
    (g : ℕ → ℕ) (h x : ℕ) (m n q : List ℕ) {l : List ℕ} →
    l ≡ h ∷ (m ++ x ∷ (n ++ q)) →
    {a b : ℕ} →
    a ≡ 1 + length m →
    b ≡ a + 1 + length n →
    around g a b l ≡ h ∷ (map g m ++ x ∷ (map g n ++ q))
unfolding around
part_around g h x m n q s ea eb =
    rw (part_left h x m n q s ea eb, part_right h x m n q s ea eb, part_number h x m n q s ea eb, part_rest h x m n q s ea eb, ap (take 1) s)

-- Any list of which two places are known is such a list.
cut_list :
    (a b : ℕ) (l : List ℕ) →
    1 ≤ a →
    a < b →
    b ≤ length l →
    l ≡ get_or l 0 0 ∷ (slice 1 a l ++ get_or l a 0 ∷ (slice (a + 1) b l ++ drop b l))
cut_list a b l one h k =
    let right : drop (a + 1) l ≡ slice (a + 1) b l ++ drop b l =
    ap (drop (a + 1)) (sym (take-append-drop b l)) ∙ drop-append-le (a + 1) (take b l) (drop b l) (omega (arith, length-take-le b l k)) in
    let here : drop a l ≡ get_or l a 0 ∷ drop (a + 1) l = drop-cons l a 0 (omega arith) ∙ ap (λ t. get_or l a 0 ∷ drop t l) (sym (add-one a)) in
    let some_first : 0 < length (take a l) = omega (arith, length-take-le a l (omega arith)) in
    let left : take a l ≡ get_or l 0 0 ∷ slice 1 a l = drop-cons (take a l) 0 0 some_first ∙ ap (λ y. y ∷ slice 1 a l) (get_or-take a l 0 0 (omega arith)) in
    sym (take-append-drop a l) ∙ ap₂ ◌++◌ left (here ∙ ap (λ t. get_or l a 0 ∷ t) right)

-- Numbers replaced before a place, and then after it.
pub twice_replaced :
    (g : ℕ → ℕ) (a b : ℕ) (l : List ℕ) {s t : List ℕ} →
    1 ≤ a →
    a < b →
    b ≤ length l →
    s ≡ take 1 l ++ (map g (slice 1 a l) ++ drop a l) →
    t ≡ take (a + 1) s ++ (map g (slice (a + 1) b s) ++ drop b s) →
    t ≡ around g a b l
twice_replaced g a b l {s} one h k e f =
    let x = get_or l a 0 in
    let m = slice 1 a l in
    let n = slice (a + 1) b l in
    let q = drop b l in
    let y = get_or l 0 0 in
    let whole : l ≡ y ∷ (m ++ x ∷ (n ++ q)) = cut_list a b l one h k in
    let ea : a ≡ 1 + length m = omega (arith, length-slice 1 a l (omega arith)) in
    let eb : b ≡ a + 1 + length n = omega (arith, length-slice (a + 1) b l k) in
    let ea' : a ≡ 1 + length (map g m) = ea ∙ ap (λ n. 1 + n) (sym (length-map m g)) in
    let rest : drop a l ≡ x ∷ (n ++ q) = ap (drop a) whole ∙ drop_at (y ∷ m) (x ∷ (n ++ q)) a (omega arith) in
    let half : s ≡ y ∷ (map g m ++ x ∷ (n ++ q)) = e ∙ ap₂ (λ p r. p ++ (map g m ++ r)) (ap (take 1) whole) rest in
    f
    ∙ rw (part_upto y x (map g m) n q half ea' eb, part_right y x (map g m) n q half ea' eb, part_rest y x (map g m) n q half ea' eb)
    (ap (λ t. y ∷ t) (append_assoc (map g m) (x ∷ []) (map g n ++ q)))
    ∙ sym (part_around g y x m n q whole ea eb)

-- The option is mentioned in trees where one of their numbers is a literal of it.
names_leaf : (v : ℕ) (x : Literal) → fits (leaf x) ≡ true → names v (number_of (leaf x)) ≡ eqb v (option x)
unfolding names
names_leaf v x h = rw (leaf_literal x h, leaf_value x h)

names_head : (v : ℕ) (c : Conn) (n : ℕ) → fits (head c n) ≡ true → names v (number_of (head c n)) ≡ false
unfolding names
names_head v c n h = rw (head_inner c n h)

mentions_code : (v : ℕ) (f : Forest) → Fits f → any (names v) (code f) ≡ mentions v f
unfolding any encode mentions
mentions_code v nil h = refl
mentions_code v (lit x f) h = let s = fits_lit x f h in rw (names_leaf v x s.0, mentions_code v f s.1)
mentions_code v (node c k f) h =
    let s = fits_tree c k f h in
    let t = fits-⊕ k f s.1 in
    rw (names_head v c (size k) s.0, map-append number_of (encode k) (encode f), any_append (names v) (code k) (code f), mentions_code v k t.0, mentions_code v f t.1)

-- Where a literal is assigned, each number is replaced on its own: the literal's by the neutral constant's, its complement's
-- by the deciding one's.
module _ (c : Conn) (l : Literal) where
  abbrev placed : ℕ → ℕ
  placed = replaced (number_of (leaf l)) (number_of (leaf (complement l))) (number_of (head (neutral c) 0)) (number_of (head (deciding c) 0))

  module _ (fit : fits (leaf l) ≡ true) where
    complement_fits : fits (leaf (complement l)) ≡ true
    unfolding fits amount
    complement_fits = rw (option_complement l) fit

    placed_leaf :
        (x : Literal) →
        fits (leaf x) ≡ true →
        placed (number_of (leaf x)) ≡ pick (same l x) (number_of (head (neutral c) 0)) (pick (same (complement l) x) (number_of (head (deciding c) 0)) (number_of (leaf x)))
    unfolding replaced
    placed_leaf x h = rw (leaf_test l x fit h, leaf_test (complement l) x complement_fits h)

    placed_head : (d : Conn) (n : ℕ) → fits (head d n) ≡ true → placed (number_of (head d n)) ≡ number_of (head d n)
    unfolding replaced pick
    placed_head d n h = rw (head_unlike d n l h fit, head_unlike d n (complement l) h complement_fits)

    assigned_code : (f : Forest) → Fits f → map placed (code f) ≡ code (assigned c l f)
    unfolding encode size assigned pick
    assigned_code nil h = refl
    assigned_code (lit x f) h =
        let s = fits_lit x f h in
        rw (placed_leaf x s.0, assigned_code f s.1) (go (same l x) (same (complement l) x) (assigned c l f))
      where
        go :
            (a b : Bool) (g : Forest) →
            pick a (number_of (head (neutral c) 0)) (pick b (number_of (head (deciding c) 0)) (number_of (leaf x))) ∷ code g ≡ code (pick a (node (neutral c) nil g) (pick b (node (deciding c) nil g) (lit x g)))
        go true b g = refl
        go false true g = refl
        go false false g = refl
    assigned_code (node d k f) h =
        let s = fits_tree d k f h in
        let t = fits-⊕ k f s.1 in
        rw (placed_head d (size k) s.0, size_assigned c l k, map-append number_of (encode k) (encode f), map-append placed (code k) (code f), assigned_code k t.0, assigned_code f t.1, map-append number_of (encode (assigned c l k)) (encode (assigned c l f)))

-- A literal among a group's children: the list cut at its number.
module _ {l : List ℕ} {c : Conn} {k f : Forest} {z : ℕ} (g : Group l c k f z) (i : ℕ) {x : Literal} (e : literal_at (after i k) ≡ some x) where
  abbrev before : Forest
  before = first i k

  abbrev behind : Forest
  behind = after (suc i) k

  fit_before : Fits before
  fit_before = (child_fits g i (omega (arith, literal_within g i e))).0

  cut : l ≡ number_of (head c (size k)) ∷ (code before ++ number_of (leaf x) ∷ (code behind ++ spell f z))
  unfolding encode
  cut =
      let there : spell (after i k ⊕ f) z ≡ number_of (leaf x) ∷ (code behind ++ spell f z) = ap (λ t. spell (t ⊕ f) z) (literal_here i k e) ∙ spell-⊕ (lit x behind) f z in
      child_split g i (omega (arith, literal_within g i e)) ∙ ap (λ t. opening c k i ++ t) there

  cut_place : child_at i l ≡ 1 + length (code before)
  cut_place = omega (arith, child_place g i (omega (arith, literal_within g i e)))

  cut_end : child_at (size k) l ≡ child_at i l + 1 + length (code behind)
  unfolding encode
  cut_end = omega (arith, group_end g i (omega (arith, literal_within g i e)), ap (λ t. length (encode t)) (literal_here i k e), length-map (encode behind) number_of)

  -- What stands around it, and what a change around it gives.
  cut_mentions : spreads_from (child_at i l) (child_at (size k) l) l ≡ (mentions (option x) before || mentions (option x) behind)
  unfolding spreads_from
  cut_mentions =
      let h = number_of (head c (size k)) in
      let n = number_of (leaf x) in
      rw (literal_number g i e, part_left h n (code before) (code behind) (spell f z) cut cut_place cut_end, part_right h n (code before) (code behind) (spell f z) cut cut_place cut_end, leaf_literal x (literal_fits g i e).0, leaf_value x (literal_fits g i e).0, mentions_code (option x) before fit_before, mentions_code (option x) behind (literal_fits g i e).1)

  cut_assigned : around (placed c x) (child_at i l) (child_at (size k) l) l ≡ spell (node c (assigned c x before ⊕ lit x (assigned c x behind)) f) z
  unfolding encode size
  cut_assigned =
      let n = number_of (leaf x) in
      let p = assigned c x before in
      let q = assigned c x behind in
      let same_size : size k ≡ size (p ⊕ lit x q) =
      omega (arith, size-⊕ p (lit x q), size-⊕ before (lit x behind), ap size (cut_at i k _ (literal_here i k e)), size_assigned c x before, size_assigned c x behind) in
      part_around (placed c x) (number_of (head c (size k))) n (code before) (code behind) (spell f z) cut cut_place cut_end
      ∙ rw (assigned_code c x (literal_fits g i e).0 before fit_before, assigned_code c x (literal_fits g i e).0 behind (literal_fits g i e).1, same_size) (ap (λ t. number_of (head c (size (p ⊕ lit x q))) ∷ (code p ++ t)) (sym (spell-⊕ (lit x q) f z)))
      ∙ sym (spell_parts c p (lit x q) f z)

-- What rules 9 and 10 ask of a group's children.
no_second : (c : Conn) (i j : ℕ) (k : Forest) → (j ≡ 0 → ⊥) → is_some (spread c i j k) ≡ false
unfolding spread then only_if is_some
no_second c i j k n = rw (ne_eqb j 0 n) (go (literal_at (after i k)))
  where
    go : (o : Option Literal) → is_some (then {B = Forest} o (λ l. none)) ≡ false
    go none = refl
    go (some l) = refl

spread_asked :
    {l : List ℕ} {c : Conn} {k f : Forest} {z : ℕ} (g : Group l c k f z) (i : ℕ) →
    i < size k →
    is_some (spread c i 0 k) ≡ spreads_from (child_at i l) (child_at (size k) l) l
unfolding spread spreads_from then is_some
spread_asked {l} {c} {k} g i h = go (literal_at (after i k)) refl
  where
    go : (o : Option Literal) → literal_at (after i k) ≡ o → is_some (spread c i 0 k) ≡ spreads_from (child_at i l) (child_at (size k) l) l
    go none e = rw (child_literal g i h, e)
    go (some x) e = rw (cut_mentions g i e, e) (is_some_only (mentions (option x) (first i k) || mentions (option x) (after (suc i) k)) _)

-- The test, on the numbers.
module _ {r : ℕ} {l : List ℕ} (s : Stretch l) (h : Headed r l) (i j : ℕ) (lo : 9 ≤ r) (hi : r ≤ 10) where
  applies_spread : is_some (rewrite r i j (forest_in l)) ≡ is_some (spread h.conn i j h.children)
  unfolding change
  applies_spread = family_applies h i j ∙ rw (family_9 r lo hi)

  pub applies_none : (j ≡ 0 → ⊥) → false ≡ is_some (rewrite r i j (forest_in l))
  applies_none n = sym (applies_spread ∙ no_second h.conn i j h.children n)

  pub applies_around :
      j ≡ 0 →
      i < size h.children →
      spreads_from (child_at i l) (child_at (size h.children) l) l ≡ is_some (rewrite r i j (forest_in l))
  applies_around e n = sym (applies_spread ∙ rw e (spread_asked (headed_group s h) i n))

-- The numbers that the code puts for a literal and its complement.
opposite_number : (x : Literal) → fits (leaf x) ≡ true → opposite (number_of (leaf x)) ≡ number_of (leaf (complement x))
unfolding opposite number_of number complement fits amount option
opposite_number (pos v) h = let small = ltb-true v kind_factor h in pick_true _ _ _ (lt-ltb (kind_factor + v) (2 * kind_factor) (omega arith)) ∙ omega arith
opposite_number (neg v) h = pick_false _ _ _ (le-ltb (2 * kind_factor + v) (2 * kind_factor) (omega arith)) ∙ omega arith

abbrev Put : ℕ → Conn → Type 0
Put r c = (empty (eqb r 9) ≡ number_of (head (neutral c) 0)) × (empty (not (eqb r 9)) ≡ number_of (head (deciding c) 0))

empty_groups : (r : ℕ) {w : Row} (c : Conn) → 9 ≤ r → r ≤ 10 → row_of r ≡ some w → w.kind ≡ conn_kind c → Put r c
unfolding row_of table empty pick neutral deciding number_of number conn_kind conn_value grouping
empty_groups r {w} c lo hi e k =
    ⊎_elim
    (λ q. let same : or ≡ c = sym (conn_of_kind c or refl (sym (ap (λ v. v.kind) (some_inj (ap row_of q ∙ e)) ∙ k))) in
    subst (λ n. Put n c) q (subst (Put 9) same (refl, refl)))
    (λ q. let t : 10 ≡ r = omega arith in
    let same : root ≡ c = sym (conn_of_kind c root refl (sym (ap (λ v. v.kind) (some_inj (ap row_of t ∙ e)) ∙ k))) in
    subst (λ n. Put n c) t (subst (Put 10) same (refl, refl)))
    (eq-or-lt_of_le lo)

-- The step, on the numbers.
module _ {r : ℕ} {l : List ℕ} (s : Stretch l) (h : Headed r l) (i j : ℕ) (lo : 9 ≤ r) (hi : r ≤ 10) (t : is_some (rewrite r i j (forest_in l)) ≡ true) where
  pub turns_spread :
      {out : List ℕ} →
      length out ≡ length l →
      out ≡ around (assign (eqb r 9) (get_or l (child_at i l) 0)) (child_at i l) (child_at (size h.children) l) l →
      out ≡ rewritten_to r i j l
  unfolding assign change spread ◌⊕◌
  turns_spread n e =
      let g = headed_group s h in
      let c = h.conn in
      let k = h.children in
      let put = empty_groups r c lo hi h.its_row h.its_kind in
      family_turn h i j h.zeros t
      (λ new w. let o = then_some (literal_at (after i k)) _ (rw (family_9 r lo hi) at w) in
      let x = o.0 in
      let here = o.1 in
      e ∙ rw (literal_number g i here, opposite_number x (literal_fits g i here).0, put.0, put.1) (cut_assigned g i here) ∙ ap (λ f. spell (f ⊕ h.rest) h.zeros) (only_some _ (node c (assigned c x (first i k) ⊕ lit x (assigned c x (after (suc i) k))) nil) o.2).1)
      n
