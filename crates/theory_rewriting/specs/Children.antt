-- A group at the start of a list of numbers: its head, where its children begin, and what stands there; and what a list becomes
-- where numbers go or move.
use Rattle.std.specs.Prelude.{true, ◌&&◌, List, [], ◌∷◌, ◌++◌, map, ◌≡◌, ℕ, suc, ◌+◌, ◌-◌, ◌≤◌, ◌<◌, take, drop, set, replicate}
use Rattle.std.proofs.Common.{append_assoc, ◌∙◌, add-zero, length-append, take_at, drop_at, get_or-drop, drop-drop}
use Rattle.std.proofs.Math.Option.{some}
use Rattle.std.proofs.Math.Path.{refl, sym, ap, ap₂}
use native.Mathlib.Omega.{arith}
use borrow.Author.Tests.{eqb-true, eq-eqb, ne_eqb, ltb-true}
use Rattle.std.proofs.Math.Dec.{eqb}
use Rattle.std.proofs.Math.ListN.{length, get_or}
use Rattle.std.proofs.lemmas.List.{length-map, length-replicate, replicate-append-replicate, get_or_at}
use Rattle.model.specs.Base.{all, maybe, is_some, then}
use Rattle.model.specs.Limits.{kind_factor, sheet_room}
use Rattle.model.specs.Literal.{Literal, pos, neg, option}
use Rattle.model.specs.Forest.{Conn, and, or, root, at_least, same_conn, Forest, nil, lit, node, ◌⊕◌, size, first, after, kids, literal_at, conjunction_at, constant_at}
use Rattle.model.specs.Code.{Node, leaf, head, encode, kind, children, number, conn_kind, conn_value, number_of}
use Rattle.model.specs.Rules.{change, rewrite}
use Rattle.theory_forms.specs.Logic.{is_some_of, is_some_then, and_split, and_join, same_test}
use Rattle.theory_forms.specs.Forests.{⊕-nil, first-⊕, grouping, conn_of_kind, same_conn_is, same_conn_self, ⊕-assoc, node-⊕, first_after, size_first, size_after, size-⊕, literal_here, conjunction_here}
use Rattle.theory_forms.specs.Codes.{encode-⊕, size_length}
use Rattle.theory_rewriting.specs.Bounds.{child_needed}
use Rattle.theory_forms.specs.Numbers.{fits, amount, fits_amount, kind_number, group_value, head_number, head_few, head_kind}
use Rattle.theory_forms.specs.Scan.{is_literal}
use Rattle.theory_reading.specs.Spans.{span, child_at}
use Rattle.theory_reading.specs.Flat.{spell, spell-⊕, spell_node, Fits, fits-⊕, fits_lit, fits_tree}
use Rattle.theory_reading.specs.Stretches.{Stretch, forest_in, spell_to}
use Rattle.theory_rewriting.specs.Heads.{Headed, headed_rewrite, rewritten_to, conn_kind_bounds, first_node, child_start}

-- Numbers that go: those after them move up, and zeros follow. A number that moves to before others.
pub removed_at : (p m q s : List ℕ) (start count : ℕ) → s ≡ p ++ (m ++ q) → length p ≡ start → length m ≡ count →
    take start s ++ (drop (start + count) s ++ replicate count 0) ≡ p ++ (q ++ replicate count 0)
removed_at p m q s start count e a b =
    let rest : drop (start + count) s ≡ q =
    sym (drop-drop count start s) ∙ ap (λ t. drop count (drop start t)) e ∙ ap (drop count) (drop_at p (m ++ q) start a) ∙ drop_at m q count b in
    ap₂ (λ t u. t ++ (u ++ replicate count 0)) (ap (take start) e ∙ take_at p (m ++ q) start a) rest

pub moved_at : (p m q s : List ℕ) (x to from : ℕ) → s ≡ p ++ (m ++ x ∷ q) → length p ≡ to → length m + to ≡ from →
    take to s ++ (get_or s from 0 ∷ take (from - to) (drop to s) ++ drop (from + 1) s) ≡ p ++ (x ∷ m ++ q)
moved_at p m q s x to from e a b =
    let whole : s ≡ (p ++ m) ++ x ∷ q = e ∙ sym (append_assoc p m (x ∷ q)) in
    let long : length (p ++ m) ≡ from = omega (arith, length-append p m) in
    let left : length m ≡ from - to = omega arith in
    let rest : drop from s ≡ x ∷ q = ap (drop from) whole ∙ drop_at (p ++ m) (x ∷ q) from long in
    let tail : drop (from + 1) s ≡ q = sym (drop-drop 1 from s) ∙ ap (drop 1) rest in
    let moved : get_or s from 0 ≡ x = ap (λ t. get_or t from 0) whole ∙ get_or_at (p ++ m) x q 0 from long in
    let between : take (from - to) (drop to s) ≡ m =
    ap (λ t. take (from - to) (drop to t)) e ∙ ap (take (from - to)) (drop_at p (m ++ x ∷ q) to a) ∙ take_at m (x ∷ q) (from - to) left in
    let front : take to s ≡ p = ap (take to) e ∙ take_at p (m ++ x ∷ q) to a in
    rw (front, moved, between, tail)

-- The first number of what is left from a place on.
pub first_left : (n : ℕ) (l : List ℕ) → get_or (drop n l) 0 0 ≡ get_or l n 0
first_left n l = get_or-drop n l 0 0 ∙ ap (λ m. get_or l m 0) (add-zero n)

-- The numbers of a forest's code.
abbrev pub code : Forest → List ℕ
code f = map number_of (encode f)

-- More zeros after a forest; so many that they fill a given length.
pub spell_zeros : (f : Forest) (z w : ℕ) → spell f z ++ replicate w 0 ≡ spell f (z + w)
unfolding spell
spell_zeros f z w =
    append_assoc (code f) (replicate z 0) (replicate w 0) ∙ ap (λ t. code f ++ t) (replicate-append-replicate z w 0)

spell_length : (f : Forest) (z : ℕ) → length (spell f z) ≡ length (encode f) + z
unfolding spell
spell_length f z = simp (length-append, length-map, length-replicate)

pub spell_fills : (f : Forest) (z n : ℕ) → length (spell f z) ≡ n → spell f z ≡ spell_to n f
unfolding spell_to
spell_fills f z n e = let left : z ≡ n - length (encode f) = omega (arith, spell_length f z) in ap (spell f) left

-- A group with its children in two parts.
pub spell_parts : (c : Conn) (p q f : Forest) (z : ℕ) →
    spell (node c (p ⊕ q) f) z ≡ number_of (head c (size (p ⊕ q))) ∷ (code p ++ spell (q ⊕ f) z)
spell_parts c p q f z =
    spell_node c (p ⊕ q) f z
    ∙ ap (λ t. number_of (head c (size (p ⊕ q))) ∷ t) (ap (λ g. spell g z) (⊕-assoc p q f) ∙ spell-⊕ p (q ⊕ f) z)

-- What the first number of a list says of the first tree that it spells.
module _ (z : ℕ) (f : Forest) where
  fit_first : (x : Node) (ns : List Node) → all fits (x ∷ ns) ≡ true → fits x ≡ true
  unfolding all
  fit_first x ns h = (and_split (fits x) (all fits ns) h).0

  first_constant : (d : Conn) → grouping d ≡ true → (g : Forest) → 1 ≤ size g → Fits (g ⊕ f) →
      eqb (get_or (spell (g ⊕ f) z) 0 0) (number (conn_kind d) 0) ≡ constant_at d g
  unfolding constant_at spell encode ◌⊕◌ size number_of number fits amount option
  first_constant d o nil n h = absurd (omega arith)
  first_constant d o (lit (pos v) g) n h =
      let small = ltb-true v kind_factor (fit_first _ _ h) in
      ne_eqb (number 1 v) (number (conn_kind d) 0) (λ e. omega (arith, conn_kind_bounds d))
  first_constant d o (lit (neg v) g) n h =
      let small = ltb-true v kind_factor (fit_first _ _ h) in
      ne_eqb (number 2 v) (number (conn_kind d) 0) (λ e. omega (arith, conn_kind_bounds d))
  first_constant d o (node c k g) n h =
      let v = conn_value c (size k) in
      let small = ltb-true v kind_factor (fits_amount (head c (size k)) (fit_first _ _ h)) in
      same_test (eqb (number (conn_kind c) v) (number (conn_kind d) 0)) (same_conn d c && eqb (size k) 0)
      (λ e. let q = eqb-true (number (conn_kind c) v) (number (conn_kind d) 0) e in
      let same : c ≡ d = conn_of_kind c d o (omega arith) in
      let none : size k ≡ 0 = sym (group_value d (size k) o) ∙ ap (λ b. conn_value b (size k)) (sym same) ∙ omega arith in
      rw same (and_join (same_conn_self d) (eq-eqb (size k) 0 none)))
      (λ e. let t = and_split (same_conn d c) (eqb (size k) 0) e in
      let there = ap₂ (λ b m. number (conn_kind b) (conn_value b m)) (sym (same_conn_is d c t.0)) (eqb-true (size k) 0 t.1) in
      eq-eqb _ _ (there ∙ ap (number (conn_kind d)) (group_value d 0 o)))

  first_kind : (g : Forest) → 1 ≤ size g → Fits (g ⊕ f) → let x = get_or (spell (g ⊕ f) z) 0 0 in
      (is_literal x ≡ is_some (literal_at g)) × (eqb (kind x) 3 ≡ is_some (conjunction_at g))
  unfolding literal_at conjunction_at is_some is_literal conn_kind spell encode ◌⊕◌ size number_of fits option
  first_kind nil n h = absurd (omega arith)
  first_kind (lit (pos v) g) n h = rw (kind_number 1 v (fit_first _ _ h)) (refl, refl)
  first_kind (lit (neg v) g) n h = rw (kind_number 2 v (fit_first _ _ h)) (refl, refl)
  first_kind (node and k g) n h = rw (head_kind and (size k) (fit_first _ _ h)) (refl, refl)
  first_kind (node or k g) n h = rw (head_kind or (size k) (fit_first _ _ h)) (refl, refl)
  first_kind (node root k g) n h = rw (head_kind root (size k) (fit_first _ _ h)) (refl, refl)
  first_kind (node (at_least a) k g) n h = rw (head_kind (at_least a) (size k) (fit_first _ _ h)) (refl, refl)

-- A list that spells a group, trees after it, and zeros.
pub record Group (l : List ℕ) (c : Conn) (k f : Forest) (z : ℕ) : Type 0 where
  pub spelled : l ≡ spell (node c k f) z
  pub fitting : Fits (node c k f)

pub headed_group : {r : ℕ} {l : List ℕ} → Stretch l → (h : Headed r l) → Group l h.conn h.children h.rest h.zeros
headed_group s h = record { spelled = h.spelled; fitting = rw h.forest at s.fitting }

-- A child that is there has an index below the number of children.
pub child_within : (i : ℕ) (k : Forest) {d : Conn} {m q : Forest} → after i k ≡ node d m q → i < size k
unfolding size
child_within i k e = omega (arith, size_after i k, ap size e)

-- A group's head and its first i children.
abbrev pub opening : Conn → Forest → ℕ → List ℕ
opening c k i = number_of (head c (size k)) ∷ code (first i k)

module _ {l : List ℕ} {c : Conn} {k f : Forest} {z : ℕ} (g : Group l c k f z) where
  -- The head, as a number; that of a connective of document 01; fewer than 4,096 children.
  pub group_first : get_or l 0 0 ≡ number_of (head c (size k))
  group_first = ap (λ t. get_or t 0 0) (g.spelled ∙ spell_node c k f z)

  pub group_head : grouping c ≡ true → get_or l 0 0 ≡ number (conn_kind c) (size k)
  group_head o = group_first ∙ head_number c (size k) o

  pub group_few : size k < kind_factor
  group_few = head_few c (size k) (fits_tree c k f g.fitting).0

  pub group_bounds : (12288 ≤ get_or l 0 0) × (get_or l 0 0 < 28672)
  unfolding number number_of amount
  group_bounds =
      let small = ltb-true (conn_value c (size k)) kind_factor (fits_amount (head c (size k)) (fits_tree c k f g.fitting).0) in
      omega (arith, group_first, conn_kind_bounds c)

  pub group_children : children (get_or l 0 0) ≡ size k
  group_children = ap (λ t. children (get_or t 0 0)) g.spelled ∙ (first_node c k f z g.fitting).1

  -- What stands before child i, and from it on.
  module _ (i : ℕ) (h : i ≤ size k) where
    pub child_place : length (opening c k i) ≡ child_at i l
    child_place = rw (g.spelled, child_start c k f z i g.fitting h, length-map) (omega arith)

    pub child_split : l ≡ opening c k i ++ spell (after i k ⊕ f) z
    child_split = g.spelled ∙ rw (first_after i k) at (spell_parts c (first i k) (after i k) f z)

    pub child_stands : drop (child_at i l) l ≡ spell (after i k ⊕ f) z
    child_stands =
        ap (drop (child_at i l)) child_split
        ∙ drop_at (opening c k i) (spell (after i k ⊕ f) z) (child_at i l) child_place

    pub child_fits : Fits (first i k) × Fits (after i k ⊕ f)
    child_fits =
        let parts : k ⊕ f ≡ first i k ⊕ (after i k ⊕ f) = ap (λ m. m ⊕ f) (sym (first_after i k)) ∙ ⊕-assoc (first i k) (after i k) f in
        fits-⊕ (first i k) (after i k ⊕ f) (rw parts at (fits_tree c k f g.fitting).1)

    -- Each child takes a number at least.
    pub child_later : i ≤ span i (drop 1 l)
    child_later = omega (arith, child_place, length-map (encode (first i k)) number_of, size_length (first i k), size_first i k h)

    pub child_room : child_at i l + (size k - i) ≤ length l
    child_room =
        omega (arith, ap length child_split, length-append (opening c k i) (spell (after i k ⊕ f) z), child_place, spell_length (after i k ⊕ f) z, size_length (after i k ⊕ f), size-⊕ (after i k) f, size_after i k)

  pub group_long : 1 ≤ length l
  group_long = omega (arith, child_room 0 (omega arith))

  -- Where the group ends, from one of its children on; each child takes a number at least.
  pub group_end : (i : ℕ) → i ≤ size k → child_at (size k) l ≡ child_at i l + length (encode (after i k))
  group_end i h =
      let whole : encode (first (size k) k) ≡ encode (first i k) ++ encode (after i k) = ap encode (ap (first (size k)) (sym (⊕-nil k)) ∙ first-⊕ k nil ∙ sym (first_after i k)) ∙ encode-⊕ (first i k) (after i k) in
      omega (arith, child_place i h, child_place (size k) (omega arith), length-map (encode (first i k)) number_of, length-map (encode (first (size k) k)) number_of, ap length whole, length-append (encode (first i k)) (encode (after i k)))

  pub child_inside : (i : ℕ) → i < size k → child_at i l < child_at (size k) l
  child_inside i h = omega (arith, group_end i (omega arith), size_length (after i k), size_after i k)

  -- Which child that is.
  module _ (i : ℕ) (h : i < size k) where
    some_left : 1 ≤ size (after i k)
    some_left = omega (arith, size_after i k)

    child_number : get_or l (child_at i l) 0 ≡ get_or (spell (after i k ⊕ f) z) 0 0
    child_number = sym (first_left (child_at i l) l) ∙ ap (λ t. get_or t 0 0) (child_stands i (omega arith))

    pub child_constant : (d : Conn) → grouping d ≡ true → eqb (get_or l (child_at i l) 0) (number (conn_kind d) 0) ≡ constant_at d (after i k)
    child_constant d o = rw child_number (first_constant z f d o (after i k) some_left (child_fits i (omega arith)).1)

    pub child_literal : is_literal (get_or l (child_at i l) 0) ≡ is_some (literal_at (after i k))
    child_literal = rw child_number (first_kind z f (after i k) some_left (child_fits i (omega arith)).1).0

    pub child_conjunction : eqb (kind (get_or l (child_at i l) 0)) 3 ≡ is_some (conjunction_at (after i k))
    child_conjunction = rw child_number (first_kind z f (after i k) some_left (child_fits i (omega arith)).1).1

  -- A child that is a literal: that it is there, that it fits, and its number.
  module _ (i : ℕ) {x : Literal} (e : literal_at (after i k) ≡ some x) where
    pub literal_within : i < size k
    unfolding size
    literal_within = omega (arith, size_after i k, ap size (literal_here i k e))

    pub literal_fits : (fits (leaf x) ≡ true) × Fits (after (suc i) k)
    literal_fits =
        let here = (child_fits i (omega (arith, literal_within))).1 in
        fits_lit x (after (suc i) k) (rw (literal_here i k e) at (fits-⊕ (after i k) f here).0)

    pub literal_number : get_or l (child_at i l) 0 ≡ number_of (leaf x)
    unfolding spell encode ◌⊕◌
    literal_number = child_number i literal_within ∙ ap (λ t. get_or (spell (t ⊕ f) z) 0 0) (literal_here i k e)

  -- A child that is itself a group, with its own children and the trees after it.
  module _ (i : ℕ) {d : Conn} {m q : Forest} (e : after i k ≡ node d m q) where
    -- It stands at the start of what is left from its place on.
    pub child_group : Group (drop (child_at i l) l) d m (q ⊕ f) z
    child_group =
        let h : i ≤ size k = omega (arith, child_within i k e) in
        let there : after i k ⊕ f ≡ node d m (q ⊕ f) = ap (λ t. t ⊕ f) e ∙ node-⊕ d m q f in
        record {
          spelled = child_stands i h ∙ ap (λ t. spell t z) there;
          fitting = rw there at (child_fits i h).1;
        }

    -- The number of its head goes, and its children take its place, under a head that is written anew.
    pub child_opened_under : (b : Conn) (v : ℕ) → v ≡ number_of (head b (size (first i k ⊕ m ⊕ q))) → let a = child_at i l in
        take a (set l 0 v) ++ (drop (a + 1) (set l 0 v) ++ replicate 1 0) ≡ spell (node b (first i k ⊕ m ⊕ q) f) (z + 1)
    child_opened_under b v new =
        let p = first i k in
        let h : i ≤ size k = omega (arith, child_within i k e) in
        let y = number_of (head d (size m)) in
        let inner = spell (m ⊕ (q ⊕ f)) z in
        let split : set l 0 v ≡ (v ∷ code p) ++ ((y ∷ []) ++ inner) =
        ap (λ t. set t 0 v) (child_split i h ∙ ap (λ t. opening c k i ++ t) (sym (child_stands i h) ∙ child_group.spelled ∙ spell_node d m (q ⊕ f) z)) in
        let left : inner ++ replicate 1 0 ≡ spell ((m ⊕ q) ⊕ f) (z + 1) = spell_zeros (m ⊕ (q ⊕ f)) z 1 ∙ ap (λ t. spell t (z + 1)) (sym (⊕-assoc m q f)) in
        removed_at (v ∷ code p) (y ∷ []) inner (set l 0 v) (child_at i l) 1 split (child_place i h) refl
        ∙ ap₂ (λ x t. x ∷ (code p ++ t)) new left
        ∙ sym (spell_parts b p (m ⊕ q) f (z + 1))

    pub children_opened : size (first i k ⊕ m ⊕ q) + 1 ≡ size k + size m
    unfolding size
    children_opened =
        let h : i ≤ size k = omega (arith, child_within i k e) in
        omega (arith, size_after i k, ap size e, size-⊕ (first i k) (m ⊕ q), size-⊕ m q, size_first i k h)

    pub child_opened : (v : ℕ) → grouping c ≡ true → v + 1 ≡ get_or l 0 0 + size m → let a = child_at i l in
        take a (set l 0 v) ++ (drop (a + 1) (set l 0 v) ++ replicate 1 0) ≡ spell (node c (first i k ⊕ m ⊕ q) f) (z + 1)
    unfolding number
    child_opened v o n =
        child_opened_under c v (omega (arith, group_head o, head_number c (size (first i k ⊕ m ⊕ q)) o, children_opened))

-- What is known in numbers of the group that a stretch begins with, and of its child i, which begins at a place.
pub record Child (l : List ℕ) (k : Forest) (i at : ℕ) : Type 0 where
  pub there : i < size k
  pub place : at ≡ child_at i l
  pub later : i < at
  pub before_end : at < child_at (size k) l
  pub end : child_at (size k) l ≤ length l
  pub short : length l ≤ sheet_room
  pub low : 12288 ≤ get_or l 0 0
  pub high : get_or l 0 0 < 28672
  pub few : size k < kind_factor
  pub counted : children (get_or l 0 0) ≡ size k

module _ {r : ℕ} {l : List ℕ} (s : Stretch l) (h : Headed r l) {i : ℕ} where
  child_known : {at : ℕ} → i < size h.children → at ≡ child_at i l → Child l h.children i at
  child_known n e =
      let g = headed_group s h in
      let k = h.children in
      record {
        there = n;
        place = e;
        later = omega (arith, child_later g i (omega arith));
        before_end = omega (arith, child_inside g i n);
        end = omega (arith, child_room g (size k) (omega arith));
        short = s.short;
        low = (group_bounds g).0;
        high = (group_bounds g).1;
        few = group_few g;
        counted = group_children g;
      }

  -- A child that the head counts is known; so is the child of a rule that applies.
  pub asked_child : {at : ℕ} → (i < children (get_or l 0 0)) × (at ≡ child_at i l) → Child l h.children i at
  asked_child p = child_known (omega (arith, group_children (headed_group s h), p.0)) p.1

  pub applied_child : (j : ℕ) → r ≤ 15 → is_some (rewrite r i j (forest_in l)) ≡ true → Child l h.children i (child_at i l)
  unfolding kids
  applied_child j low t =
      let needed = child_needed r i j (forest_in l) low (is_some_of (rewrite r i j (forest_in l)) t).1 in
      child_known (omega (arith, ap (λ f. size (kids f)) h.forest)) refl

  pub counted_child : {at : ℕ} → (i < children (get_or l 0 0)) × (at ≡ child_at i l) →
      (i < size h.children) × (at < length l) × (length l ≤ sheet_room)
  counted_child p = let c = asked_child p in (c.there, omega arith, c.short)

-- A child that is a conjunction: its own group, from its place on.
module _ {r : ℕ} {l : List ℕ} (s : Stretch l) (h : Headed r l) (i : ℕ) where
  pub conjunction_group : {m : Forest} → conjunction_at (after i h.children) ≡ some m →
      Group (drop (child_at i l) l) and m (after (suc i) h.children ⊕ h.rest) h.zeros
  conjunction_group e = child_group (headed_group s h) i (conjunction_here i h.children e)

-- What a rule does to a stretch, from what its family does to the group's children.
module _ {r : ℕ} {l : List ℕ} (h : Headed r l) (i j : ℕ) where
  pub headed_applies : is_some (rewrite r i j (forest_in l)) ≡ is_some (change h.row.family h.conn i j h.children)
  headed_applies =
      ap is_some (headed_rewrite r h i j) ∙ is_some_then (change h.row.family h.conn i j h.children) (λ g. g ⊕ h.rest)

  pub headed_turn : {g : Forest} {out : List ℕ} (z : ℕ) → change h.row.family h.conn i j h.children ≡ some g →
      out ≡ spell (g ⊕ h.rest) z → length out ≡ length l → out ≡ rewritten_to r i j l
  unfolding rewritten_to maybe then
  headed_turn {g} {out} z e shape n =
      rw (headed_rewrite r h i j, e) (shape ∙ spell_fills (g ⊕ h.rest) z (length l) (sym (ap length shape) ∙ n))
