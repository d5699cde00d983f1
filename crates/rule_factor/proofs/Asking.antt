-- Rule 14 on a stretch: what it asks of the numbers.
use mathlib.Core.Bool.{Bool, true, false, ◌&&◌, not}
use mathlib.Core.List.{List, ◌∷◌, ◌++◌, append_assoc}
use mathlib.Core.Option.{Option, none, some}
use mathlib.Core.Path.{◌≡◌, refl, sym, ap, ap₂, ◌∙◌}
use Prim.Native.Nat.{ℕ, ◌+◌, ◌≤◌, ◌<◌}
use native.Mathlib.Omega.{arith}
use borrow.Author.Tests.{lt-leb, leb-true, leb-false, eq-eqb, eqb-true, not-true}
use lib.Dec.{leb}
use lib.ListN.{length, get_or, drop, length-map}
use Rattle.model.specs.Base.{pick, maybe, is_some, then}
use Rattle.model.specs.Literal.{Literal}
use Rattle.model.specs.Forest.{Conn, Forest, size, first, after, literal_at, conjunction_at, literals_only, has_unit}
use Rattle.model.specs.Code.{leaf, head, encode, kind, children, number_of}
use Rattle.model.specs.Rules.{factor, change, rewrite, shares, groups}
use Rattle.theory_forms.specs.Logic.{true_false, and_split, fails_if, pick_true, pick_false, is_some_of, is_some_only, then_some, only_some}
use Rattle.theory_forms.specs.Forests.{first_after, size_first}
use Rattle.theory_forms.specs.Numbers.{fits}
use Rattle.theory_forms.specs.Scan.{is_literal}
use Rattle.theory_reading.specs.Spans.{child_at}
use Rattle.theory_reading.specs.Flat.{spell, spell-⊕, spell_node, Fits}
use Rattle.theory_reading.specs.Stretches.{Stretch, forest_in}
use Rattle.theory_rewriting.specs.Heads.{Headed}
use Rattle.theory_rewriting.specs.Children.{code, Group, group_children, child_place, child_room, child_fits, child_literal, child_conjunction, headed_group, group_long, literal_within, literal_fits, literal_number, asked_child, conjunction_group}
use Rattle.theory_rewriting.specs.Turns.{family_at, last_at, family_applies}
use Rattle.rule_factor.specs.Walks.{among, unit_at, unit_of, sharing}
use Rattle.theory_reading.specs.Leaves.{leaf_literal}
use Rattle.rule_factor.proofs.TreeNumbers.{fits_parts, code-⊕}
use Rattle.rule_factor.proofs.Here.{unit_past, unit_inner}
use Rattle.rule_factor.proofs.WalkedTrees.{among_trees, share_trees, groups_trees}
use Rattle.rule_factor.proofs.LiteralRuns.{literals_short, short_literals}

-- A literal's number is not zero.
pub leaf_some : (a : Literal) → fits (leaf a) ≡ true → number_of (leaf a) ≡ 0 → ⊥
unfolding is_literal kind
leaf_some a h e = true_false (sym (leaf_literal a h) ∙ ap is_literal e)

first_or_0 : (b : Bool) (x : ℕ) → maybe 0 (λ y. y) (pick b none (some x)) ≡ pick b 0 x
unfolding pick maybe
first_or_0 true x = refl
first_or_0 false x = refl

-- The numbers of a group, and of the trees after it.
module _ {l : List ℕ} {c : Conn} {k f : Forest} {z : ℕ} (g : Group l c k f z) where
  pub group_numbers : l ≡ number_of (head c (size k)) ∷ (code k ++ spell f z)
  group_numbers = g.spelled ∙ spell_node c k f z ∙ ap (λ t. number_of (head c (size k)) ∷ t) (spell-⊕ k f z)

  pub group_fits : Fits k
  group_fits = (fits_parts c k f g.fitting).1

  -- A child that is a literal: whether it stands among the children before it.
  module _ (j : ℕ) {a : Literal} (e : literal_at (after j k) ≡ some a) where
    among_before : among (number_of (leaf a)) j (drop 1 l) ≡ has_unit a (first j k)
    among_before =
        let p = first j k in
        let q = after j k in
        let numbers : drop 1 l ≡ code p ++ (code q ++ spell f z) =
        ap (drop 1) group_numbers ∙ ap (λ t. code t ++ spell f z) (sym (first_after j k)) ∙ ap (λ t. t ++ spell f z) (code-⊕ p q) ∙ append_assoc (code p) (code q) (spell f z) in
        let few : size p ≡ j = size_first j k (omega (arith, literal_within g j e)) in
        ap (among (number_of (leaf a)) j) numbers
        ∙ rw few at (among_trees a (literal_fits g j e).0 p (code q ++ spell f z) (child_fits g j (omega (arith, literal_within g j e))).0)

    unit_is : unit_of j l ≡ pick (has_unit a (first j k)) 0 (number_of (leaf a))
    unfolding unit_of unit_at pick
    unit_is =
        rw (group_children g, lt-leb (size k) j (literal_within g j e), literal_number g j e, leaf_literal a (literal_fits g j e).0, among_before)
        (first_or_0 (has_unit a (first j k)) (number_of (leaf a)))

    pub unit_first : has_unit a (first j k) ≡ false → unit_of j l ≡ number_of (leaf a)
    unit_first n = unit_is ∙ pick_false _ 0 (number_of (leaf a)) n

  pub unit_none : (j : ℕ) → literal_at (after j k) ≡ none → unit_of j l ≡ 0
  unfolding is_some
  unit_none j e = go (leb (size k) j) refl
    where
      go : (b : Bool) → leb (size k) j ≡ b → unit_of j l ≡ 0
      go true t = unit_past j l (rw (group_children g) (leb-true (size k) j t))
      go false t =
          let n : j < size k = leb-false (size k) j t in
          unit_inner j l (rw (group_children g) n) (child_literal g j n ∙ ap is_some e)

  -- Where it is not zero, it is the literal's number.
  pub record Unit (j : ℕ) : Type 0 where
    pub literal : Literal
    pub there : literal_at (after j k) ≡ some literal
    pub new : has_unit literal (first j k) ≡ false
    pub its_number : unit_of j l ≡ number_of (leaf literal)
    pub fitting : fits (leaf literal) ≡ true

  pub unit_found : (j : ℕ) → (unit_of j l ≡ 0 → ⊥) → Unit j
  unit_found j h = go (literal_at (after j k)) refl
    where
      new : (a : Literal) → literal_at (after j k) ≡ some a → (b : Bool) → has_unit a (first j k) ≡ b → Unit j
      new a e true n = absurd (h (unit_is j e ∙ pick_true _ 0 (number_of (leaf a)) n))
      new a e false n = record { literal = a; there = e; new = n; its_number = unit_first j e n; fitting = (literal_fits g j e).0 }

      go : (o : Option Literal) → literal_at (after j k) ≡ o → Unit j
      go none e = absurd (h (unit_none j e))
      go (some a) e = new a e (has_unit a (first j k)) refl

-- What the rule asks of the children.
pub record Applied (i j : ℕ) (k : Forest) : Type 0 where
  pub inner : Forest
  pub literal : Literal
  pub conjunction : conjunction_at (after i k) ≡ some inner
  pub there : literal_at (after j inner) ≡ some literal
  pub before : literals_only (first i k) ≡ true
  pub new : has_unit literal (first j inner) ≡ false
  pub shared : shares literal k ≡ true
  pub two : 2 ≤ groups k

module _ (c : Conn) (i j : ℕ) (k : Forest) where
  pub applied : is_some (factor c i j k) ≡ true → Applied i j k
  unfolding factor
  applied h =
      let w = is_some_of (factor c i j k) h in
      let m = then_some (conjunction_at (after i k)) _ w.1 in
      let a = then_some (literal_at (after j m.0)) _ m.2 in
      let x = a.0 in
      let t = (only_some (literals_only (first i k) && not (has_unit x (first j m.0)) && shares x k && leb 2 (groups k)) _ a.2).0 in
      let p = and_split (literals_only (first i k) && not (has_unit x (first j m.0)) && shares x k) (leb 2 (groups k)) t in
      let q = and_split (literals_only (first i k) && not (has_unit x (first j m.0))) (shares x k) p.0 in
      let r = and_split (literals_only (first i k)) (not (has_unit x (first j m.0))) q.0 in
      record {
        inner = m.0;
        literal = x;
        conjunction = m.1;
        there = a.1;
        before = r.0;
        new = not-true (has_unit x (first j m.0)) r.1;
        shared = q.1;
        two = leb-true 2 (groups k) p.1;
      }

  pub asked :
      {m : Forest} {a : Literal} →
      conjunction_at (after i k) ≡ some m →
      literal_at (after j m) ≡ some a →
      has_unit a (first j m) ≡ false →
      is_some (factor c i j k) ≡ (literals_only (first i k) && shares a k && leb 2 (groups k))
  unfolding factor then
  asked {m} {a} e w n = rw (e, w, n) (is_some_only (literals_only (first i k) && true && shares a k && leb 2 (groups k)) _ ∙ go (literals_only (first i k)))
    where
      go : (b : Bool) → (b && true && shares a k && leb 2 (groups k)) ≡ (b && shares a k && leb 2 (groups k))
      go true = refl
      go false = refl

-- The groups among trees of which each shares a literal.
pub sharing_trees :
    (a : Literal) →
    fits (leaf a) ≡ true →
    (f : Forest) (r : List ℕ) →
    Fits f →
    sharing (number_of (leaf a)) (size f) (code f ++ r) ≡ pick (shares a f) (groups f) 0
unfolding sharing
sharing_trees a h f r w = rw (share_trees a h f r w, groups_trees f r w)

-- The test, on the numbers.
module _ {l : List ℕ} (s : Stretch l) (h : Headed 14 l) where
  pub stretch_some : 1 ≤ length l
  stretch_some = group_long (headed_group s h)

  pub kids_numbers : drop 1 l ≡ code h.children ++ spell h.rest h.zeros
  kids_numbers = ap (drop 1) (group_numbers (headed_group s h))

  module _ (i j : ℕ) where
    pub rule_applies : is_some (rewrite 14 i j (forest_in l)) ≡ is_some (factor h.conn i j h.children)
    unfolding family_at last_at pick change
    rule_applies = family_applies h i j

    applies_not : (Applied i j h.children → ⊥) → false ≡ is_some (rewrite 14 i j (forest_in l))
    applies_not n =
        sym (rule_applies ∙ fails_if (is_some (factor h.conn i j h.children)) (λ t. n (applied h.conn i j h.children t)))

    -- Child i is a conjunction: its own children stand where they should.
    module _ {m : Forest} (e : conjunction_at (after i h.children) ≡ some m) where
      pub conjunction_room : let t = drop (child_at i l) l in (1 ≤ length t) × (j < children (get_or t 0 0) → child_at j t < length t)
      conjunction_room =
          let g = conjunction_group s h i e in
          (group_long g, λ b. omega (arith, group_children g, child_room g j (omega (arith, group_children g))))

    -- No literal but the first copy counts.
    pub applies_nothing : unit_of j (drop (child_at i l) l) ≡ 0 → false ≡ is_some (rewrite 14 i j (forest_in l))
    applies_nothing e =
        applies_not
        (λ t. let g = conjunction_group s h i t.conjunction in
        leaf_some t.literal (literal_fits g j t.there).0 (sym (unit_first g j t.there t.new) ∙ e))

    module _ (n : i < children (get_or l 0 0)) where
      child_there : i < size h.children
      child_there = (asked_child s h (n, refl)).there

      place : child_at i l ≡ 1 + length (encode (first i h.children))
      place =
          let k = h.children in
          omega (arith, child_place (headed_group s h) i (omega (arith, child_there)), length-map (encode (first i k)) number_of)

      -- Only literals may stand before child i, so it stands at place 1 + i.
      pub applies_late : (child_at i l ≡ 1 + i → ⊥) → false ≡ is_some (rewrite 14 i j (forest_in l))
      applies_late no_place =
          applies_not
          (λ t. no_place (omega (arith, place, literals_short (first i h.children) t.before, size_first i h.children (omega (arith, child_there)))))

      -- Child i is a conjunction.
      pub applies_other : (kind (get_or l (child_at i l) 0) ≡ 3 → ⊥) → false ≡ is_some (rewrite 14 i j (forest_in l))
      unfolding is_some
      applies_other no_kind =
          applies_not (λ t. no_kind (eqb-true (kind (get_or l (child_at i l) 0)) 3 (child_conjunction (headed_group s h) i child_there ∙ ap is_some t.conjunction)))

      module _ (e : kind (get_or l (child_at i l) 0) ≡ 3) where
        pub conjunction_there : (m : Forest) × (conjunction_at (after i h.children) ≡ some m)
        conjunction_there =
            is_some_of (conjunction_at (after i h.children)) (sym (child_conjunction (headed_group s h) i child_there) ∙ eq-eqb (kind (get_or l (child_at i l) 0)) 3 e)

        pub applies_shared :
            child_at i l ≡ 1 + i →
            (unit_of j (drop (child_at i l) l) ≡ 0 → ⊥) →
            leb 2 (sharing (unit_of j (drop (child_at i l) l)) (children (get_or l 0 0)) (drop 1 l)) ≡ is_some (rewrite 14 i j (forest_in l))
        unfolding pick
        applies_shared p some_unit =
            let k = h.children in
            let u = unit_found (conjunction_group s h i conjunction_there.1) j some_unit in
            let a = u.literal in
            let before : shares a k ≡ true → literals_only (first i k) ≡ true = λ q. short_literals a i k (omega (arith, child_there)) q (omega (arith, place)) in
            let count : sharing (unit_of j (drop (child_at i l) l)) (children (get_or l 0 0)) (drop 1 l) ≡ pick (shares a k) (groups k) 0 =
            ap₂ (λ x m. sharing x m (drop 1 l)) u.its_number (group_children (headed_group s h)) ∙ ap (sharing (number_of (leaf a)) (size k)) kids_numbers ∙ sharing_trees a u.fitting k (spell h.rest h.zeros) (group_fits (headed_group s h)) in
            ap (leb 2) count
            ∙ go (groups k) (shares a k) (literals_only (first i k)) before
            ∙ sym (rule_applies ∙ asked h.conn i j k conjunction_there.1 u.there u.new)
          where
            go : (x : ℕ) (b lo : Bool) → (b ≡ true → lo ≡ true) → leb 2 (pick b x 0) ≡ (lo && b && leb 2 x)
            go x true lo f = rw (f refl)
            go x false true f = refl
            go x false false f = refl
