-- What becomes of trees, and of their nodes, where a literal is assigned: a constant for each literal of its option, and all
-- else stays.
use Rattle.std.specs.Prelude.{Bool, ◌||◌, ◌≡◌, length, drop}
use Rattle.std.proofs.Math.Bool.{true, false, ◌&&◌}
use mathlib.Core.List.{List, [], ◌∷◌, ◌++◌, map, map-append}
use Rattle.std.proofs.Math.Option.{some}
use Rattle.std.proofs.Math.Path.{refl, sym, ap, ap₂}
use Rattle.std.proofs.Common.{◌∙◌}
use Prim.Native.Nat.{ℕ, zero, suc}
use Rattle.std.proofs.lemmas.List.{length-map}
use Rattle.model.specs.Base.{pick, then}
use Rattle.model.specs.Literal.{Literal, complement, same}
use Rattle.model.specs.Forest.{Conn, and, or, root, at_least, Forest, nil, lit, node, size, first, after, literal_at, conjunction_at, constant_at, has_unit}
use Rattle.model.specs.Code.{Node, leaf, head, encode, push, decode}
use Rattle.model.specs.Rules.{neutral, deciding, assigned, shares}
use Rattle.theory_forms.specs.Logic.{true_false, none_some, some_inj, fails_if, and_join, pick_keeps}
use Rattle.theory_forms.specs.Lists.{map_drop}
use Rattle.theory_forms.specs.Literals.{same_is}
use Rattle.theory_forms.specs.Forests.{same_conn_self, assigned_lit, size_assigned}
use Rattle.locality.specs.Alike.{Alike, no_trees, one_literal, groups_alike, deep_groups, deep_constant, alike_covers}

-- The first tree is no constant: not true, an empty conjunction, and not false, an empty disjunction. No tree is.
abbrev pub Plain : Forest → Type 0
Plain f = (constant_at and f ≡ false) × (constant_at or f ≡ false)

abbrev pub NoConstant : Forest → Type 0
NoConstant f = (i : ℕ) → Plain (after i f)

-- The second literal is neither the first one nor its complement.
abbrev pub Other : Literal → Literal → Type 0
Other l a = (same l a ≡ false) × (same (complement l) a ≡ false)

-- An empty group is its connective's constant.
constant_self : (d : Conn) (f : Forest) → constant_at d (node d nil f) ≡ true
unfolding constant_at size
constant_self d f = and_join (same_conn_self d) refl

-- The constants that an assignment makes are these two.
plain_neutral : (c : Conn) (f : Forest) → Plain f → constant_at (neutral c) f ≡ false
unfolding neutral
plain_neutral and f h = h.0
plain_neutral or f h = h.1
plain_neutral root f h = h.0
plain_neutral (at_least a) f h = h.1

plain_deciding : (c : Conn) (f : Forest) → Plain f → constant_at (deciding c) f ≡ false
unfolding deciding
plain_deciding and f h = h.1
plain_deciding or f h = h.0
plain_deciding root f h = h.1
plain_deciding (at_least a) f h = h.0

module _ (c : Conn) (l : Literal) where
  -- As many trees, that mention no other options.
  assigned_alike : (f : Forest) → Alike zero f (assigned c l f)
  unfolding assigned
  assigned_alike nil = no_trees
  assigned_alike (lit x f) =
      let r = assigned_alike f in
      assigned_lit (Alike zero (lit x f)) c l x f (λ e. deep_constant r) (λ e. deep_constant r) (λ e o. one_literal r)
  assigned_alike (node d k f) = deep_groups (alike_covers (assigned_alike k)) (assigned_alike f)

  -- Each node on its own: a literal stays, or becomes an empty group.
  unfoldable assigned_node : Node → Node
  assigned_node (leaf x) = pick (same l x) (head (neutral c) zero) (pick (same (complement l) x) (head (deciding c) zero) (leaf x))
  assigned_node (head d n) = head d n

  leaf_becomes : (P : Node → Type 0) (x : Literal) → ((d : Conn) → P (head d zero)) → P (leaf x) → P (assigned_node (leaf x))
  unfolding assigned_node
  leaf_becomes P x empty stays = pick_keeps P (same l x) (empty (neutral c)) (pick_keeps P (same (complement l) x) (empty (deciding c)) stays)

  assigned_push : (x : Literal) (f : Forest) → assigned c l (lit x f) ≡ push (assigned_node (leaf x)) (assigned c l f)
  unfolding assigned assigned_node push pick first after
  assigned_push x f = go (same l x) (same (complement l) x) (assigned c l f)
    where
      go :
          (a b : Bool) (g : Forest) →
          pick a (node (neutral c) nil g) (pick b (node (deciding c) nil g) (lit x g)) ≡ push (pick a (head (neutral c) zero) (pick b (head (deciding c) zero) (leaf x))) g
      go true b g = refl
      go false true g = refl
      go false false g = refl

  -- Cut after as many trees.
  assigned_first : (i : ℕ) (f : Forest) → first i (assigned c l f) ≡ assigned c l (first i f)
  unfolding first after assigned push
  assigned_first zero f = refl
  assigned_first (suc i) nil = refl
  assigned_first (suc i) (lit x f) =
      ap (first (suc i)) (assigned_push x f)
      ∙ leaf_becomes (λ y. first (suc i) (push y (assigned c l f)) ≡ push y (first i (assigned c l f))) x (λ d. refl) refl
      ∙ ap (push (assigned_node (leaf x))) (assigned_first i f)
      ∙ sym (assigned_push x (first i f))
  assigned_first (suc i) (node d k f) = ap (node d (assigned c l k)) (assigned_first i f)

  assigned_after : (i : ℕ) (f : Forest) → after i (assigned c l f) ≡ assigned c l (after i f)
  unfolding after assigned
  assigned_after zero f = refl
  assigned_after (suc i) nil = refl
  assigned_after (suc i) (lit x f) =
      let r = assigned_after i f in
      assigned_lit (λ g. after (suc i) g ≡ assigned c l (after i f)) c l x f (λ e. r) (λ e. r) (λ e o. r)
  assigned_after (suc i) (node d k f) = assigned_after i f

  -- The code of assigned trees, and what is read from a place in it on.
  assigned_code : (f : Forest) → encode (assigned c l f) ≡ map assigned_node (encode f)
  unfolding encode assigned assigned_node push first after size
  assigned_code nil = refl
  assigned_code (lit x f) =
      ap encode (assigned_push x f)
      ∙ leaf_becomes (λ y. encode (push y (assigned c l f)) ≡ y ∷ encode (assigned c l f)) x (λ d. refl) refl
      ∙ ap (λ ns. assigned_node (leaf x) ∷ ns) (assigned_code f)
  assigned_code (node d k f) =
      ap₂ (λ n ns. head d n ∷ ns) (size_assigned c l k) (ap₂ ◌++◌ (assigned_code k) (assigned_code f) ∙ sym (map-append assigned_node (encode k) (encode f)))

  pub assigned_length : (f : Forest) → length (encode (assigned c l f)) ≡ length (encode f)
  assigned_length f = ap length (assigned_code f) ∙ length-map (encode f) assigned_node

  assigned_decode : (ns : List Node) → decode (map assigned_node ns) ≡ assigned c l (decode ns)
  unfolding decode push assigned assigned_node
  assigned_decode [] = refl
  assigned_decode (leaf x ∷ ns) = ap (push (assigned_node (leaf x))) (assigned_decode ns) ∙ sym (assigned_push x (decode ns))
  assigned_decode (head d n ∷ ns) =
      let r = assigned_decode ns in
      ap₂ (node d) (ap (first n) r ∙ assigned_first n (decode ns)) (ap (after n) r ∙ assigned_after n (decode ns))

  pub assigned_part : (n : ℕ) (f : Forest) → decode (drop n (encode (assigned c l f))) ≡ assigned c l (decode (drop n (encode f)))
  assigned_part n f =
      ap (λ ns. decode (drop n ns)) (assigned_code f)
      ∙ ap decode (sym (map_drop assigned_node n (encode f)))
      ∙ assigned_decode (drop n (encode f))

  -- A literal that is there now was there before, and is not of the option.
  literal_was : (a : Literal) (f : Forest) → literal_at (assigned c l f) ≡ some a → (literal_at f ≡ some a) × Other l a
  unfolding literal_at assigned
  literal_was a nil e = none_some e
  literal_was a (lit x f) e =
      assigned_lit (λ g. literal_at g ≡ some a → (some x ≡ some a) × Other l a) c l x f
      (λ t h. none_some h)
      (λ t h. none_some h)
      (λ t o h. let was = sym (some_inj h) in (h, (ap (same l) was ∙ t, ap (same (complement l)) was ∙ o)))
      e
  literal_was a (node d k f) e = none_some e

  pub literal_stays :
      (j : ℕ) (f : Forest) (a : Literal) →
      literal_at (after j (assigned c l f)) ≡ some a →
      (literal_at (after j f) ≡ some a) × Other l a
  literal_stays j f a e = literal_was a (after j f) (ap literal_at (sym (assigned_after j f)) ∙ e)

  -- Literals that are not of the option stay.
  module _ (a : Literal) (other : Other l a) where
    replaced_other : (y x : Literal) → same y a ≡ false → same y x ≡ true → same a x ≡ false
    replaced_other y x o t = fails_if (same a x) (λ s. true_false (sym t ∙ ap (same y) (sym (same_is a x s)) ∙ o))

    unit_stays : (f : Forest) → has_unit a f ≡ has_unit a (assigned c l f)
    unfolding has_unit assigned
    unit_stays nil = refl
    unit_stays (lit x f) =
        let r = unit_stays f in
        assigned_lit (λ g. (same a x || has_unit a f) ≡ has_unit a g) c l x f
        (λ t. ap (λ b. b || has_unit a f) (replaced_other l x other.0 t) ∙ r)
        (λ t. ap (λ b. b || has_unit a f) (replaced_other (complement l) x other.1 t) ∙ r)
        (λ t o. ap (λ b. same a x || b) r)
    unit_stays (node d k f) = unit_stays f

    pub unit_before : (j : ℕ) (f : Forest) → has_unit a (first j f) ≡ has_unit a (first j (assigned c l f))
    unit_before j f = unit_stays (first j f) ∙ ap (has_unit a) (sym (assigned_first j f))

  -- Where no constant stands now, no literal was replaced.
  literal_kept : (x : Literal) (f : Forest) → Plain (assigned c l (lit x f)) → assigned c l (lit x f) ≡ lit x (assigned c l f)
  literal_kept x f h =
      assigned_lit (λ g. Plain g → g ≡ lit x (assigned c l f)) c l x f
      (λ t e. true_false (sym (constant_self (neutral c) (assigned c l f)) ∙ plain_neutral c _ e))
      (λ t e. true_false (sym (constant_self (deciding c) (assigned c l f)) ∙ plain_deciding c _ e))
      (λ t o e. refl)
      h

  later_trees : (x : Literal) (f : Forest) → NoConstant (assigned c l (lit x f)) → NoConstant (assigned c l f)
  unfolding after
  later_trees x f h i = rw (assigned_after i f, ← assigned_after (suc i) (lit x f)) (h (suc i))

  -- So the forests look alike one level down, the same groups are conjunctions, and a literal is shared as before.
  pub assigned_level : (f : Forest) → NoConstant (assigned c l f) → Alike (suc zero) f (assigned c l f)
  unfolding assigned after
  assigned_level nil h = no_trees
  assigned_level (lit x f) h = rw (literal_kept x f (h zero)) (one_literal (assigned_level f (later_trees x f h)))
  assigned_level (node d k f) h = groups_alike (assigned_alike k) (assigned_level f (λ i. h (suc i)))

  conjunction_was :
      (f : Forest) →
      Plain (assigned c l f) →
      conjunction_at (assigned c l f) ≡ then (conjunction_at f) (λ k. some (assigned c l k))
  unfolding assigned conjunction_at then
  conjunction_was nil h = refl
  conjunction_was (lit x f) h = ap conjunction_at (literal_kept x f h)
  conjunction_was (node and k f) h = refl
  conjunction_was (node or k f) h = refl
  conjunction_was (node root k f) h = refl
  conjunction_was (node (at_least a) k f) h = refl

  pub assigned_conjunction :
      (i : ℕ) (f : Forest) →
      NoConstant (assigned c l f) →
      conjunction_at (after i (assigned c l f)) ≡ then (conjunction_at (after i f)) (λ k. some (assigned c l k))
  assigned_conjunction i f h =
      ap conjunction_at (assigned_after i f)
      ∙ conjunction_was (after i f) (rw (← assigned_after i f) (h i))

  pub assigned_shares : (a : Literal) → Other l a → (f : Forest) → NoConstant (assigned c l f) → shares a f ≡ shares a (assigned c l f)
  unfolding assigned shares after
  assigned_shares a other nil h = refl
  assigned_shares a other (lit x f) h = assigned_shares a other f (later_trees x f h) ∙ ap (shares a) (sym (literal_kept x f (h zero)))
  assigned_shares a other (node and k f) h =
      ap₂ ◌&&◌ (unit_stays a other k) (assigned_shares a other f (λ i. h (suc i)))
  assigned_shares a other (node or k f) h = refl
  assigned_shares a other (node root k f) h = refl
  assigned_shares a other (node (at_least b) k f) h = refl
