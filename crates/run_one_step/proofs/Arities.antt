-- A step of rule 9 or 10 keeps the number of children of each node, and so the sizes of all trees.
use mathlib.Core.Bool.{true}
use mathlib.Core.List.{List, [], ◌∷◌, ◌++◌, map, map-append}
use mathlib.Core.Logic.{inl}
use mathlib.Core.Path.{◌≡◌, refl, sym, ap, ap₂, ◌∙◌}
use Prim.Native.Nat.{ℕ, zero, suc, ◌+◌, ◌-◌, ◌≤◌, ◌<◌}
use native.Mathlib.Omega.{arith}
use lib.ListN.{length, drop, replicate, length-drop}
use Rattle.model.specs.Literal.{Literal}
use Rattle.model.specs.Forest.{Conn, Forest, nil, lit, node, size, first, after, ◌⊕◌, literal_at}
use Rattle.model.specs.Code.{Node, leaf, head, encode, number_of, node_of}
use Rattle.model.specs.Limits.{sheet_room}
use Rattle.model.specs.Rules.{assigned, spread, spreads, change}
use Rattle.model.specs.Sheet.{used_in, numbers_in, nodes_in}
use Rattle.theory_forms.specs.Logic.{only_some, then_some}
use Rattle.theory_forms.specs.Lists.{map_drop}
use Rattle.theory_forms.specs.Forests.{size-⊕, literal_here, cut_at, assigned_lit, size_assigned}
use Rattle.theory_forms.specs.Codes.{encode-⊕}
use Rattle.theory_forms.specs.Numbers.{fits, fits_node}
use Rattle.theory_reading.specs.Spans.{arity, span, arity_leaf, arity_head}
use Rattle.theory_forms.specs.Sheets.{Formed}
use Rattle.theory_reading.specs.Stretches.{stands}
use Rattle.locality.specs.Turned.{Turned, turned}
use Rattle.theory_rewriting.specs.Turns.{family_9}
use Rattle.locality.specs.Locality.{level_length}
use Rattle.search_sizes.specs.SizeTables.{SizesFrom}
use Rattle.search_place.specs.declared.Redex.{Redex}
use Rattle.search_place.specs.Redexes.{Applies}
use Rattle.run_bounds_after.specs.Zoned.{after_step}
use Rattle.run_bounds_after.proofs.SheetZones as O

-- The number of a node's children.
abbrev below : Node → ℕ
below (leaf l) = 0
below (head c k) = k

-- Those of all nodes of some trees.
abbrev arms : Forest → List ℕ
arms f = map below (encode f)

arms-⊕ : (f g : Forest) → arms (f ⊕ g) ≡ arms f ++ arms g
arms-⊕ f g = ap (map below) (encode-⊕ f g) ∙ map-append below (encode f) (encode g)

-- Where a literal is assigned, a literal and the constant in its place have no children.
module _ (c : Conn) (l : Literal) where
  arms_assigned : (f : Forest) → arms (assigned c l f) ≡ arms f
  unfolding size assigned encode
  arms_assigned nil = refl
  arms_assigned (lit x f) = let h = ap (λ xs. 0 ∷ xs) (arms_assigned f) in
      assigned_lit (λ g. arms g ≡ 0 ∷ arms f) c l x f (λ e. h) (λ e. h) (λ e o. h)
  arms_assigned (node d k f) =
      ap₂ ◌∷◌ (size_assigned c l k)
      (map-append below (encode (assigned c l k)) (encode (assigned c l f))
      ∙ ap₂ ◌++◌ (arms_assigned k) (arms_assigned f) ∙ sym (map-append below (encode k) (encode f)))

  -- The children of a node, but for one literal among them.
  module _ (a b : Forest) where
    children_size : size (assigned c l a ⊕ lit l (assigned c l b)) ≡ size (a ⊕ lit l b)
    unfolding size
    children_size =
        omega (arith, size-⊕ (assigned c l a) (lit l (assigned c l b)), size-⊕ a (lit l b), size_assigned c l a, size_assigned c l b)

    children_arms : arms (assigned c l a ⊕ lit l (assigned c l b)) ≡ arms (a ⊕ lit l b)
    unfolding encode
    children_arms =
        arms-⊕ (assigned c l a) (lit l (assigned c l b)) ∙ ap₂ (λ xs ys. xs ++ 0 ∷ ys) (arms_assigned a) (arms_assigned b) ∙ sym (arms-⊕ a (lit l b))

-- So a step keeps them.
turned_arms : (p i j : ℕ) (ns ms : List Node) → Turned spreads p i j ns ms → map below ms ≡ map below ns
unfolding change spread encode ◌⊕◌
turned_arms p i j ns ms w =
    let c = w.conn in
    let k = w.children in
    let l = then_some (literal_at (after i k)) _ w.made in
    let made = (only_some _ _ l.2).1 in
    let a = first i k in
    let b = after (suc i) k in
    let m = assigned c l.0 a ⊕ lit l.0 (assigned c l.0 b) in
    let stays = cut_at i k _ (literal_here i k l.1) in
    let sizes : size m ≡ size k = children_size c l.0 a b ∙ ap size stays in
    let same : arms m ≡ arms k = children_arms c l.0 a b ∙ ap arms stays in
    let tree : arms (w.new ⊕ w.rest) ≡ arms (node c k w.rest) =
    ap (λ g. arms (g ⊕ w.rest)) (sym made) ∙
    ap₂ ◌∷◌ sizes
    (map-append below (encode m) (encode w.rest) ∙ ap (λ xs. xs ++ arms w.rest) same ∙ sym (map-append below (encode k) (encode w.rest))) in
    ap (map below) w.became
    ∙ map-append below w.before (encode (w.new ⊕ w.rest))
    ∙ ap (λ xs. map below w.before ++ xs) tree
    ∙ sym (map-append below w.before (encode (node c k w.rest)))
    ∙ ap (map below) (sym w.was)

-- On numbers: the span of some trees, by the numbers of children alone.
reach : ℕ → List ℕ → ℕ
reach zero [] = zero
reach zero (n ∷ ns) = zero
reach (suc p) [] = zero
reach (suc p) (n ∷ ns) = suc (reach (p + n) ns)

span_reach : (p : ℕ) (xs : List ℕ) → span p xs ≡ reach p (map arity xs)
unfolding span reach
span_reach zero [] = refl
span_reach zero (x ∷ xs) = refl
span_reach (suc p) [] = refl
span_reach (suc p) (x ∷ xs) = ap suc (span_reach (p + arity x) xs)

arity_below : (y : Node) → fits y ≡ true → arity (number_of y) ≡ below y
arity_below (leaf l) h = arity_leaf l h
arity_below (head c k) h = arity_head c k h

arities_below : (xs : List ℕ) → map arity (map number_of (map node_of xs)) ≡ map below (map node_of xs)
arities_below [] = refl
arities_below (x ∷ xs) = ap₂ ◌∷◌ (arity_below (node_of x) (fits_node x)) (arities_below xs)

sheet_arities : (s : List ℕ) → Formed s → map arity (drop 2 s) ≡ map below (nodes_in s) ++ map arity (replicate (sheet_room - used_in s) 0)
unfolding nodes_in
sheet_arities s h =
    ap (map arity) (stands s h)
    ∙ map-append arity (map number_of (nodes_in s)) (replicate (sheet_room - used_in s) 0)
    ∙ ap (λ xs. xs ++ map arity (replicate (sheet_room - used_in s) 0)) (arities_below (numbers_in s))

-- The table of sizes is right after the step where it was before.
pub sizes_still :
    (s u : List ℕ) (h : Formed s) →
    Formed u →
    (x : Redex) →
    Applies x s →
    nodes_in u ≡ after_step x (nodes_in s) →
    9 ≤ x.rule →
    x.rule ≤ 10 →
    (t : List ℕ) →
    SizesFrom 0 (drop 2 s) t →
    SizesFrom 0 (drop 2 u) t
sizes_still s u h k x a same low top t sizes q le l =
    let ns = nodes_in s in
    let r = x.rule in
    let p = x.place in
    let one = O.one s h x a in
    let did = O.did s h x a in
    let its : Turned spreads p x.i x.j ns (after_step x ns) = rw (family_9 r low top) at (turned r p x.i x.j ns one did) in
    let arms_same : map below (nodes_in u) ≡ map below ns = ap (map below) same ∙ turned_arms p x.i x.j ns (after_step x ns) its in
    let level = level_length r p x.i x.j ns one did (inl (low, omega arith)) in
    let used : used_in u ≡ used_in s = sym k.count ∙ ap length same ∙ level ∙ h.count in
    let arities : map arity (drop 2 u) ≡ map arity (drop 2 s) =
    sheet_arities u k ∙ ap₂ (λ xs n. xs ++ map arity (replicate (sheet_room - n) 0)) arms_same used ∙ sym (sheet_arities s h) in
    let there : q < length (drop 2 s) = omega (arith, length-drop 2 s, length-drop 2 u, h.whole, k.whole) in
    sizes q le there
    ∙ span_reach 1 (drop q (drop 2 s))
    ∙ ap (reach 1) (map_drop arity q (drop 2 s) ∙ ap (drop q) (sym arities) ∙ sym (map_drop arity q (drop 2 u)))
    ∙ sym (span_reach 1 (drop q (drop 2 u)))
