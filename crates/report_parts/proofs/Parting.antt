-- Laws of the trees that numbers spell: the first of them, what a conjunction at their head says, and that a tree's value depends
-- on its own literals only.
use mathlib.Core.Bool.{Bool, true, false, ◌||◌}
use mathlib.Core.List.{List, [], ◌∷◌, map, append-nil}
use mathlib.Core.Logic.{◌⊎◌, ⊎_elim}
use mathlib.Core.Option.{some}
use mathlib.Core.Path.{◌≡◌, sym, ap, ap₂, ◌∙◌}
use Prim.Native.Nat.{ℕ, suc, ◌≤◌, ◌<◌}
use native.Mathlib.Omega.{arith}
use lib.Dec.{eqb}
use lib.ListN.{length, get_or, take, drop}
use Rattle.model.specs.Base.{all, pick}
use Rattle.model.specs.Forest.{and, root, Forest, size, first, after, all_seated}
use Rattle.model.specs.Code.{Node, leaf, head, kind, children, encode, push, decode, trees, node_of, number_of}
use Rattle.theory_forms.specs.Logic.{either, and_split}
use Rattle.theory_forms.specs.Lists.{map_back}
use Rattle.theory_forms.specs.Forests.{first_after, size_first}
use Rattle.theory_forms.specs.Codes.{encode_decode, decode_encode, trees_code}
use Rattle.theory_forms.specs.Seats.{seated-⊕}
use Rattle.theory_forms.specs.Numbers.{fits, node_number}
use Rattle.theory_forms.specs.Scan.{is_literal}
use Rattle.theory_reading.specs.Spans.{span, span_more}
use Rattle.theory_reading.specs.Flat.{spell, Fits, fits-⊕, take_trees, drop_trees}
use Rattle.theory_reading.specs.Stretches.{all_fit}
use Rattle.theory_meaning.specs.Evaluation.{Set, fails_all, fails}
use Rattle.theory_meaning.specs.FailedLiterals.{set_of}
use Rattle.theory_meaning.specs.Values.{fails_values, root_empty, root_and, root_with, root-⊕}
use Rattle.theory_reading.specs.Leaves.{place_at}
use Rattle.theory_meaning.specs.NumberTrees.{with_node, tree_fails}
use Rattle.theory_meaning.specs.TreeValues.{values_of, values_none, values_more, with_literal, with_inner}

-- Under a conjunction or the root stand the trees that follow it: one of them fails where the conjunction or one after it does.
pub conjunction_fails : (t : List ℕ) (x : ℕ) (xs : List ℕ) → (kind x ≡ 3) ⊎ (kind x ≡ 5) → tree_fails t (x ∷ xs) ≡ tree_fails t xs
unfolding tree_fails node_of pick decode push
conjunction_fails t x xs h =
    ⊎_elim
    (λ e.
    rw e (root_with s and (first (children x) f) (after (children x) f)
    ∙ ap (λ b. b || fails s root (after (children x) f)) (root_and s (first (children x) f)) ∙ joined))
    (λ e. rw e (root_with s root (first (children x) f) (after (children x) f) ∙ joined))
    h
  where
    s : Set
    s = set_of t

    f : Forest
    f = decode (map node_of xs)

    joined : (fails s root (first (children x) f) || fails s root (after (children x) f)) ≡ fails s root f
    joined = sym (root-⊕ s (first (children x) f) (after (children x) f)) ∙ ap (fails s root) (first_after (children x) f)

pub none_fails : (t : List ℕ) → tree_fails t [] ≡ false
unfolding tree_fails decode
none_fails t = root_empty (set_of t)

-- The first tree of numbers that spell some, and the trees after it.
push_some : (y : Node) (f : Forest) → 1 ≤ size (push y f)
unfolding push size
push_some (leaf l) f = omega arith
push_some (head c k) f = omega arith

-- The trees that numbers spell.
abbrev forest : List ℕ → Forest
forest xs = decode (map node_of xs)

some_trees : (xs : List ℕ) → 0 < length xs → 1 ≤ size (forest xs)
unfolding decode
some_trees [] h = absurd (omega arith)
some_trees (x ∷ xs) h = push_some (node_of x) (forest xs)

back : (f : Forest) → Fits f → map node_of (map number_of (encode f)) ≡ encode f
back f h = map_back number_of node_of fits node_number (encode f) h

module _ (xs : List ℕ) (known : xs ≡ map number_of (map node_of xs)) {u : ℕ} (spelled : trees (map node_of xs) ≡ some u)
    (h : 0 < length xs) where
  code : encode (forest xs) ≡ map node_of xs
  code = (encode_decode (map node_of xs) u spelled).0

  fitting : Fits (forest xs)
  fitting = ap (all fits) code ∙ all_fit xs

  as_spelled : spell (forest xs) 0 ≡ xs
  unfolding spell
  as_spelled = append-nil (map number_of (encode (forest xs))) ∙ ap (map number_of) code ∙ sym known

  cut_fits : Fits (first 1 (forest xs)) × Fits (after 1 (forest xs))
  cut_fits = fits-⊕ (first 1 (forest xs)) (after 1 (forest xs)) (ap (λ f. all fits (encode f)) (first_after 1 (forest xs)) ∙ fitting)

  begun : map node_of (take (span 1 xs) xs) ≡ encode (first 1 (forest xs))
  begun = ap (map node_of) (ap (λ ys. take (span 1 ys) ys) (sym as_spelled)
      ∙ take_trees 1 (forest xs) 0 (some_trees xs h) fitting) ∙ back _ cut_fits.0

  left : map node_of (drop (span 1 xs) xs) ≡ encode (after 1 (forest xs))
  unfolding spell
  left =
      ap (map node_of) (ap (λ ys. drop (span 1 ys) ys) (sym as_spelled)
      ∙ drop_trees 1 (forest xs) 0 (some_trees xs h) fitting ∙ append-nil (map number_of (encode (after 1 (forest xs)))))
      ∙ back _ cut_fits.1

  pub first_one : trees (map node_of (take (span 1 xs) xs)) ≡ some 1
  first_one = ap trees begun ∙ trees_code (first 1 (forest xs)) ∙ ap some (size_first 1 (forest xs) (some_trees xs h))

  -- Members are in their seats there, where they are in all.
  pub first_seated : all_seated (forest xs) ≡ true → all_seated (forest (take (span 1 xs) xs)) ≡ true
  first_seated o =
      let f = first 1 (forest xs) in
      let g = after 1 (forest xs) in
      let parts = and_split (all_seated f) (all_seated g) (sym (seated-⊕ f g) ∙ ap all_seated (first_after 1 (forest xs)) ∙ o) in
      ap all_seated (ap decode begun ∙ decode_encode f) ∙ parts.0

  pub first_or_later : (t : List ℕ) → tree_fails t xs ≡ (tree_fails t (take (span 1 xs) xs) || tree_fails t (drop (span 1 xs) xs))
  unfolding tree_fails
  first_or_later t =
      let s = set_of t in
      let f = forest xs in
      ap (fails s root) (sym (first_after 1 f))
      ∙ root-⊕ s (first 1 f) (after 1 f)
      ∙ sym (ap₂ (λ g k. fails s root g || fails s root k) (ap decode begun ∙ decode_encode (first 1 f)) (ap decode left ∙ decode_encode (after 1 f)))

  pub first_some : 1 ≤ span 1 xs
  first_some = go xs h
    where
      go : (ys : List ℕ) → 0 < length ys → 1 ≤ span 1 ys
      go [] l = absurd (omega arith)
      go (y ∷ ys) l = omega (arith, span_more 0 y ys)

-- A tree's value depends on the table only where the tree's own literals have their places.
module _ (t u : List ℕ) where
  abbrev Agree : List ℕ → Type 0
  Agree xs = (i : ℕ) → i < length xs → is_literal (get_or xs i 0) ≡ true →
      eqb (get_or t (place_at (get_or xs i 0)) 0) 1 ≡ eqb (get_or u (place_at (get_or xs i 0)) 0) 1

  same_node : (x : ℕ) (bs : List Bool) → (is_literal x ≡ true → eqb (get_or t (place_at x) 0) 1 ≡ eqb (get_or u (place_at x) 0) 1) →
      with_node t x bs ≡ with_node u x bs
  same_node x bs h = ⊎_elim
      (λ l. with_literal t x bs l ∙ ap (λ b. b ∷ bs) (h l) ∙ sym (with_literal u x bs l))
      (λ l. with_inner t x bs l ∙ sym (with_inner u x bs l))
      (either (is_literal x))

  same_values : (xs : List ℕ) → Agree xs → values_of t xs ≡ values_of u xs
  same_values [] h = values_none t ∙ sym (values_none u)
  same_values (x ∷ xs) h =
      values_more t x xs
      ∙ ap (with_node t x) (same_values xs (λ i l. h (suc i) (omega arith)))
      ∙ same_node x (values_of u xs) (h 0 (omega arith))
      ∙ sym (values_more u x xs)

  pub same_fails : (xs : List ℕ) → Agree xs → tree_fails t xs ≡ tree_fails u xs
  unfolding tree_fails values_of
  same_fails xs h =
      fails_values (set_of t) root (decode (map node_of xs))
      ∙ ap (fails_all root) (same_values xs h)
      ∙ sym (fails_values (set_of u) root (decode (map node_of xs)))
