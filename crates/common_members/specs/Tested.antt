-- Numbers read from the right, one node at a time, with the members of kind 6: what a program that checks a body or a sheet computes.
use Rattle.std.specs.Prelude.{Bool, ◌&&◌, List, [], ◌∷◌, ◌++◌, map, ◌≡◌, ℕ, ◌≤◌, eqb, leb, length, take, drop}
use Rattle.std.proofs.Math.Bool.{true, false, and-true, and-false}
use Rattle.std.proofs.Math.Option.{Option, none, some}
use Rattle.std.proofs.Math.Path.{refl}
use Rattle.std.proofs.Common.{sym, ap, ◌∙◌, arith, take-append-drop}
use borrow.Author.Tests.{ne_eqb, leb-true}
use Rattle.model.specs.Base.{pick, maybe, then, all}
use Rattle.model.specs.Forest.{root, first, after, seated, all_seated}
use Rattle.model.specs.Code.{Node, leaf, head, kind, children, node_of, push, decode, joined, trees, exactly_one, one_tree}
use Rattle.model.specs.Sheet.{body_node, rooted}
use Rattle.model.specs.Book.{body_ok}
use Rattle.theory_forms.specs.Logic.{none_some, only_some, only_then, pick_keeps}
use Rattle.theory_forms.specs.Forests.{first_after}
use Rattle.theory_forms.specs.Lists.{map_take}
use Rattle.theory_forms.specs.Codes.{encode_decode}
use Rattle.theory_forms.specs.Seats.{apart, followed, ordered, seated_code, seated-⊕}
use Rattle.theory_forms.specs.Scan.{is_literal, inner_node, joined_by, scan, counted, scan_trees, scan_ok, scan_count}
use Rattle.theory_forms.specs.Scan.{root_node, rooted_scan}

-- The trees that the numbers spell; none where they spell none, or where some members are not in their seats.
unfoldable pub tested : ℕ → List ℕ → Option ℕ
tested n xs = pick (ordered (map node_of xs)) (scan n xs) none

-- The nodes that follow another begin with its members, where it is one that has any.
unfoldable pub seats : Node → List Node → Bool
seats (leaf l) ns = true
seats (head c m) ns = followed c (take m ns)

seats_first : (y : Node) (ns : List Node) → ordered (y ∷ ns) ≡ (seats y ns && ordered ns)
unfolding ordered seats
seats_first (leaf l) ns = refl
seats_first (head c m) ns = refl

-- The same of numbers, by the kind of the first.
abbrev pub seats_of : ℕ → List ℕ → Bool
seats_of x xs = seats (node_of x) (map node_of xs)

module _ (x : ℕ) (xs : List ℕ) where
  pub seats_least : kind x ≡ 6 → seats_of x xs ≡ apart (map node_of (take (children x) xs))
  unfolding seats followed node_of pick
  seats_least h = rw h (ap apart (sym (map_take node_of (children x) xs)))

  pub seats_other : (kind x ≡ 6 → ⊥) → seats_of x xs ≡ true
  unfolding seats followed node_of pick
  seats_other h =
      rw (ne_eqb (kind x) 6 h)
      (pick_keeps P (eqb (kind x) 1) refl
      (pick_keeps P (eqb (kind x) 2) refl
      (pick_keeps P (eqb (kind x) 3) refl (pick_keeps P (eqb (kind x) 4) refl refl))))
    where
      P : Node → Type 0
      P y = seats y (map node_of xs) ≡ true

-- One number more, before those that were tested.
pub tested_step : (n x : ℕ) (xs : List ℕ) → tested n (x ∷ xs) ≡ pick (seats_of x xs) (then (tested n xs) (joined_by n x)) none
unfolding tested scan pick then
tested_step n x xs = rw (seats_first (node_of x) (map node_of xs)) (go (seats_of x xs) (ordered (map node_of xs)))
  where
    go :
        (s o : Bool) →
        pick (s && o) (then (scan n xs) (joined_by n x)) none ≡ pick s (then (pick o (scan n xs) none) (joined_by n x)) none
    go true true = refl
    go true false = refl
    go false o = refl

pub tested_first : (n : ℕ) → tested n [] ≡ some 0
unfolding tested scan ordered pick
tested_first n = refl

module _ (n x : ℕ) (xs : List ℕ) {t : ℕ} (k : tested n xs ≡ some t) where
  pub tested_more : {u : ℕ} → joined_by n x t ≡ some u → seats_of x xs ≡ true → tested n (x ∷ xs) ≡ some u
  unfolding pick then
  tested_more j s = tested_step n x xs ∙ rw (s, k) j

  pub tested_stuck : joined_by n x t ≡ none → tested n (x ∷ xs) ≡ none
  unfolding then
  tested_stuck j = tested_step n x xs ∙ rw (k, j) (pick_keeps (λ o. o ≡ none) (seats_of x xs) refl refl)

-- Where members are not in their seats, or the numbers after them are refused, so are all.
pub tested_unseated : (n x : ℕ) (xs : List ℕ) → seats_of x xs ≡ false → tested n (x ∷ xs) ≡ none
unfolding pick
tested_unseated n x xs s = tested_step n x xs ∙ rw s

tested_before : (n : ℕ) (ys xs : List ℕ) → tested n xs ≡ none → tested n (ys ++ xs) ≡ none
unfolding then
tested_before n [] xs h = h
tested_before n (y ∷ ys) xs h =
    tested_step n y (ys ++ xs) ∙ rw (tested_before n ys xs h) (pick_keeps (λ o. o ≡ none) (seats_of y (ys ++ xs)) refl refl)

pub tested_part : (n k : ℕ) (xs : List ℕ) → tested n (drop k xs) ≡ none → tested n xs ≡ none
tested_part n k xs h = ap (tested n) (sym (take-append-drop k xs)) ∙ tested_before n (take k xs) (drop k xs) h

-- What a scan counts are trees.
trees_scanned : (n : ℕ) (xs : List ℕ) {t : ℕ} → scan n xs ≡ some t → (all (body_node n) xs ≡ true) × (trees (map node_of xs) ≡ some t)
unfolding pick
trees_scanned n xs {t} k = go (all (body_node n) xs) refl (sym (scan_trees n xs) ∙ k)
  where
    go :
        (b : Bool) →
        all (body_node n) xs ≡ b →
        pick b (trees (map node_of xs)) none ≡ some t →
        (all (body_node n) xs ≡ true) × (trees (map node_of xs) ≡ some t)
    go true e h = (e, h)
    go false e h = none_some h

-- Numbers that spell trees are nodes of a body, at least as many as the trees; a node of kind 6 before them has its members among them.
module _ (n : ℕ) (xs : List ℕ) {t : ℕ} (k : tested n xs ≡ some t) where
  scanned : scan n xs ≡ some t
  unfolding tested pick
  scanned = go (ordered (map node_of xs)) k
    where
      go : (b : Bool) → pick b (scan n xs) none ≡ some t → scan n xs ≡ some t
      go true h = h
      go false h = none_some h

  pub tested_nodes : all (body_node n) xs ≡ true
  tested_nodes = (trees_scanned n xs scanned).0

  pub tested_count : t ≤ length xs
  unfolding counted
  tested_count = rw scanned at (scan_count n xs)

  pub least_members : (x : ℕ) {u : ℕ} → joined_by n x t ≡ some u → kind x ≡ 6 → children x ≤ length xs
  unfolding joined_by joined is_literal
  least_members x j h =
      let inner = inner_node x (rw h) in
      let s = only_then (body_node n x) t (joined (node_of x)) j in
      let enough = (only_some (leb (children x) t) _ (rw inner.1 at s.1)).0 in
      omega (arith, leb-true (children x) t enough, tested_count)

-- Numbers that spell trees are in order where all members are in their seats: a test of their count holds for those that were tested.
tested_then :
    (f : ℕ → Bool) (n : ℕ) (xs : List ℕ) →
    (maybe false f (scan n xs) && all_seated (decode (map node_of xs))) ≡ maybe false f (tested n xs)
unfolding tested maybe pick
tested_then f n xs = go (scan n xs) refl (ordered (map node_of xs)) refl
  where
    in_order : {t : ℕ} → scan n xs ≡ some t → all_seated (decode (map node_of xs)) ≡ ordered (map node_of xs)
    in_order {t} e =
        let spelled = (encode_decode (map node_of xs) t (trees_scanned n xs e).1).0 in
        sym (seated_code (decode (map node_of xs))) ∙ ap ordered spelled

    go :
        (o : Option ℕ) →
        scan n xs ≡ o →
        (b : Bool) →
        ordered (map node_of xs) ≡ b →
        (maybe false f o && all_seated (decode (map node_of xs))) ≡ maybe false f (pick b o none)
    go none e true q = refl
    go none e false q = refl
    go (some t) e true q = rw (in_order e, q) (and-true (f t))
    go (some t) e false q = rw (in_order e, q) (and-false (f t))

one_counted : (o : Option ℕ) → exactly_one o ≡ maybe false (λ t. eqb t 1) o
unfolding exactly_one maybe
one_counted none = refl
one_counted (some t) = refl

pub body_tested : (n : ℕ) (xs : List ℕ) → body_ok n xs ≡ exactly_one (tested n xs)
body_tested n xs =
    scan_ok n xs
    ∙ ap (λ b. b && all_seated (decode (map node_of xs))) (one_counted (scan n xs))
    ∙ tested_then (λ t. eqb t 1) n xs
    ∙ sym (one_counted (tested n xs))

-- The root's children may be any trees.
root_seated : (m : ℕ) (ns : List Node) → all_seated (decode (head root m ∷ ns)) ≡ all_seated (decode ns)
unfolding decode push all_seated seated
root_seated m ns =
    sym (seated-⊕ (first m (decode ns)) (after m (decode ns))) ∙ ap all_seated (first_after m (decode ns))

pub rooted_tested :
    (n x : ℕ) (xs : List ℕ) →
    (rooted n (x ∷ xs) && one_tree (map node_of (x ∷ xs)) && all_seated (decode (map node_of (x ∷ xs))))
    ≡ (eqb (kind x) 5 && maybe false (λ t. eqb t (children x)) (tested n xs))
rooted_tested n x xs = ap (λ b. b && all_seated (decode (map node_of (x ∷ xs)))) (rooted_scan n x xs) ∙ go (eqb (kind x) 5) refl
  where
    go :
        (b : Bool) →
        eqb (kind x) 5 ≡ b →
        (b && maybe false (λ t. eqb t (children x)) (scan n xs) && all_seated (decode (map node_of (x ∷ xs))))
        ≡ (b && maybe false (λ t. eqb t (children x)) (tested n xs))
    go true e =
        rw (root_node x e, root_seated (children x) (map node_of xs)) (tested_then (λ t. eqb t (children x)) n xs)
    go false e = refl
