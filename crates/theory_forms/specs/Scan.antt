-- Numbers read from the right, one node at a time: what a program that checks a body computes.
use Rattle.std.specs.Prelude.{Bool, true, false, ◌&&◌, ◌||◌, List, [], ◌∷◌, map, ◌≡◌, refl, ℕ, zero, suc, ◌-◌, ◌%◌, ◌≤◌, ◌<◌, eqb, leb, length, get_or}
use Rattle.std.proofs.Math.Option.{Option, none, some}
use Rattle.std.proofs.Common.{sym, ap, arith, leb-true, leb-false, eqb-true, eq-eqb, ne_eqb}
use Rattle.std.proofs.Math.Seq.{slice, slice-cons}
use Rattle.model.specs.Base.{pick, only_if, maybe, then, all}
use Rattle.model.specs.Limits.{least_factor}
use Rattle.model.specs.Literal.{Literal, pos, neg}
use Rattle.model.specs.Forest.{Conn, and, or, root, at_least, all_seated}
use Rattle.model.specs.Code.{Node, leaf, head, kind, value, children, node_of, decode, joined, trees, exactly_one, one_tree, literals}
use Rattle.model.specs.Sheet.{body_node, rooted}
use Rattle.model.specs.Book.{body_ok}
use Rattle.theory_forms.specs.Logic.{true_false, or_neither, same_test, pick_keeps}

-- Kinds 1 and 2 are literals.
unfoldable pub is_literal : ℕ → Bool
is_literal x = eqb (kind x) 1 || eqb (kind x) 2

-- The trees after one node more: none where the number is no node of a body of n options, or lacks children.
unfoldable pub joined_by : ℕ → ℕ → ℕ → Option ℕ
joined_by n x t = then (only_if (body_node n x) t) (joined (node_of x))

unfoldable pub scan : ℕ → List ℕ → Option ℕ
scan n [] = some zero
scan n (x ∷ xs) = then (scan n xs) (joined_by n x)

-- The count itself; 0 for none.
unfoldable pub counted : Option ℕ → ℕ
counted none = zero
counted (some t) = t

-- The node of a number: a literal where the number is one, and else a connective with as many children as it says.
pub literal_node : (x : ℕ) → is_literal x ≡ true → (l : Literal) × (node_of x ≡ leaf l)
unfolding is_literal node_of pick
literal_node x h = go (eqb (kind x) 1) refl (eqb (kind x) 2) refl h
  where
    go : (a : Bool) → eqb (kind x) 1 ≡ a → (b : Bool) → eqb (kind x) 2 ≡ b → (a || b) ≡ true → (l : Literal) × (node_of x ≡ leaf l)
    go true p b q e = (pos (value x), rw p)
    go false p true q e = (neg (value x), rw (p, q))
    go false p false q e = true_false (sym e)

pub inner_node : (x : ℕ) → is_literal x ≡ false → (c : Conn) × (node_of x ≡ head c (children x))
unfolding is_literal node_of pick
inner_node x h =
    let s = or_neither (eqb (kind x) 1) (eqb (kind x) 2) h in
    rw (s.0, s.1)
    (pick_keeps Inner (eqb (kind x) 3)
    (and, refl)
    (pick_keeps Inner (eqb (kind x) 4)
    (or, refl)
    (pick_keeps Inner (eqb (kind x) 6) (at_least (value x % least_factor), refl) (root, refl))))
  where
    Inner : Node → Type 0
    Inner y = (c : Conn) × (y ≡ head c (children x))

-- Literals among nodes, by the first number.
module _ (x : ℕ) (xs : List ℕ) where
  pub literals_more : is_literal x ≡ true → literals (map node_of (x ∷ xs)) ≡ suc (literals (map node_of xs))
  unfolding literals
  literals_more h = rw (literal_node x h).1

  pub literals_same : is_literal x ≡ false → literals (map node_of (x ∷ xs)) ≡ literals (map node_of xs)
  unfolding literals
  literals_same h = rw (inner_node x h).1

pub literals_within : (ns : List Node) → literals ns ≤ length ns
unfolding literals
literals_within [] = omega arith
literals_within (leaf l ∷ ns) = omega (arith, literals_within ns)
literals_within (head c k ∷ ns) = omega (arith, literals_within ns)

-- The trees after one node more, by the node's kind.
module _ (n x t : ℕ) where
  pub joined_none : body_node n x ≡ false → joined_by n x t ≡ none
  unfolding joined_by then only_if
  joined_none h = rw h

  pub joined_literal : body_node n x ≡ true → is_literal x ≡ true → joined_by n x t ≡ some (suc t)
  unfolding joined_by then only_if joined
  joined_literal h l = rw (h, (literal_node x l).1)

  pub joined_inner : body_node n x ≡ true → is_literal x ≡ false → joined_by n x t ≡ only_if (leb (children x) t) (suc (t - children x))
  unfolding joined_by then only_if joined
  joined_inner h l = rw (h, (inner_node x l).1)

-- The scan counts the trees, where every number is a node of a body.
pub scan_trees : (n : ℕ) (xs : List ℕ) → scan n xs ≡ pick (all (body_node n) xs) (trees (map node_of xs)) none
unfolding scan joined_by trees all pick then only_if
scan_trees n [] = refl
scan_trees n (x ∷ xs) = rw (scan_trees n xs) (go (body_node n x) (all (body_node n) xs) (trees (map node_of xs)))
  where
    go :
        (b a : Bool) (o : Option ℕ) →
        then (pick a o none) (λ t. then (only_if b t) (joined (node_of x))) ≡ pick (b && a) (then o (joined (node_of x))) none
    go true true none = refl
    go true true (some t) = refl
    go true false o = refl
    go false true none = refl
    go false true (some t) = refl
    go false false o = refl

pub scan_ok : (n : ℕ) (xs : List ℕ) → body_ok n xs ≡ (exactly_one (scan n xs) && all_seated (decode (map node_of xs)))
unfolding body_ok one_tree exactly_one pick
scan_ok n xs = rw (scan_trees n xs) (ap (λ b. b && all_seated (decode (map node_of xs))) (go (all (body_node n) xs)))
  where
    go : (a : Bool) → (a && exactly_one (trees (map node_of xs))) ≡ exactly_one (pick a (trees (map node_of xs)) none)
    go true = refl
    go false = refl

-- A node adds at most one tree, so there are no more trees than numbers.
joined_count : (y : Node) (t : ℕ) → counted (joined y t) ≤ suc t
unfolding joined counted only_if
joined_count (leaf l) t = omega arith
joined_count (head c k) t = go (leb k t)
  where
    go : (b : Bool) → counted (only_if b (suc (t - k))) ≤ suc t
    go true = omega arith
    go false = omega arith

pub scan_count : (n : ℕ) (xs : List ℕ) → counted (scan n xs) ≤ length xs
unfolding scan joined_by counted then only_if
scan_count n [] = omega arith
scan_count n (x ∷ xs) = go (scan n xs) (body_node n x) (scan_count n xs)
  where
    go :
        (o : Option ℕ) (b : Bool) →
        counted o ≤ length xs →
        counted (then o (λ t. then (only_if b t) (joined (node_of x)))) ≤ suc (length xs)
    go none b h = omega arith
    go (some t) true h = omega (arith, joined_count (node_of x) t)
    go (some t) false h = omega arith

-- One number more, before a part of a list.
pub scan_before :
    (n i end : ℕ) (s : List ℕ) →
    0 < i →
    i ≤ end →
    end ≤ length s →
    scan n (slice (i - 1) end s) ≡ then (scan n (slice i end s)) (joined_by n (get_or s (i - 1) 0))
unfolding scan
scan_before n zero end s h k l = absurd (omega arith)
scan_before n (suc j) end s h k l = let e : suc j - 1 ≡ j = omega arith in rw (e, slice-cons j end s 0)

-- A node takes all trees where they are as many as its children.
takes_all : (v t : ℕ) → exactly_one (only_if (leb v t) (suc (t - v))) ≡ eqb t v
unfolding exactly_one only_if
takes_all v t = go (leb v t) refl
  where
    go : (b : Bool) → leb v t ≡ b → exactly_one (only_if b (suc (t - v))) ≡ eqb t v
    go true e =
        let enough : v ≤ t = leb-true v t e in
        same_test (eqb (suc (t - v)) 1) (eqb t v)
        (λ h. let one = eqb-true (suc (t - v)) 1 h in eq-eqb t v (omega arith))
        (λ h. let same = eqb-true t v h in eq-eqb (suc (t - v)) 1 (omega arith))
    go false e = let few : t < v = leb-false v t e in sym (ne_eqb t v (λ same. omega arith))

pub root_node : (x : ℕ) → eqb (kind x) 5 ≡ true → node_of x ≡ head root (children x)
unfolding node_of pick
root_node x h = rw (eqb-true (kind x) 5 h)

-- A tree with the root at its head and nowhere else: the head is of kind 5, and the rest are as many trees as it has children.
pub rooted_scan :
    (n x : ℕ) (xs : List ℕ) →
    (rooted n (x ∷ xs) && one_tree (map node_of (x ∷ xs))) ≡ (eqb (kind x) 5 && maybe false (λ t. eqb t (children x)) (scan n xs))
unfolding rooted one_tree exactly_one trees then joined maybe pick
rooted_scan n x xs = rw (scan_trees n xs) (go (eqb (kind x) 5) refl)
  where
    rest :
        (a : Bool) (o : Option ℕ) →
        (a && exactly_one (then o (joined (head root (children x))))) ≡ maybe false (λ t. eqb t (children x)) (pick a o none)
    rest true none = refl
    rest true (some t) = takes_all (children x) t
    rest false o = refl

    go :
        (b : Bool) →
        eqb (kind x) 5 ≡ b →
        ((b && all (body_node n) xs) && one_tree (node_of x ∷ map node_of xs)) ≡ (b && maybe false (λ t. eqb t (children x)) (pick (all (body_node n) xs) (trees (map node_of xs)) none))
    go true e = rw (root_node x e) (rest (all (body_node n) xs) (trees (map node_of xs)))
    go false e = refl
