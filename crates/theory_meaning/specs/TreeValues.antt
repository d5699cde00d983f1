-- The nodes of a sheet, number by number from the right, and the values of the trees that they spell.
use Rattle.std.specs.Prelude.{Bool, true, false, ◌&&◌, ◌||◌, List, [], ◌∷◌, map, ◌≡◌, ℕ, zero, suc, ◌+◌, ◌-◌, ◌*◌, ◌/◌, ◌%◌, ◌≤◌, ◌<◌, eqb, ltb, leb, set, take}
use Rattle.std.proofs.Math.Option.{some}
use Rattle.std.proofs.Math.Path.{refl, sym, ap}
use Rattle.std.proofs.Common.{ap₂, ◌∙◌, arith, get_or-set_other}
use borrow.Author.Tests.{eqb-true, ne_eqb, ltb-true, leb-true}
use Rattle.std.proofs.Math.ListN.{get_or, drop, length, length-drop, length-map}
use Rattle.std.proofs.Math.Seq.{drop-cons}
use Rattle.model.specs.Base.{pick, all}
use Rattle.model.specs.Limits.{most_literals, least_factor}
use Rattle.model.specs.Literal.{pos, neg, option}
use Rattle.model.specs.Forest.{Conn, and, or, root, at_least, Forest, size, first, members, seated, all_seated}
use Rattle.model.specs.Code.{Node, leaf, head, kind, value, node_of, decode, push, trees, joined, children, conn_kind}
use Rattle.model.specs.Sheet.{numbers_in, nodes_in, used_in, options_in, rooted, body_node}
use Rattle.theory_forms.specs.Logic.{true_false, and_split, or_neither, then_some, only_some}
use Rattle.theory_forms.specs.Scan.{is_literal, inner_node}
use Rattle.theory_reading.specs.Leaves.{literal_kind}
use Rattle.theory_forms.specs.Codes.{encode_decode, trees_drop, size_length}
use Rattle.theory_forms.specs.Forests.{grouping}
use Rattle.theory_forms.specs.Lists.{all_index, map_drop}
use Rattle.theory_forms.specs.Seats.{seated_below}
use Rattle.theory_forms.specs.Shape.{shaped_trees, shaped_seated}
use Rattle.theory_forms.specs.Sheets.{Formed}
use Rattle.theory_meaning.specs.Evaluation.{Set, fails_all, values, length_values, count}
use Rattle.theory_meaning.specs.Families.{unwrapped_values}
use Rattle.theory_meaning.specs.Members.{AlikeBut, one_member_more}
use Rattle.theory_meaning.specs.Values.{and_root, values_first, values_after}
use Rattle.theory_meaning.specs.FailedLiterals.{place_of, set_of}
use Rattle.theory_reading.specs.Leaves.{place_at}
use Rattle.theory_meaning.specs.NumberTrees.{conn_at, with_node, tree_fails, SpellsTree}

-- The values of the trees that numbers spell.
unfoldable pub values_of : List ℕ → List ℕ → List Bool
values_of t xs = values (set_of t) (decode (map node_of xs))

-- A literal's value, and the value of a node by those of its children.
literal_value :
    (t : List ℕ) (x : ℕ) (f : Forest) →
    is_literal x ≡ true →
    values (set_of t) (push (node_of x) f) ≡ eqb (get_or t (place_at x) 0) 1 ∷ values (set_of t) f
unfolding is_literal node_of pick push values set_of place_of place_at
literal_value t x f h = go (eqb (kind x) 1) refl (eqb (kind x) 2) refl h
  where
    go :
        (a : Bool) →
        eqb (kind x) 1 ≡ a →
        (b : Bool) →
        eqb (kind x) 2 ≡ b →
        (a || b) ≡ true →
        values (set_of t) (push (node_of x) f) ≡ eqb (get_or t (place_at x) 0) 1 ∷ values (set_of t) f
    go true p b q e = let k : 2 * value x + kind x - 1 ≡ 2 * value x = omega (arith, eqb-true (kind x) 1 p) in rw (p, k)
    go false p true q e = let k : 2 * value x + kind x - 1 ≡ 2 * value x + 1 = omega (arith, eqb-true (kind x) 2 q) in rw (p, q, k)
    go false p false q e = true_false (sym e)

head_values :
    (s : Set) (c : Conn) (k : ℕ) (f : Forest) →
    values s (push (head c k) f) ≡ fails_all c (take k (values s f)) ∷ drop k (values s f)
unfolding push values
head_values s c k f =
    ap₂ ◌∷◌ (ap (fails_all c) (values_first s k f)) (values_after s k f)

inner_value :
    (s : Set) (x : ℕ) (f : Forest) →
    is_literal x ≡ false →
    values s (push (node_of x) f) ≡ fails_all (conn_at x) (take (children x) (values s f)) ∷ drop (children x) (values s f)
unfolding is_literal node_of conn_at pick
inner_value s x f h =
    let none = or_neither (eqb (kind x) 1) (eqb (kind x) 2) h in
    rw (none.0, none.1) (go (eqb (kind x) 3) refl (eqb (kind x) 4) refl (eqb (kind x) 6) refl)
  where
    n : ℕ
    n = children x

    bs : List Bool
    bs = values s f

    many : Conn
    many = at_least (value x % least_factor)

    go :
        (a : Bool) →
        eqb (kind x) 3 ≡ a →
        (b : Bool) →
        eqb (kind x) 4 ≡ b →
        (c : Bool) →
        eqb (kind x) 6 ≡ c →
        values s (push (pick a (head and n) (pick b (head or n) (pick c (head many n) (head root n)))) f)
        ≡ fails_all (pick b or (pick c many root)) (take n bs) ∷ drop n bs
    go true p true q c r = absurd (omega (arith, eqb-true (kind x) 3 p, eqb-true (kind x) 4 q))
    go true p false q true r = absurd (omega (arith, eqb-true (kind x) 3 p, eqb-true (kind x) 6 r))
    go true p false q false r = head_values s and n f ∙ ap (λ b. b ∷ drop n bs) (and_root (take n bs))
    go false p true q c r = head_values s or n f
    go false p false q true r = head_values s many n f
    go false p false q false r = head_values s root n f

pub values_none : (t : List ℕ) → values_of t [] ≡ []
unfolding values_of decode values
values_none t = refl

pub values_more : (t : List ℕ) (x : ℕ) (xs : List ℕ) → values_of t (x ∷ xs) ≡ with_node t x (values_of t xs)
unfolding values_of with_node decode pick
values_more t x xs = go (is_literal x) refl
  where
    f : Forest
    f = decode (map node_of xs)

    go :
        (b : Bool) →
        is_literal x ≡ b →
        values (set_of t) (push (node_of x) f) ≡ pick b (eqb (get_or t (place_at x) 0) 1 ∷ values (set_of t) f) (fails_all (conn_at x) (take (children x) (values (set_of t) f)) ∷ drop (children x) (values (set_of t) f))
    go true e = literal_value t x f e
    go false e = inner_value (set_of t) x f e

-- The connective, by the kind of the number.
module _ (x : ℕ) where
  pub conn_any : kind x ≡ 4 → conn_at x ≡ or
  unfolding conn_at pick
  conn_any e = rw e

  pub conn_least : kind x ≡ 6 → conn_at x ≡ at_least (value x % least_factor)
  unfolding conn_at pick
  conn_least e = rw e

  pub conn_all : (kind x ≡ 4 → ⊥) → (kind x ≡ 6 → ⊥) → conn_at x ≡ root
  unfolding conn_at pick
  conn_all a b = rw (ne_eqb (kind x) 4 a, ne_eqb (kind x) 6 b)

-- With-node, by the kind of the number.
module _ (t : List ℕ) (x : ℕ) (bs : List Bool) where
  pub with_literal : is_literal x ≡ true → with_node t x bs ≡ eqb (get_or t (place_at x) 0) 1 ∷ bs
  unfolding with_node pick
  with_literal h = rw h

  pub with_inner :
      is_literal x ≡ false →
      with_node t x bs ≡ fails_all (conn_at x) (take (children x) bs) ∷ drop (children x) bs
  unfolding with_node pick
  with_inner h = rw h

-- The number of the trees.
unfoldable pub trees_of : List ℕ → ℕ
trees_of xs = size (decode (map node_of xs))

pub values_length : (t xs : List ℕ) → length (values_of t xs) ≡ trees_of xs
unfolding values_of trees_of
values_length t xs = length_values (set_of t) (decode (map node_of xs))

-- The literals among numbers that begin with the root have options below n.
rooted_literal :
    (n : ℕ) (xs : List ℕ) (i : ℕ) →
    rooted n xs ≡ true →
    i < length xs →
    is_literal (get_or xs i 0) ≡ true →
    value (get_or xs i 0) < n
unfolding rooted body_node is_literal pick
rooted_literal n [] i e h l = true_false (sym e)
rooted_literal n (x ∷ xs) zero e h l =
    let five = eqb-true (kind x) 5 (and_split (eqb (kind x) 5) (all (body_node n) xs) e).0 in
    let small = literal_kind x l in
    absurd (omega arith)
rooted_literal n (x ∷ xs) (suc i) e h l =
    let y = get_or xs i 0 in
    let b = all_index (body_node n) xs i 0 (and_split (eqb (kind x) 5) (all (body_node n) xs) e).1 (omega arith) in
    let r : ltb (value y) n ≡ true = rw l at b in
    ltb-true (value y) n r

-- What stands from a place on is in its seat, where all is.
pub seated_from : (i : ℕ) (ns : List Node) → all_seated (decode ns) ≡ true → all_seated (decode (drop i ns)) ≡ true
unfolding decode push all_seated
seated_from zero ns h = h
seated_from (suc i) [] h = h
seated_from (suc i) (leaf l ∷ ns) h = seated_from i ns h
seated_from (suc i) (head c m ∷ ns) h = seated_from i ns (seated_below c m ns h)

-- The children of kind 6 are members.
members_here :
    (x : ℕ) (ns : List Node) →
    eqb (kind x) 6 ≡ true →
    all_seated (decode (node_of x ∷ ns)) ≡ true →
    members (first (children x) (decode ns)) ≡ true
unfolding node_of pick decode push all_seated seated
members_here x ns six h =
    let k = first (children x) (decode ns) in
    let top : node_of x ≡ head (at_least (value x % least_factor)) (children x) = rw (eqb-true (kind x) 6 six) in
    (and_split (members k) (all_seated k) (and_split (members k && all_seated k) _ (rw top at h)).0).0

-- A table with one literal more is like the table, but for the literal's option.
one_literal : (t : List ℕ) (q : ℕ) → AlikeBut (q / 2) (set_of t) (set_of (set t q 1))
unfolding set_of place_of option
one_literal t q (pos v) d = ap (λ x. eqb x 1) (get_or-set_other t q (2 * v) 1 0 (λ e. d (omega arith)))
one_literal t q (neg v) d = ap (λ x. eqb x 1) (get_or-set_other t q (2 * v + 1) 1 0 (λ e. d (omega arith)))

more_fail :
    (t : List ℕ) (q m : ℕ) (ys : List ℕ) →
    members (first m (decode (map node_of ys))) ≡ true →
    count (take m (values_of (set t q 1) ys)) ≤ suc (count (take m (values_of t ys)))
unfolding values_of
more_fail t q m ys h =
    let f = decode (map node_of ys) in
    rw (← values_first (set_of (set t q 1)) m f, ← values_first (set_of t) m f) (one_member_more (one_literal t q) (first m f) h)

-- A connective has its children among the trees that it joins.
takes_enough : (x t : ℕ) {u : ℕ} → is_literal x ≡ false → joined (node_of x) t ≡ some u → children x ≤ t
unfolding joined
takes_enough x t h e =
    let w = inner_node x h in
    leb-true (children x) t (only_some (leb (children x) t) _ (sym (ap (λ y. joined y t) w.1) ∙ e)).0

-- The numbers of a tree from a place on: the number at the place and those after it; there are no more trees after it than
-- numbers; a literal stands in a table of 1,024, and a connective has its children; those of kind 6 are members, so that one literal
-- more that fails makes at most one of them more fail.
pub record NodeHere (xs : List ℕ) (i : ℕ) : Type 0 where
  pub numbers : drop i xs ≡ get_or xs i 0 ∷ drop (suc i) xs
  pub few : trees_of (drop (suc i) xs) + suc i ≤ length xs
  pub inside : is_literal (get_or xs i 0) ≡ true → place_at (get_or xs i 0) < most_literals
  pub enough : is_literal (get_or xs i 0) ≡ false → children (get_or xs i 0) ≤ trees_of (drop (suc i) xs)
  pub one_more :
      eqb (kind (get_or xs i 0)) 6 ≡ true →
      (t : List ℕ) (q : ℕ) →
      count (take (children (get_or xs i 0)) (values_of (set t q 1) (drop (suc i) xs)))
      ≤ suc (count (take (children (get_or xs i 0)) (values_of t (drop (suc i) xs))))

module _ (xs : List ℕ) (h : SpellsTree xs) where
  trees_from : (i : ℕ) → (u : ℕ) × (trees (map node_of (drop i xs)) ≡ some u)
  trees_from i =
      let w = trees_drop i (map node_of xs) h.one in
      (w.0, ap trees (map_drop node_of i xs) ∙ w.1)

  seated_here : (i : ℕ) → i < length xs → all_seated (decode (map node_of (get_or xs i 0 ∷ drop (suc i) xs))) ≡ true
  seated_here i l =
      ap (λ ys. all_seated (decode (map node_of ys))) (sym (drop-cons xs i 0 l))
      ∙ ap (λ ns. all_seated (decode ns)) (map_drop node_of i xs)
      ∙ seated_from i (map node_of xs) h.seated

  pub node_here : (i : ℕ) → i < length xs → NodeHere xs i
  unfolding trees_of trees
  node_here i l =
      let x = get_or xs i 0 in
      let ys = drop (suc i) xs in
      let cut : drop i xs ≡ x ∷ ys = drop-cons xs i 0 l in
      let w = trees_from i in
      let u = then_some (trees (map node_of ys)) (joined (node_of x)) (sym (ap (λ zs. trees (map node_of zs)) cut) ∙ w.1) in
      let code = encode_decode (map node_of ys) u.0 u.1 in
      let most : u.0 ≤ length ys = omega (arith, code.1, size_length (decode (map node_of ys)), ap length code.0, length-map ys node_of) in
      record {
        numbers = cut;
        few = omega (arith, code.1, length-drop (suc i) xs);
        inside = h.inside i l;
        enough = λ e. rw code.1 (takes_enough x u.0 e u.2);
        one_more = λ six t q. more_fail t q (children x) ys (members_here x (map node_of ys) six (seated_here i l));
      }

  -- There is one value: that of the tree.
  pub tree_value : (t : List ℕ) → values_of t xs ≡ tree_fails t xs ∷ []
  unfolding values_of tree_fails grouping conn_kind
  tree_value t = unwrapped_values (set_of t) root refl _ (encode_decode (map node_of xs) 1 h.one).1

-- The numbers of a sheet.
module _ (s : List ℕ) (h : Formed s) where
  pub numbers_long : length (numbers_in s) ≡ used_in s
  unfolding nodes_in
  numbers_long = sym (length-map (numbers_in s) node_of) ∙ h.count

  pub sheet_tree : SpellsTree (numbers_in s)
  unfolding nodes_in place_at
  sheet_tree =
      let k = h in
      record {
        one = shaped_trees h.shaped;
        inside = λ i l e. omega (arith, literal_kind (get_or (numbers_in s) i 0) e, k.options, rooted_literal (options_in s) (numbers_in s) i k.rooted l e);
        seated = shaped_seated h.shaped;
      }
