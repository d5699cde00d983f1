-- Sheets: what a list that is a sheet holds, and that the sheet of well-formed nodes is one.
use Rattle.std.proofs.Math.Bool.{true}
use Rattle.std.specs.Prelude.{◌&&◌, ◌≡◌, eqb, ltb, get_or, drop}
use mathlib.Core.List.{List, [], ◌∷◌, ◌++◌, map}
use Rattle.std.proofs.Math.Path.{refl, ap}
use Rattle.std.proofs.Common.{sym, ap₂, ◌∙◌, length-drop, take-append-drop, length-take-le}
use Prim.Native.Nat.{ℕ, suc, ◌-◌, ◌≤◌, ◌<◌}
use native.Mathlib.Omega.{arith}
use borrow.Author.Tests.{eqb-true, eq-eqb, leb-true, le-leb, ltb-true, lt-ltb}
use Rattle.std.proofs.Math.Dec.{leb}
use Rattle.std.proofs.Math.ListN.{length, replicate, length-append, length-map, length-replicate}
use Rattle.std.proofs.Math.Seq.{take_at, drop_at}
use Rattle.model.specs.Base.{pick, all}
use Rattle.model.specs.Literal.{option}
use Rattle.model.specs.Forest.{root, Forest, nil, lit, node, size, all_seated}
use Rattle.model.specs.Code.{Node, head, encode, decode, trees, exactly_one, one_tree, weight, kind, node_of, number_of, conn_kind, children}
use Rattle.model.specs.Limits.{sheet_length, sheet_room, most_options, most_weight, kind_factor}
use Rattle.model.specs.Sheet.{body_node, options_in, used_in, numbers_in, nodes_in, rest_in, rooted, is_sheet, sheet_of}
use Rattle.theory_forms.specs.Logic.{true_false, and_split, and_join}
use Rattle.theory_forms.specs.Lists.{all_append, all_at, all_from, all_weaken, all_map, map_back, all_replicate, two_first, all_zero}
use Rattle.theory_forms.specs.Codes.{size_length, one_tree_is, trees_below}
use Rattle.theory_forms.specs.Numbers.{fits, fits_head, fits_root, known, head_kind, node_number, number_node, known_body, plain_nodes, body_number, plain}
use Rattle.theory_forms.specs.Seats.{seated_below}
use Rattle.theory_forms.specs.Fine.{placed_inner, fine, fine_node}
use Rattle.theory_forms.specs.Shape.{Shaped, shaped, shaped_seated, shaped_trees, shaped_flat, shaped_plain}

-- Numbers that begin with kind 5 and go on with nodes of bodies: each is one of a node, and as one tree they are shaped.
rooted_known : (n : ℕ) (xs : List ℕ) → rooted n xs ≡ true → all known xs ≡ true
unfolding rooted all known
rooted_known n [] h = true_false (sym h)
rooted_known n (x ∷ xs) h =
    let s = and_split (eqb (kind x) 5) _ h in
    let five : known x ≡ true = rw (eqb-true (kind x) 5 s.0) in
    and_join five (all_weaken (body_node n) known (known_body n) xs s.1)

rooted_shaped :
    (n : ℕ) (xs : List ℕ) →
    rooted n xs ≡ true →
    one_tree (map node_of xs) ≡ true →
    all_seated (decode (map node_of xs)) ≡ true →
    Shaped n (map node_of xs)
unfolding rooted node_of pick
rooted_shaped n [] h o m = true_false (sym h)
rooted_shaped n (x ∷ xs) h o m =
    let s = and_split (eqb (kind x) 5) _ h in
    let top : node_of x ≡ head root (children x) = rw (eqb-true (kind x) 5 s.0) in
    let whole = ap (λ y. trees (y ∷ map node_of xs)) (sym top) ∙ one_tree_is (map node_of (x ∷ xs)) o in
    let below = seated_below root (children x) (map node_of xs) (rw top at m) in
    rw top (shaped n (children x) (map node_of xs) (trees_below root (children x) _ whole) (plain_nodes n xs s.1) below)

-- What a sheet holds: a formed tree within the largest room. Code inside asks for this, whatever the limits of a call.
pub record Formed (s : List ℕ) : Type 0 where
  pub whole : length s ≡ sheet_length
  pub options : options_in s ≤ most_options
  pub used : used_in s ≤ sheet_room
  pub count : length (nodes_in s) ≡ used_in s
  pub numbers : numbers_in s ≡ map number_of (nodes_in s)
  pub rooted : rooted (options_in s) (numbers_in s) ≡ true
  pub rest : rest_in s ≡ replicate (sheet_room - used_in s) 0
  pub shaped : Shaped (options_in s) (nodes_in s)
  pub weight : weight (nodes_in s) ≤ most_weight

pub sheet_formed : (s : List ℕ) → is_sheet s ≡ true → Formed s
unfolding is_sheet numbers_in nodes_in rest_in
sheet_formed s h =
    let a = eqb (length s) sheet_length in
    let b = leb (options_in s) most_options in
    let c = leb (used_in s) sheet_room in
    let d = rooted (options_in s) (numbers_in s) in
    let e = one_tree (nodes_in s) in
    let m = all_seated (decode (nodes_in s)) in
    let f = all (eqb 0) (rest_in s) in
    let last = and_split (a && b && c && d && e && m && f) _ h in
    let zeros = and_split (a && b && c && d && e && m) f last.0 in
    let seats = and_split (a && b && c && d && e) m zeros.0 in
    let tree = and_split (a && b && c && d) e seats.0 in
    let form = and_split (a && b && c) d tree.0 in
    let room = and_split (a && b) c form.0 in
    let first = and_split a b room.0 in
    let long = eqb-true (length s) sheet_length first.0 in
    let used = leb-true (used_in s) sheet_room room.1 in
    let enough : used_in s ≤ length (drop 2 s) = omega (arith, length-drop 2 s) in
    let left : length (rest_in s) ≡ sheet_room - used_in s = omega (arith, length-drop (used_in s) (drop 2 s), length-drop 2 s) in
    record {
      whole = long;
      options = leb-true (options_in s) most_options first.1;
      used = used;
      count = length-map (numbers_in s) node_of ∙ length-take-le (used_in s) (drop 2 s) enough;
      numbers = sym (map_back node_of number_of known number_node (numbers_in s) (rooted_known _ (numbers_in s) form.1));
      rooted = form.1;
      rest = all_zero (rest_in s) zeros.1 ∙ ap (λ k. replicate k 0) left;
      shaped = rooted_shaped (options_in s) (numbers_in s) form.1 tree.1 seats.1;
      weight = leb-true (weight (nodes_in s)) most_weight last.1;
    }

module _ (s : List ℕ) (h : is_sheet s ≡ true) where
  pub sheet_shaped : Shaped (options_in s) (nodes_in s)
  sheet_shaped = (sheet_formed s h).shaped

  pub sheet_options : options_in s ≤ most_options
  sheet_options = (sheet_formed s h).options

  pub sheet_weight : weight (nodes_in s) ≤ most_weight
  sheet_weight = (sheet_formed s h).weight

-- A sheet is the sheet of its options and nodes.
pub sheet_is : (s : List ℕ) → Formed s → s ≡ sheet_of (options_in s) (nodes_in s)
unfolding sheet_of options_in used_in rest_in numbers_in
sheet_is s k =
    let body : drop 2 s ≡ map number_of (nodes_in s) ++ replicate (sheet_room - used_in s) 0 = sym (take-append-drop (used_in s) (drop 2 s)) ∙ ap₂ ◌++◌ k.numbers k.rest in
    rw k.count (two_first s (omega (arith, k.whole)) ∙ ap (λ r. get_or s 0 0 ∷ get_or s 1 0 ∷ r) body)

-- Nodes of the form of a sheet, at most 4,096 of them, have numbers.
fits_encode : (n : ℕ) (f : Forest) → n ≤ kind_factor → fine n f ≡ true → length (encode f) < kind_factor → all fits (encode f) ≡ true
unfolding fine encode all fits
fits_encode n nil l h b = refl
fits_encode n (lit x f) l h b =
    let s = and_split (ltb (option x) n) _ h in
    and_join (lt-ltb (option x) kind_factor (omega (arith, ltb-true (option x) n s.0))) (fits_encode n f l s.1 (omega arith))
fits_encode n (node c k f) l h b =
    let s = fine_node n c k f h in
    let long = length-append (encode k) (encode f) in
    and_join
    (fits_head c (size k) (placed_inner c k s.0) (omega (arith, size_length k)))
    (all_append fits (encode k) (encode f) ∙ and_join (fits_encode n k l s.1 (omega arith)) (fits_encode n f l s.2 (omega arith)))

pub options_made : (n : ℕ) (ns : List Node) → options_in (sheet_of n ns) ≡ n
unfolding options_in sheet_of
options_made n ns = refl

module _ (n : ℕ) (ns : List Node) where
  numbers_made : numbers_in (sheet_of n ns) ≡ map number_of ns
  unfolding numbers_in used_in sheet_of
  numbers_made = take_at (map number_of ns) _ (length ns) (length-map ns number_of)

  rest_made : rest_in (sheet_of n ns) ≡ replicate (sheet_room - length ns) 0
  unfolding rest_in used_in sheet_of
  rest_made = drop_at (map number_of ns) _ (length ns) (length-map ns number_of)

module _ {n : ℕ} {ns : List Node} (few : n ≤ most_options) (form : Shaped n ns) (light : weight ns ≤ most_weight) where
  few_nodes : length ns ≤ sheet_room
  unfolding weight
  few_nodes = omega arith

  nodes_fit : all fits ns ≡ true
  unfolding all
  nodes_fit =
      let k = form.kids in
      let long : suc (length (encode k)) ≤ sheet_room = rw (shaped_flat form) at few_nodes in
      rw (shaped_flat form) (and_join (fits_root (size k) (omega (arith, size_length k))) (fits_encode n k (omega arith) form.fine long))

  -- The nodes of the sheet made of well-formed nodes are those nodes.
  pub nodes_made : nodes_in (sheet_of n ns) ≡ ns
  unfolding nodes_in
  nodes_made = ap (map node_of) (numbers_made n ns) ∙ map_back number_of node_of fits node_number ns nodes_fit

  numbers_rooted : rooted n (map number_of ns) ≡ true
  unfolding rooted conn_kind all
  numbers_rooted =
      let below = encode form.kids in
      let small = and_split (fits (head root (size form.kids))) (all fits below) (rw (shaped_flat form) at nodes_fit) in
      let five = eq-eqb _ 5 (head_kind root (size form.kids) small.0) in
      let bodies = all_from (λ y. body_node n (number_of y)) below (λ y m. body_number n y (all_at fits below small.1 m) ∙ all_at (plain n) below (shaped_plain form) m) in
      rw (shaped_flat form) (and_join five (all_map number_of (body_node n) below ∙ bodies))

  -- The sheet made of well-formed nodes is a sheet.
  pub sheet_made : is_sheet (sheet_of n ns) ≡ true
  unfolding is_sheet sheet_of options_in used_in one_tree exactly_one
  sheet_made =
      let new = sheet_of n ns in
      let zeros : List ℕ = replicate (sheet_room - length ns) 0 in
      let long : length new ≡ sheet_length = omega (arith, few_nodes, length-append (map number_of ns) zeros, length-map ns number_of, length-replicate {A = ℕ} (sheet_room - length ns) 0) in
      let head : rooted n (numbers_in new) ≡ true = ap (rooted n) (numbers_made n ns) ∙ numbers_rooted in
      let tree : one_tree (nodes_in new) ≡ true = ap one_tree nodes_made ∙ ap exactly_one (shaped_trees form) in
      let seats : all_seated (decode (nodes_in new)) ≡ true = ap (λ ms. all_seated (decode ms)) nodes_made ∙ shaped_seated form in
      let rest : all (eqb 0) (rest_in new) ≡ true = ap (all (eqb 0)) (rest_made n ns) ∙ all_replicate (eqb 0) (sheet_room - length ns) 0 refl in
      let load : leb (weight (nodes_in new)) most_weight ≡ true = ap (λ ms. leb (weight ms) most_weight) nodes_made ∙ le-leb (weight ns) most_weight light in
      let numbers = and_join (and_join (eq-eqb (length new) sheet_length long) (le-leb n most_options few)) (le-leb (length ns) sheet_room few_nodes) in
      and_join (and_join (and_join (and_join (and_join numbers head) tree) seats) rest) load

  pub formed_made : Formed (sheet_of n ns)
  formed_made = sheet_formed (sheet_of n ns) sheet_made
