-- Rule 14 on a stretch: what becomes of the numbers.
use mathlib.Core.Bool.{true}
use mathlib.Core.List.{List, ◌∷◌, ◌++◌, append-nil}
use mathlib.Core.Option.{some}
use mathlib.Core.Path.{◌≡◌, refl, sym, ap, ap₂, ◌∙◌}
use Prim.Native.Nat.{ℕ, ◌+◌, ◌-◌, ◌≤◌, ◌<◌}
use native.Mathlib.Omega.{arith}
use borrow.Author.Tests.{le-leb}
use lib.ListN.{length, get_or, take, drop, replicate, length-map, length-append}
use lib.Seq.{take_at, drop_at}
use Rattle.model.specs.Base.{pick, is_some, then, only_if}
use Rattle.model.specs.Literal.{Literal}
use Rattle.model.specs.Forest.{Conn, and, or, Forest, nil, lit, node, ◌⊕◌, size}
use Rattle.model.specs.Code.{leaf, head, encode, weight, children, number, conn_kind, conn_value, number_of}
use Rattle.model.specs.Rules.{factor, change, row_of, table, rewrite, shares, units, groups_without, groups}
use Rattle.theory_forms.specs.Logic.{some_inj, pick_true}
use Rattle.theory_forms.specs.Forests.{grouping, conn_of_kind, size-⊕, groups_size}
use Rattle.theory_forms.specs.Numbers.{fits, head_number}
use Rattle.theory_reading.specs.Spans.{span, span_encode, child_at}
use Rattle.theory_reading.specs.Flat.{spell, Fits}
use Rattle.theory_reading.specs.Stretches.{Stretch, forest_in, live, live_numbers}
use Rattle.theory_rewriting.specs.Heads.{Headed, rewritten_to}
use Rattle.theory_rewriting.specs.Children.{code, Group, group_head, group_children, group_few, headed_group, literal_fits, conjunction_group}
use Rattle.theory_rewriting.specs.Turns.{family_at, last_at, family_turn}
use Rattle.rule_factor.specs.Walks.{unit_of, sharing, all_share}
use Rattle.rule_factor.proofs.TreeNumbers.{code-⊕, code_lit, code_node}
use Rattle.rule_factor.proofs.WalkedTrees.{share_trees}
use Rattle.rule_factor.proofs.Asking.{leaf_some, group_numbers, group_fits, unit_first, Applied, applied, sharing_trees, kids_numbers, rule_applies}
use Rattle.rule_regroup.specs.Regrouped.{factored, tree_after, step_after}
use Rattle.model.specs.Limits.{kind_factor}
use Rattle.rule_regroup.proofs.KeptTrees.{units_trees, groups_kept}
use Rattle.rule_regroup.proofs.FactoredSizes.{shared_kids, size_units, size_groups, shared_light}

-- The numbers of one tree.
code_one : (c : Conn) (k : Forest) → code (node c k nil) ≡ number_of (head c (size k)) ∷ code k
unfolding encode
code_one c k = code_node c k nil ∙ ap (λ t. number_of (head c (size k)) ∷ t) (append-nil (code k))

-- What a disjunction whose groups share a literal becomes, part by part.
conjunction_code :
    (a : Literal) (k : Forest) →
    code (node and (lit a (node or (groups_without a k) nil)) nil) ≡ 12290 ∷ number_of (leaf a) ∷ (16384 + groups k) ∷ code (groups_without a k)
unfolding number_of number conn_kind conn_value size
conjunction_code a k =
    let g = node or (groups_without a k) nil in
    code_one and (lit a g)
    ∙ ap (λ t. 12290 ∷ t) (code_lit a g)
    ∙ ap (λ t. 12290 ∷ number_of (leaf a) ∷ t) (code_one or (groups_without a k))
    ∙ ap (λ n. 12290 ∷ number_of (leaf a) ∷ (16384 + n) ∷ code (groups_without a k)) (size_groups a k)

shared_code :
    (a : Literal) (k : Forest) →
    code (shared_kids a k) ≡ code (units k) ++ (12290 ∷ number_of (leaf a) ∷ (16384 + groups k) ∷ code (groups_without a k))
shared_code a k =
    code-⊕ (units k) (node and (lit a (node or (groups_without a k) nil)) nil) ∙ ap (λ t. code (units k) ++ t) (conjunction_code a k)

shared_head : (a : Literal) (k : Forest) → number_of (head or (size k)) + 1 - groups k ≡ number_of (head or (size (shared_kids a k)))
unfolding number size grouping conn_kind
shared_head a k = omega (arith, head_number or (size k) refl, head_number or (size (shared_kids a k)) refl, size-⊕ (units k) (node and (lit a (node or (groups_without a k) nil)) nil), size_units k)

factored_trees :
    (a : Literal) →
    fits (leaf a) ≡ true →
    (k : Forest) (r : List ℕ) →
    Fits k →
    shares a k ≡ true →
    factored (number_of (leaf a)) (size k) (groups k) (number_of (head or (size k)) ∷ (code k ++ r)) ≡ code (node or (shared_kids a k) nil)
unfolding factored
factored_trees a h k r w s =
    rw (code_one or (shared_kids a k), shared_code a k, units_trees (number_of (leaf a)) k r w, groups_kept a h k r w s, shared_head a k)

module _ {l : List ℕ} (s : Stretch l) (h : Headed 14 l) where
  rule_conn : h.conn ≡ or
  unfolding row_of table conn_kind grouping
  rule_conn = conn_of_kind h.conn or refl (sym h.its_kind ∙ ap (λ w. w.kind) (sym (some_inj h.its_row)))

  rule_group : Group l or h.children h.rest h.zeros
  rule_group = rw rule_conn at (headed_group s h)

  pub rule_found : (i j : ℕ) → is_some (rewrite 14 i j (forest_in l)) ≡ true → Applied i j h.children
  rule_found i j t = applied h.conn i j h.children (sym (rule_applies s h i j) ∙ t)

  rule_forest : forest_in l ≡ node or h.children h.rest
  rule_forest = h.forest ∙ ap (λ c. node c h.children h.rest) rule_conn

  -- Where the tree ends, how many numbers are live, and what stands between.
  tree_end : child_at (children (get_or l 0 0)) l ≡ 1 + length (code h.children)
  tree_end =
      let k = h.children in
      ap (λ n. child_at n l) (group_children rule_group)
      ∙ ap (λ t. 1 + span (size k) t) (kids_numbers s h)
      ∙ ap (λ n. 1 + n) (span_encode k (spell h.rest h.zeros) (group_fits rule_group) ∙ sym (length-map (encode k) number_of))

  live_long : length (live l) ≡ 1 + length (code h.children) + length (code h.rest)
  unfolding spell
  live_long =
      let k = h.children in
      let f = node or k h.rest in
      ap (λ t. length (live t)) rule_group.spelled
      ∙ ap length (live_numbers (encode f) h.zeros ∙ code_node or k h.rest)
      ∙ omega (arith, length-append (code k) (code h.rest))

  pub ends_live : child_at (children (get_or l 0 0)) l ≤ length (live l)
  ends_live = omega (arith, tree_end, live_long)

  rest_there : take (length (live l) - child_at (children (get_or l 0 0)) l) (drop (child_at (children (get_or l 0 0)) l) l) ≡ code h.rest
  unfolding spell
  rest_there =
      let k = h.children in
      let e = child_at (children (get_or l 0 0)) l in
      let rest : drop e l ≡ code h.rest ++ replicate h.zeros 0 =
      ap (drop e) (group_numbers rule_group) ∙ drop_at (number_of (head or (size k)) ∷ code k) (spell h.rest h.zeros) e (omega (arith, tree_end)) in
      ap (take (length (live l) - e)) rest ∙ take_at (code h.rest) (replicate h.zeros 0) (length (live l) - e) (omega (arith, tree_end, live_long))

  -- The literal that is factored out, with what the rule asks of the children.
  module _ {i j : ℕ} (p : Applied i j h.children) where
    unit_number : unit_of j (drop (child_at i l) l) ≡ number_of (leaf p.literal)
    unit_number = unit_first (conjunction_group s h i p.conjunction) j p.there p.new

    unit_fitting : fits (leaf p.literal) ≡ true
    unit_fitting = (literal_fits (conjunction_group s h i p.conjunction) j p.there).0

    pub unit_there : unit_of j (drop (child_at i l) l) ≡ 0 → ⊥
    unit_there z = leaf_some p.literal unit_fitting (sym unit_number ∙ z)

    groups_number : sharing (number_of (leaf p.literal)) (size h.children) (drop 1 l) ≡ groups h.children
    groups_number =
        ap (sharing (number_of (leaf p.literal)) (size h.children)) (kids_numbers s h)
        ∙ sharing_trees p.literal unit_fitting h.children (spell h.rest h.zeros) (group_fits rule_group)
        ∙ pick_true _ (groups h.children) 0 p.shared

    kids_share : all_share (number_of (leaf p.literal)) (size h.children) (drop 1 l) ≡ true
    kids_share =
        ap (all_share (number_of (leaf p.literal)) (size h.children)) (kids_numbers s h)
        ∙ share_trees p.literal unit_fitting h.children (spell h.rest h.zeros) (group_fits rule_group)
        ∙ p.shared

    -- The same, read from the numbers.
    pub all_shared : all_share (unit_of j (drop (child_at i l) l)) (children (get_or l 0 0)) (drop 1 l) ≡ true
    all_shared = ap₂ (λ x m. all_share x m (drop 1 l)) unit_number (group_children rule_group) ∙ kids_share

    groups_is : sharing (unit_of j (drop (child_at i l) l)) (children (get_or l 0 0)) (drop 1 l) ≡ groups h.children
    groups_is = ap₂ (λ x m. sharing x m (drop 1 l)) unit_number (group_children rule_group) ∙ groups_number

    pub groups_few :
        let g = sharing (unit_of j (drop (child_at i l) l)) (children (get_or l 0 0)) (drop 1 l) in
        (g < kind_factor) × (g ≤ get_or l 0 0) × (get_or l 0 0 < 20480)
    unfolding number conn_kind grouping
    groups_few =
        let few = group_few rule_group in
        let less = groups_size h.children in
        (omega (arith, groups_is), omega (arith, groups_is, group_head rule_group refl), omega (arith, group_head rule_group refl))

    -- What the tree becomes, and the stretch.
    tree_is : tree_after i j l ≡ code (node or (shared_kids p.literal h.children) nil)
    unfolding tree_after
    tree_is =
        let k = h.children in
        let a = number_of (leaf p.literal) in
        ap₂ (λ x m. factored x m (sharing x m (drop 1 l)) l) unit_number (group_children rule_group)
        ∙ ap₂ (factored a (size k)) groups_number (group_numbers rule_group)
        ∙ factored_trees p.literal unit_fitting k (spell h.rest h.zeros) (group_fits rule_group) p.shared

    step_is : step_after i j l ≡ code (node or (shared_kids p.literal h.children) h.rest)
    unfolding step_after ◌⊕◌
    step_is =
        let new = shared_kids p.literal h.children in
        ap₂ ◌++◌ tree_is rest_there ∙ sym (code-⊕ (node or new nil) h.rest)

    pub step_room : length (step_after i j l) ≤ length l
    unfolding weight
    step_room =
        let new = node or (shared_kids p.literal h.children) h.rest in
        omega (arith, ap length step_is, length-map (encode new) number_of, shared_light p.literal h.children h.rest p.shared p.two, ap (λ f. weight (encode f)) rule_forest, s.room)

    pub tree_room : length (tree_after i j l) ≤ length (step_after i j l)
    unfolding step_after
    tree_room = omega (arith, length-append (tree_after i j l) (take (length (live l) - child_at (children (get_or l 0 0)) l) (drop (child_at (children (get_or l 0 0)) l) l)))

    made : factor h.conn i j h.children ≡ some (node h.conn (shared_kids p.literal h.children) nil)
    unfolding factor then only_if
    made = rw (p.conjunction, p.there, p.before, p.new, p.shared, le-leb 2 (groups h.children) p.two)

    -- A stretch that begins with what it should become, before zeros, has become that.
    pub turned :
        {front out : List ℕ} (z : ℕ) →
        is_some (rewrite 14 i j (forest_in l)) ≡ true →
        front ≡ step_after i j l →
        out ≡ front ++ replicate z 0 →
        length out ≡ length l →
        out ≡ rewritten_to 14 i j l
    unfolding family_at last_at pick change spell ◌⊕◌
    turned z t begun e n =
        family_turn h i j z t
        (λ g w. e
        ∙ ap (λ x. x ++ replicate z 0) (begun ∙ step_is ∙ ap (λ c. code (node c (shared_kids p.literal h.children) h.rest)) (sym rule_conn))
        ∙ ap (λ f. spell (f ⊕ h.rest) z) (some_inj (sym made ∙ w)))
        n
