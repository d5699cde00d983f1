-- Before the step's place a rule that did not apply does not come to apply, but where that place lies one or two levels down.
use Rattle.std.specs.Prelude.{true, List, [], ◌∷◌, ◌++◌, ◌≡◌, refl, ℕ, zero, suc, ◌≤◌, ◌<◌, drop}
use Rattle.std.proofs.Common.{sym, ◌∙◌, arith, length-append}
use Rattle.std.proofs.Math.Path.{ap}
use borrow.Author.Tests.{lt-ltb, ltb-true}
use Rattle.std.proofs.Math.ListN.{length, length-drop}
use Rattle.std.proofs.lemmas.List.{drop-append-le}
use Rattle.model.specs.Forest.{Forest, nil, node, ◌⊕◌, first, after, kids}
use Rattle.model.specs.Code.{Node, leaf, head, encode, push, decode}
use Rattle.model.specs.Rules.{Family}
use Rattle.theory_forms.specs.Logic.{fails_if}
use Rattle.theory_forms.specs.Codes.{decode_encode, decode_onto, decode-++}
use Rattle.locality.specs.Zones.{Quiet, tree_length, tree_end, Holds, Twice}
use Rattle.locality.specs.Turned.{Turned}
use Rattle.locality.specs.Differ.{Differ, change_differs}
use Rattle.locality.specs.Looks.{Look, look_quiet}
use Rattle.locality.specs.Levels.{kids_length, reaches, levels, look_onto, above_onto, beside_onto, levels_reach, levels_later}

-- A place within a list has a node.
pub node_at : (ns : List Node) (q : ℕ) → q < length ns → (x : Node) × (drop q ns ≡ x ∷ drop (suc q) ns)
node_at [] q h = absurd (omega arith)
node_at (x ∷ ns) zero h = (x, refl)
node_at (x ∷ ns) (suc q) h = node_at ns q (omega arith)

-- A quiet place stays quiet where its first tree looks as before.
pub look_same :
    (s q : ℕ) (ns ms : List Node) {f g : Forest} →
    decode (drop q ns) ≡ f →
    decode (drop q ms) ≡ g →
    Look f g →
    Quiet s q ns →
    Quiet s q ms
look_same s q ns ms e h l quiet i j = rw h (look_quiet l s i j (rw e at (quiet i j)))

-- What is read at a place before some nodes' end, and how long its first tree is.
read_before :
    (b : List Node) (f : Forest) (q : ℕ) (h : q < length b) →
    decode (drop q (b ++ encode f)) ≡ push (node_at b q h).0 (decode_onto (drop (suc q) b) f)
unfolding decode_onto
read_before b f q h =
    let x = node_at b q h in
    ap decode (drop-append-le q b (encode f) (omega arith) ∙ ap (λ xs. xs ++ encode f) x.1)
    ∙ decode-++ (x.0 ∷ drop (suc q) b) (encode f)
    ∙ ap (λ g. push x.0 (decode_onto (drop (suc q) b) g)) (decode_encode f)

first_length : (x : Node) (f : Forest) → length (encode (first 1 (push x f))) ≡ suc (length (encode (kids (push x f))))
unfolding push first kids encode
first_length (leaf l) f = refl
first_length (head c k) f = ap suc (omega (arith, length-append (encode (first k f)) (encode nil)))

module _ {x : Family} {p i j : ℕ} {ns ms : List Node} (w : Turned x p i j ns ms) where
  abbrev old_tree : Forest
  old_tree = node w.conn w.children w.rest

  abbrev nodes_after : ℕ → List Node
  nodes_after q = drop (suc q) w.before

  differs : Differ zero zero old_tree (w.new ⊕ w.rest)
  differs = change_differs w.done w.rest

  module _ (q : ℕ) (h : q < length w.before) where
    abbrev node_here : Node
    node_here = (node_at w.before q h).0

    abbrev below : ℕ
    below = kids_length node_here (nodes_after q) old_tree

    read_old : decode (drop q ns) ≡ push node_here (decode_onto (nodes_after q) old_tree)
    read_old = ap (λ xs. decode (drop q xs)) w.was ∙ read_before w.before old_tree q h

    read_new : decode (drop q ms) ≡ push node_here (decode_onto (nodes_after q) (w.new ⊕ w.rest))
    read_new = ap (λ xs. decode (drop q xs)) w.became ∙ read_before w.before (w.new ⊕ w.rest) q h

    length_before : tree_length q ns ≡ suc below
    unfolding tree_length
    length_before = ap (λ f. length (encode (first 1 f))) read_old ∙ first_length _ _

    -- To hold the place is to reach the end of the nodes before it.
    holds_reaches : p < tree_end q ns → reaches node_here (nodes_after q) old_tree ≡ true
    unfolding reaches
    holds_reaches t =
        lt-ltb (length (nodes_after q)) below (omega (arith, length_before, length-drop (suc q) w.before, w.place))

    reaches_holds : reaches node_here (nodes_after q) old_tree ≡ true → p < tree_end q ns
    unfolding reaches
    reaches_holds t =
        omega (arith, length_before, length-drop (suc q) w.before, w.place, ltb-true (length (nodes_after q)) below t)

    holds_levels : p < tree_end q ns → suc (levels (nodes_after q) old_tree) ≤ levels (drop q w.before) old_tree
    holds_levels t =
        let one = levels_reach node_here (nodes_after q) old_tree (holds_reaches t) in
        rw (node_at w.before q h).1 (omega arith)

  twice_levels : (q : ℕ) → Twice q p ns → 2 ≤ levels (nodes_after q) old_tree
  twice_levels q t =
      let o = holds_levels t.outer (omega (arith, w.place)) t.outer_holds.1 in
      let n = holds_levels t.inner (omega (arith, w.place)) t.inner_holds.1 in
      omega (arith, levels_later {a = suc q} {b = t.outer} t.later w.before old_tree, levels_later {a = suc t.outer} {b = t.inner} t.deeper w.before old_tree)

  within_before : {q : ℕ} → q < p → q < length w.before
  within_before lt = omega (arith, w.place)

  pub before_place : (q s : ℕ) → q < p → (Holds q p ns → Twice q p ns) → Quiet s q ns → Quiet s q ms
  before_place q s lt deep =
      let h = within_before lt in
      look_same s q ns ms (read_old q h) (read_new q h)
      (look_onto (node_here q h) (nodes_after q) differs (λ t. twice_levels q (deep (lt, reaches_holds q h t))))

  -- The tree at a place that does not hold the step's is the same; where it does, the trees after it are.
  pub beside_place : (q : ℕ) → q < p → (Holds q p ns → ⊥) → first 1 (decode (drop q ns)) ≡ first 1 (decode (drop q ms))
  beside_place q lt out =
      let h = within_before lt in
      let none_reached = fails_if (reaches (node_here q h) (nodes_after q) old_tree) (λ t. out (lt, reaches_holds q h t)) in
      ap (first 1) (read_old q h) ∙ beside_onto (node_here q h) (nodes_after q) differs none_reached ∙ ap (first 1) (sym (read_new q h))

  pub above_place : (q : ℕ) → Holds q p ns → after 1 (decode (drop q ns)) ≡ after 1 (decode (drop q ms))
  above_place q t =
      let h = within_before t.0 in
      ap (after 1) (read_old q h) ∙ above_onto (node_here q h) (nodes_after q) differs (holds_reaches q h t.1) ∙ ap (after 1) (sym (read_new q h))
