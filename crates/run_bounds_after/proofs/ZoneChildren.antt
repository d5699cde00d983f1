-- Places on the numbers of a sheet and on its nodes.
use mathlib.Core.List.{List}
use mathlib.Core.Path.{◌≡◌, ap, ◌∙◌}
use Prim.Native.Nat.{ℕ, ◌+◌, ◌≤◌, ◌<◌}
use native.Mathlib.Omega.{arith}
use lib.ListN.{length, drop, length-map, length-drop}
use lib.Seq.{drop-drop}
use Rattle.model.specs.Limits.{sheet_room, sheet_length}
use Rattle.model.specs.Forest.{Conn, Forest, nil, lit, node, size, kids, first}
use Rattle.model.specs.Code.{encode, decode, number_of}
use Rattle.model.specs.Sheet.{used_in, nodes_in}
use Rattle.theory_rewriting.specs.Bounds.{place_within, tree_there}
use Rattle.theory_forms.specs.Codes.{trees_drop, encode_decode}
use Rattle.theory_reading.specs.Spans.{span, child_at}
use Rattle.theory_reading.specs.Flat.{spell, Fits, start_at}
use Rattle.theory_forms.specs.Shape.{shaped_trees}
use Rattle.theory_forms.specs.Sheets.{Formed}
use Rattle.theory_rewriting.specs.Children.{Group, child_place, child_later, child_room}
use Rattle.locality.specs.Zones as Z
use Rattle.locality.specs.Zones.{tree_length}
use Rattle.search_place.proofs.LentStretch.{sheet_spelled}

-- A node with children, on the numbers.
pub record Here (s : List ℕ) (p i : ℕ) : Type 0 where
  pub whole : length s ≡ sheet_length
  pub within : p < used_in s
  pub few : used_in s ≤ sheet_room
  pub short : length (drop (2 + p) s) ≤ sheet_room
  pub long : 1 ≤ length (drop (2 + p) s)
  pub at : p + child_at i (drop (2 + p) s) ≡ Z.child_place p i (nodes_in s)
  pub inside : p + child_at i (drop (2 + p) s) < sheet_room
  pub index : i ≤ sheet_room

-- Numbers that spell trees begin with a group where the first tree has children.
pub group_of :
    (f : Forest) (z : ℕ) (l : List ℕ) →
    l ≡ spell f z →
    Fits f →
    0 < size (kids f) →
    (c : Conn) × (g : Forest) × Group l c (kids f) g z
unfolding kids size
group_of nil z l e h some = absurd (omega arith)
group_of (lit x f) z l e h some = absurd (omega arith)
group_of (node c k f) z l e h some = (c, f, record { spelled = e; fitting = h })

pub here : (s : List ℕ) → Formed s → (p i : ℕ) → i < size (kids (decode (drop p (nodes_in s)))) → Here s p i
unfolding Z.child_place
here s h p i lt =
    let f = decode (drop p (nodes_in s)) in
    let within : p < used_in s = omega (arith, place_within p (nodes_in s) (tree_there _ lt), h.count) in
    let l = drop (2 + p) s in
    let w = sheet_spelled h p (omega arith) in
    let g = (group_of f w.0 l w.1 w.2 (omega arith)).2 in
    let place = child_place g i (omega arith) in
    let room = child_room g i (omega arith) in
    let size_long = length-drop (2 + p) s in
    record {
      whole = h.whole;
      within = within;
      few = h.used;
      short = omega (arith, h.whole, size_long);
      long = omega (arith, h.whole, size_long, h.used);
      at = omega (arith, place, length-map (encode (first i (kids f))) number_of);
      inside = omega (arith, room, h.whole, size_long, h.used);
      index = omega (arith, room, child_later g i (omega arith), h.whole, size_long);
    }

some_tree : (f : Forest) → 1 ≤ length (encode f) → 1 ≤ size f
unfolding encode size
some_tree nil h = h
some_tree (lit x f) h = omega arith
some_tree (node c k f) h = omega arith

-- The size of a tree, on the numbers and on the nodes.
pub size_here : (s : List ℕ) → Formed s → (p : ℕ) → p < used_in s → span 1 (drop p (drop 2 s)) ≡ tree_length p (nodes_in s)
unfolding tree_length
size_here s h p lt =
    let ns = nodes_in s in
    let f = decode (drop p ns) in
    let w = sheet_spelled h p (omega arith) in
    let t = trees_drop p ns (shaped_trees h.shaped) in
    let code : encode f ≡ drop p ns = (encode_decode (drop p ns) t.0 t.1).0 in
    let some_here : 1 ≤ size f = some_tree f (omega (arith, ap length code, length-drop p ns, h.count)) in
    ap (span 1) (drop-drop p 2 s ∙ w.1) ∙ start_at 1 f w.0 some_here w.2
