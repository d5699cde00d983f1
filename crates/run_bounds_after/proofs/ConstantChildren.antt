-- The children of a node of a sheet, passed one after another: whether one is a constant.
use mathlib.Core.Bool.{true}
use mathlib.Core.List.{List}
use mathlib.Core.Logic.{⊎_elim}
use mathlib.Core.Path.{◌≡◌, refl, sym, ap, ◌∙◌}
use Prim.Native.Nat.{ℕ, zero, suc, ◌+◌, ◌≤◌, ◌<◌}
use native.Mathlib.Omega.{arith}
use borrow.Author.Tests.{ne_eqb, ltb-true, ltb-false}
use lib.Dec.{eqb, ltb}
use lib.ListN.{get_or, drop, length-drop}
use lib.Seq.{drop-drop, get_or-drop}
use Rattle.model.specs.Limits.{sheet_room}
use Rattle.model.specs.Forest.{Conn, and, or, Forest, nil, lit, node, size, after, kids, constant_at}
use Rattle.model.specs.Code.{encode, decode, number, conn_kind}
use Rattle.model.specs.Sheet.{used_in, nodes_in}
use Rattle.theory_forms.specs.Logic.{either}
use Rattle.theory_forms.specs.Forests.{grouping, past_end}
use Rattle.theory_forms.specs.Sheets.{Formed}
use Rattle.theory_reading.specs.Spans.{arity, arity_none, arity_leaf, arity_head, span, child_at}
use Rattle.theory_reading.specs.Flat.{spell, Fits, fits_lit, fits_tree}
use Rattle.theory_rewriting.specs.Children.{Group, first_left, child_constant, child_room}
use Rattle.search_sizes.specs.TreeHops.{inner_at}
use Rattle.search_place.proofs.LentStretch.{sheet_spelled}
use Rattle.locality.specs.Assigned.{Plain}
use Rattle.run_bounds_after.specs.SetBack.{ConstantFree}
use Rattle.run_bounds_after.proofs.ZoneChildren.{group_of}

-- The first number of a forest announces the children of its first tree.
announced : (f : Forest) (z : ℕ) → Fits f → arity (get_or (spell f z) 0 0) ≡ size (kids f)
unfolding kids size spell encode
announced nil zero h = arity_none
announced nil (suc z) h = arity_none
announced (lit x f) z h = arity_leaf x (fits_lit x f h).0
announced (node c k f) z h = arity_head c (size k) (fits_tree c k f h).0

-- The children of the node at a place of a sheet; that child i of them is no constant.
abbrev children : List ℕ → ℕ → Forest
children s p = kids (decode (drop p (nodes_in s)))

abbrev pub PlainChild : List ℕ → ℕ → ℕ → Type 0
PlainChild s p i = Plain (after i (children s p))

module _ {s : List ℕ} (h : Formed s) {p : ℕ} (lt : p < used_in s) where
  -- How many children the node there announces.
  counted : arity (get_or s (2 + p) 0) ≡ size (children s p)
  counted =
      let w = sheet_spelled h p (omega arith) in
      ap arity (sym (first_left (2 + p) s) ∙ ap (λ l. get_or l 0 0) w.1) ∙ announced (decode (drop p (nodes_in s))) w.0 w.2

  -- Past the last child no child is a constant.
  pub passed_all : {i : ℕ} → ((j : ℕ) → j < i → PlainChild s p j) → arity (get_or s (2 + p) 0) ≤ i → ConstantFree p (nodes_in s)
  unfolding constant_at
  passed_all {i} none le c =
      ⊎_elim
      (λ e. none c (ltb-true c i e))
      (λ e. rw (past_end c (children s p) (omega (arith, ltb-false c i e, counted))) (refl, refl))
      (either (ltb c i))

  -- Where there is one more child, which begins at a place.
  module _ {i at : ℕ} (here : at ≡ p + 1 + span i (drop (p + 1) (drop 2 s))) (more : i < arity (get_or s (2 + p) 0)) where
    left : i < size (children s p)
    left = omega (arith, counted)

    stands_at : at ≡ p + child_at i (drop (2 + p) s)
    stands_at = here ∙ sym (inner_at p i (drop 2 s)) ∙ ap (λ l. p + child_at i l) (drop-drop p 2 s)

    group_here : (c : Conn) × (g : Forest) × Group (drop (2 + p) s) c (children s p) g (sheet_spelled h p (omega arith)).0
    group_here =
        let w = sheet_spelled h p (omega arith) in
        group_of (decode (drop p (nodes_in s))) w.0 (drop (2 + p) s) w.1 w.2 (omega (arith, left))

    -- It begins within the sheet, and its number tells whether it is a constant.
    pub child_inside : at < sheet_room
    child_inside =
        omega (arith, stands_at, child_room group_here.2 i (omega (arith, left)), left, length-drop (2 + p) s, h.whole, h.used)

    asked : (d : Conn) → grouping d ≡ true → eqb (get_or s (2 + at) 0) (number (conn_kind d) 0) ≡ constant_at d (after i (children s p))
    asked d o =
        let l = drop (2 + p) s in
        let sum : 2 + at ≡ 2 + p + child_at i l = omega (arith, stands_at) in
        let there : get_or s (2 + at) 0 ≡ get_or l (child_at i l) 0 = ap (λ k. get_or s k 0) sum ∙ sym (get_or-drop (2 + p) s (child_at i l) 0) in
        ap (λ x. eqb x (number (conn_kind d) 0)) there ∙ child_constant group_here.2 i left d o

    pub plain_child : (get_or s (2 + at) 0 ≡ 12288 → ⊥) → (get_or s (2 + at) 0 ≡ 16384 → ⊥) → PlainChild s p i
    unfolding number conn_kind grouping
    plain_child a o =
        (sym (asked and refl) ∙ ne_eqb (get_or s (2 + at) 0) 12288 a, sym (asked or refl) ∙ ne_eqb (get_or s (2 + at) 0) 16384 o)
