-- What is kept of trees: by the tests on the first, and where the numbers are those of a forest, before any others.
use mathlib.Core.Bool.{Bool, true, false}
use mathlib.Core.List.{List, [], ◌∷◌, ◌++◌, append_assoc}
use mathlib.Core.Path.{◌≡◌, refl, sym, ap, ap₂, ◌∙◌}
use Prim.Native.Nat.{ℕ, suc, ◌+◌, ◌-◌}
use native.Mathlib.Omega.{arith}
use lib.ListN.{length, get_or, take, drop, length-map, length-append}
use lib.Seq.{take_at, drop_at}
use Rattle.model.specs.Base.{pick}
use Rattle.model.specs.Literal.{Literal}
use Rattle.model.specs.Forest.{Conn, and, or, root, at_least, Forest, nil, lit, node, size, has_unit}
use Rattle.model.specs.Code.{leaf, head, encode, children, number, conn_kind, number_of}
use Rattle.model.specs.Rules.{without_unit, shares, units, groups_without}
use Rattle.theory_forms.specs.Logic.{true_false, and_split}
use Rattle.theory_forms.specs.Forests.{grouping, size-⊕}
use Rattle.theory_forms.specs.Numbers.{fits, head_number, head_children}
use Rattle.theory_forms.specs.Scan.{is_literal}
use Rattle.theory_reading.specs.Spans.{child_at, span_encode}
use Rattle.theory_reading.specs.Flat.{Fits, fits_lit}
use Rattle.theory_rewriting.specs.Children.{code}
use Rattle.theory_reading.specs.Leaves.{leaf_literal, head_inner}
use Rattle.rule_factor.specs.Walks.{walk, unit_place}
use Rattle.rule_factor.proofs.TreeNumbers.{fits_parts, code-⊕, code_lit, code_node, lit_before, node_before}
use Rattle.rule_factor.proofs.WalkedTrees.{walk_lit, walk_node, cut}
use Rattle.rule_regroup.specs.Regrouped.{less_unit, kept, gathered}

-- A group without its first child that is the number itself: the parts of its numbers, by where they begin and end.
pub less_unit_parts :
    (a : ℕ) (l : List ℕ) {m u e : ℕ} →
    m ≡ children (get_or l 0 0) →
    u ≡ unit_place a m (drop 1 l) →
    e ≡ child_at m l →
    less_unit a l ≡ (get_or l 0 0 - 1) ∷ (take (1 + u - 1) (drop 1 l) ++ take (e - (1 + u + 1)) (drop (1 + u + 1) l))
unfolding less_unit
less_unit_parts a l p q r = rw (r, q, p)

-- What is kept of the first tree, by the two tests.
pub kept_is :
    (g : Bool) (a : ℕ) (l : List ℕ) {b t : Bool} →
    is_literal (get_or l 0 0) ≡ t →
    g ≡ b →
    kept g a l ≡ pick t (pick b [] (get_or l 0 0 ∷ [])) (pick b (less_unit a l) [])
unfolding kept
kept_is g a l p q = rw (p, q)

-- What is kept of trees: the literals, or the groups, each without its first copy of the number.
module _ (g : Bool) (a : ℕ) where
  gathered_lit :
      (x : Literal) (n : ℕ) (s : List ℕ) →
      fits (leaf x) ≡ true →
      gathered g a (suc n) (number_of (leaf x) ∷ s) ≡ pick g [] (number_of (leaf x) ∷ []) ++ gathered g a n s
  unfolding gathered pick
  gathered_lit x n s h = walk_lit _ [] n s x h ∙ ap (λ t. t ++ gathered g a n s) (kept_is g a (number_of (leaf x) ∷ s) (leaf_literal x h) refl)

  gathered_node :
      (c : Conn) (k : Forest) (n : ℕ) (s : List ℕ) →
      fits (head c (size k)) ≡ true →
      Fits k →
      gathered g a (suc n) (number_of (head c (size k)) ∷ (code k ++ s)) ≡ pick g (less_unit a (number_of (head c (size k)) ∷ (code k ++ s))) [] ++ gathered g a n s
  unfolding gathered pick
  gathered_node c k n s h w =
      walk_node _ [] n s c k h w ∙ ap (λ t. t ++ gathered g a n s) (kept_is g a (number_of (head c (size k)) ∷ (code k ++ s)) (head_inner c (size k) h) refl)

  gathered_nil : (r : List ℕ) → gathered g a 0 r ≡ code nil
  unfolding gathered walk encode
  gathered_nil r = refl

pub units_trees : (a : ℕ) (f : Forest) (r : List ℕ) → Fits f → gathered false a (size f) (code f ++ r) ≡ code (units f)
unfolding units size pick
units_trees a nil r w = gathered_nil false a (code nil ++ r)
units_trees a (lit x f) r w =
    let s = fits_lit x f w in
    ap (gathered false a (suc (size f))) (lit_before x f r)
    ∙ gathered_lit false a x (size f) (code f ++ r) s.0
    ∙ ap (λ t. number_of (leaf x) ∷ t) (units_trees a f r s.1)
    ∙ sym (code_lit x (units f))
units_trees a (node c k f) r w =
    let s = fits_parts c k f w in
    ap (gathered false a (suc (size f))) (node_before c k f r)
    ∙ gathered_node false a c k (size f) (code f ++ r) s.0 s.1
    ∙ units_trees a f r s.2

module _ (a : Literal) (fit : fits (leaf a) ≡ true) where
  less_trees :
      (c : Conn) (k : Forest) (s : List ℕ) →
      grouping c ≡ true →
      fits (head c (size k)) ≡ true →
      Fits k →
      has_unit a k ≡ true →
      less_unit (number_of (leaf a)) (number_of (head c (size k)) ∷ (code k ++ s)) ≡ number_of (head c (size (without_unit a k))) ∷ code (without_unit a k)
  unfolding number size
  less_trees c k s o h w e =
      let d = cut a fit k s w e in
      let p = d.before in
      let q = d.later in
      let x = number_of (leaf a) in
      let y = number_of (head c (size k)) in
      let l = y ∷ (code k ++ s) in
      let u = length (code p) in
      let parts = less_unit_parts x l {m = size k} {u = u} {e = suc (length (code k))} (sym (head_children c (size k) h)) (sym d.place) (omega (arith, span_encode k s w, length-map (encode k) number_of)) in
      let all : code k ≡ code p ++ (x ∷ code q) = ap code d.whole ∙ code-⊕ p (lit a q) ∙ ap (λ t. code p ++ t) (code_lit a q) in
      let long : length (code k) ≡ u + (1 + length (code q)) = omega (arith, ap length all, length-append (code p) (x ∷ code q)) in
      let spread : code k ++ s ≡ code p ++ (x ∷ (code q ++ s)) = ap (λ t. t ++ s) all ∙ append_assoc (code p) (x ∷ code q) s in
      let upto : List ℕ = y ∷ (code p ++ (x ∷ [])) in
      let cut_after : l ≡ upto ++ (code q ++ s) = ap (λ t. y ∷ t) (spread ∙ sym (append_assoc (code p) (x ∷ []) (code q ++ s))) in
      let left : take (1 + u - 1) (code k ++ s) ≡ code p = ap (take (1 + u - 1)) spread ∙ take_at (code p) (x ∷ (code q ++ s)) (1 + u - 1) (omega arith) in
      let rest : drop (1 + u + 1) l ≡ code q ++ s = ap (drop (1 + u + 1)) cut_after ∙ drop_at upto (code q ++ s) (1 + u + 1) (omega (arith, length-append (code p) (x ∷ []))) in
      let right : take (suc (length (code k)) - (1 + u + 1)) (drop (1 + u + 1) l) ≡ code q = ap (take (suc (length (code k)) - (1 + u + 1))) rest ∙ take_at (code q) s (suc (length (code k)) - (1 + u + 1)) (omega arith) in
      let fewer : y - 1 ≡ number_of (head c (size (without_unit a k))) = omega (arith, head_number c (size k) o, head_number c (size (without_unit a k)) o, ap size d.whole, size-⊕ p (lit a q), ap size d.less, size-⊕ p q) in
      parts ∙ ap₂ (λ z t. z ∷ t) fewer (ap₂ ◌++◌ left right ∙ sym (ap code d.less ∙ code-⊕ p q))

  pub groups_kept :
      (f : Forest) (r : List ℕ) →
      Fits f →
      shares a f ≡ true →
      gathered true (number_of (leaf a)) (size f) (code f ++ r) ≡ code (groups_without a f)
  unfolding shares groups_without size pick grouping conn_kind
  groups_kept nil r w h = gathered_nil true (number_of (leaf a)) (code nil ++ r)
  groups_kept (lit x f) r w h =
      let s = fits_lit x f w in
      ap (gathered true (number_of (leaf a)) (suc (size f))) (lit_before x f r)
      ∙ gathered_lit true (number_of (leaf a)) x (size f) (code f ++ r) s.0
      ∙ groups_kept f r s.1 h
  groups_kept (node and k f) r w h =
      let s = fits_parts and k f w in
      let t = and_split (has_unit a k) (shares a f) h in
      ap (gathered true (number_of (leaf a)) (suc (size f))) (node_before and k f r)
      ∙ gathered_node true (number_of (leaf a)) and k (size f) (code f ++ r) s.0 s.1
      ∙ ap₂ ◌++◌ (less_trees and k (code f ++ r) refl s.0 s.1 t.0) (groups_kept f r s.2 t.1)
      ∙ sym (code_node and (without_unit a k) (groups_without a f))
  groups_kept (node or k f) r w h = true_false (sym h)
  groups_kept (node root k f) r w h = true_false (sym h)
  groups_kept (node (at_least b) k f) r w h = true_false (sym h)
