-- What walks over numbers find where they are those of a forest, before any others.
use mathlib.Core.Bool.{Bool, true, false, ◌&&◌, ◌||◌}
use mathlib.Core.List.{List, ◌∷◌, ◌++◌}
use mathlib.Core.Path.{◌≡◌, refl, sym, ap, ◌∙◌}
use Prim.Native.Nat.{ℕ, suc, ◌+◌}
use native.Mathlib.Omega.{arith}
use borrow.Author.Tests.{lt-ltb, le-ltb}
use lib.Dec.{ltb}
use lib.ListN.{length, drop, length-map, length-append}
use lib.Seq.{drop_at}
use Rattle.model.specs.Base.{pick}
use Rattle.model.specs.Literal.{Literal, same}
use Rattle.model.specs.Forest.{Conn, and, or, root, at_least, same_conn, Forest, nil, lit, node, ◌⊕◌, size, has_unit}
use Rattle.model.specs.Code.{leaf, head, encode, conn_kind, number_of}
use Rattle.model.specs.Rules.{without_unit, shares, groups}
use Rattle.theory_forms.specs.Logic.{true_false, or_neither}
use Rattle.theory_forms.specs.Literals.{same_is}
use Rattle.theory_forms.specs.Numbers.{fits, head_kind, head_children}
use Rattle.theory_forms.specs.Scan.{is_literal}
use Rattle.theory_reading.specs.Spans.{span_encode}
use Rattle.theory_reading.specs.Flat.{Fits, fits_lit}
use Rattle.theory_rewriting.specs.Children.{code}
use Rattle.rule_factor.specs.Walks.{walk, unit_place, among, shares_here, all_share, group_here, groups_in}
use Rattle.theory_reading.specs.Leaves.{leaf_literal, head_inner, leaf_test, head_unlike}
use Rattle.rule_factor.proofs.TreeNumbers.{fits_parts, code-⊕, code_lit, code_node, lit_before, node_before, lit_span, node_span}
use Rattle.rule_factor.proofs.Here.{shares_literal}

-- One tree of a walk.
module _ {A : Type 0} (f : List ℕ → A → A) (e : A) (n : ℕ) (s : List ℕ) where
  pub walk_lit :
      (x : Literal) →
      fits (leaf x) ≡ true →
      walk f e (suc n) (number_of (leaf x) ∷ s) ≡ f (number_of (leaf x) ∷ s) (walk f e n s)
  unfolding walk
  walk_lit x h = ap (λ m. f (number_of (leaf x) ∷ s) (walk f e n (drop m (number_of (leaf x) ∷ s)))) (lit_span x s h)

  pub walk_node :
      (c : Conn) (k : Forest) →
      fits (head c (size k)) ≡ true →
      Fits k →
      walk f e (suc n) (number_of (head c (size k)) ∷ (code k ++ s)) ≡ f (number_of (head c (size k)) ∷ (code k ++ s)) (walk f e n s)
  unfolding walk
  walk_node c k h w =
      let l = number_of (head c (size k)) ∷ (code k ++ s) in
      ap (λ m. f l (walk f e n (drop m l))) (node_span c k s h w)
      ∙ ap (λ t. f l (walk f e n t)) (drop_at (code k) s (length (code k)) refl)

-- The place of the first copy of a literal.
module _ (a : Literal) (fit : fits (leaf a) ≡ true) where
  unit_lit :
      (x : Literal) (n : ℕ) (s : List ℕ) →
      fits (leaf x) ≡ true →
      unit_place (number_of (leaf a)) (suc n) (number_of (leaf x) ∷ s) ≡ pick (same a x) 0 (1 + unit_place (number_of (leaf a)) n s)
  unfolding unit_place
  unit_lit x n s h = walk_lit _ 0 n s x h ∙ rw (leaf_test a x fit h, lit_span x s h)

  unit_node :
      (c : Conn) (k : Forest) (n : ℕ) (s : List ℕ) →
      fits (head c (size k)) ≡ true →
      Fits k →
      unit_place (number_of (leaf a)) (suc n) (number_of (head c (size k)) ∷ (code k ++ s)) ≡ suc (length (code k)) + unit_place (number_of (leaf a)) n s
  unfolding unit_place pick
  unit_node c k n s h w = walk_node _ 0 n s c k h w ∙ rw (head_unlike c (size k) a h fit, node_span c k s h w)

  -- The trees before it and after it.
  pub record Cut (f : Forest) (r : List ℕ) : Type 0 where
    pub before : Forest
    pub later : Forest
    pub whole : f ≡ before ⊕ lit a later
    pub less : without_unit a f ≡ before ⊕ later
    pub place : unit_place (number_of (leaf a)) (size f) (code f ++ r) ≡ length (code before)

  cut_here : (x : Literal) (f : Forest) (r : List ℕ) → fits (leaf x) ≡ true → same a x ≡ true → Cut (lit x f) r
  unfolding without_unit size ◌⊕◌ pick encode
  cut_here x f r h e =
      record {
        before = nil;
        later = f;
        whole = ap (λ y. lit y f) (sym (same_is a x e));
        less = rw e;
        place = ap (unit_place (number_of (leaf a)) (suc (size f))) (lit_before x f r) ∙ unit_lit x (size f) (code f ++ r) h ∙ rw e;
      }

  cut_lit : (x : Literal) (f : Forest) (r : List ℕ) → fits (leaf x) ≡ true → same a x ≡ false → Cut f r → Cut (lit x f) r
  unfolding without_unit size ◌⊕◌ pick
  cut_lit x f r h e w =
      record {
        before = lit x w.before;
        later = w.later;
        whole = ap (lit x) w.whole;
        less = rw e (ap (lit x) w.less);
        place = ap (unit_place (number_of (leaf a)) (suc (size f))) (lit_before x f r) ∙ unit_lit x (size f) (code f ++ r) h ∙ rw (e, w.place, code_lit x w.before) (omega arith);
      }

  cut_node : (c : Conn) (k f : Forest) (r : List ℕ) → fits (head c (size k)) ≡ true → Fits k → Cut f r → Cut (node c k f) r
  unfolding without_unit size ◌⊕◌
  cut_node c k f r h v w =
      record {
        before = node c k w.before;
        later = w.later;
        whole = ap (node c k) w.whole;
        less = ap (node c k) w.less;
        place =
            ap (unit_place (number_of (leaf a)) (suc (size f))) (node_before c k f r)
            ∙ unit_node c k (size f) (code f ++ r) h v
            ∙ rw (w.place, code_node c k w.before) (omega (arith, length-append (code k) (code w.before)));
      }

  pub cut : (f : Forest) (r : List ℕ) → Fits f → has_unit a f ≡ true → Cut f r
  unfolding has_unit
  cut nil r w h = true_false (sym h)
  cut (lit x f) r w h = let s = fits_lit x f w in go (same a x) refl h s.0 (cut f r s.1)
    where
      go : (b : Bool) → same a x ≡ b → (b || has_unit a f) ≡ true → fits (leaf x) ≡ true → (has_unit a f ≡ true → Cut f r) → Cut (lit x f) r
      go true e q v w = cut_here x f r v e
      go false e q v w = cut_lit x f r v e (w q)
  cut (node c k f) r w h = let s = fits_parts c k f w in cut_node c k f r s.0 s.1 (cut f r s.2 h)

  -- Where there is none, the place after all trees.
  uncut_nil : (r : List ℕ) → unit_place (number_of (leaf a)) 0 r ≡ length (code nil)
  unfolding unit_place walk encode
  uncut_nil r = refl

  uncut :
      (f : Forest) (r : List ℕ) →
      Fits f →
      has_unit a f ≡ false →
      unit_place (number_of (leaf a)) (size f) (code f ++ r) ≡ length (code f)
  unfolding has_unit size pick
  uncut nil r w h = uncut_nil (code nil ++ r)
  uncut (lit x f) r w h =
      let s = fits_lit x f w in
      let o = or_neither (same a x) (has_unit a f) h in
      ap (unit_place (number_of (leaf a)) (suc (size f))) (lit_before x f r)
      ∙ unit_lit x (size f) (code f ++ r) s.0
      ∙ rw (o.0, uncut f r s.1 o.1, code_lit x f) (omega arith)
  uncut (node c k f) r w h =
      let s = fits_parts c k f w in
      ap (unit_place (number_of (leaf a)) (suc (size f))) (node_before c k f r)
      ∙ unit_node c k (size f) (code f ++ r) s.0 s.1
      ∙ rw (uncut f r s.2 h, code_node c k f) (omega (arith, length-append (code k) (code f)))

  -- So a literal is among the numbers where it is among the trees.
  pub among_trees : (f : Forest) (r : List ℕ) → Fits f → among (number_of (leaf a)) (size f) (code f ++ r) ≡ has_unit a f
  unfolding among
  among_trees f r w = rw (span_encode f r w) (go (has_unit a f) refl)
    where
      go : (b : Bool) → has_unit a f ≡ b → ltb (unit_place (number_of (leaf a)) (size f) (code f ++ r)) (length (encode f)) ≡ b
      go true e =
          let k = cut f r w e in
          lt-ltb (unit_place (number_of (leaf a)) (size f) (code f ++ r)) (length (encode f))
          (omega (arith, k.place, ap (λ g. length (code g)) k.whole, length-map (encode f) number_of, ap length (code-⊕ k.before (lit a k.later)), length-append (code k.before) (code (lit a k.later)), ap length (code_lit a k.later)))
      go false e =
          le-ltb (unit_place (number_of (leaf a)) (size f) (code f ++ r)) (length (encode f))
          (omega (arith, uncut f r w e, length-map (encode f) number_of))

  -- What is asked of each tree.
  here_lit : (x : Literal) (s : List ℕ) → fits (leaf x) ≡ true → shares_here (number_of (leaf a)) (number_of (leaf x) ∷ s) ≡ true
  here_lit x s h = shares_literal (number_of (leaf a)) (number_of (leaf x) ∷ s) (leaf_literal x h)

  here_node :
      (c : Conn) (k : Forest) (s : List ℕ) →
      fits (head c (size k)) ≡ true →
      Fits k →
      shares_here (number_of (leaf a)) (number_of (head c (size k)) ∷ (code k ++ s)) ≡ (same_conn and c && has_unit a k)
  unfolding shares_here same_conn conn_kind is_literal
  here_node and k s h w = rw (head_kind and (size k) h, head_children and (size k) h) (among_trees k s w)
  here_node or k s h w = rw (head_kind or (size k) h)
  here_node root k s h w = rw (head_kind root (size k) h)
  here_node (at_least b) k s h w = rw (head_kind (at_least b) (size k) h)

  share_lit :
      (x : Literal) (n : ℕ) (s : List ℕ) →
      fits (leaf x) ≡ true →
      all_share (number_of (leaf a)) (suc n) (number_of (leaf x) ∷ s) ≡ all_share (number_of (leaf a)) n s
  unfolding all_share
  share_lit x n s h = walk_lit _ true n s x h ∙ rw (here_lit x s h)

  share_node :
      (c : Conn) (k : Forest) (n : ℕ) (s : List ℕ) →
      fits (head c (size k)) ≡ true →
      Fits k →
      all_share (number_of (leaf a)) (suc n) (number_of (head c (size k)) ∷ (code k ++ s)) ≡ ((same_conn and c && has_unit a k) && all_share (number_of (leaf a)) n s)
  unfolding all_share
  share_node c k n s h w = walk_node _ true n s c k h w ∙ rw (here_node c k s h w)

  share_nil : (r : List ℕ) → all_share (number_of (leaf a)) 0 r ≡ true
  unfolding all_share walk
  share_nil r = refl

  pub share_trees : (f : Forest) (r : List ℕ) → Fits f → all_share (number_of (leaf a)) (size f) (code f ++ r) ≡ shares a f
  unfolding shares size same_conn
  share_trees nil r w = share_nil (code nil ++ r)
  share_trees (lit x f) r w =
      let s = fits_lit x f w in
      ap (all_share (number_of (leaf a)) (suc (size f))) (lit_before x f r) ∙ share_lit x (size f) (code f ++ r) s.0 ∙ share_trees f r s.1
  share_trees (node c k f) r w =
      let s = fits_parts c k f w in
      ap (all_share (number_of (leaf a)) (suc (size f))) (node_before c k f r)
      ∙ share_node c k (size f) (code f ++ r) s.0 s.1
      ∙ ap (λ b. (same_conn and c && has_unit a k) && b) (share_trees f r s.2)
      ∙ go c
    where
      go : (d : Conn) → ((same_conn and d && has_unit a k) && shares a f) ≡ shares a (node d k f)
      go and = refl
      go or = refl
      go root = refl
      go (at_least b) = refl

-- The groups among trees.
groups_lit : (x : Literal) (n : ℕ) (s : List ℕ) → fits (leaf x) ≡ true → groups_in (suc n) (number_of (leaf x) ∷ s) ≡ groups_in n s
unfolding groups_in group_here pick
groups_lit x n s h = walk_lit _ 0 n s x h ∙ rw (leaf_literal x h) (omega arith)

groups_node :
    (c : Conn) (k : Forest) (n : ℕ) (s : List ℕ) →
    fits (head c (size k)) ≡ true →
    Fits k →
    groups_in (suc n) (number_of (head c (size k)) ∷ (code k ++ s)) ≡ suc (groups_in n s)
unfolding groups_in group_here pick
groups_node c k n s h w = walk_node _ 0 n s c k h w ∙ rw (head_inner c (size k) h) (omega arith)

groups_nil : (r : List ℕ) → groups_in 0 r ≡ 0
unfolding groups_in walk
groups_nil r = refl

pub groups_trees : (f : Forest) (r : List ℕ) → Fits f → groups_in (size f) (code f ++ r) ≡ groups f
unfolding groups size
groups_trees nil r w = groups_nil (code nil ++ r)
groups_trees (lit x f) r w =
    let s = fits_lit x f w in
    ap (groups_in (suc (size f))) (lit_before x f r) ∙ groups_lit x (size f) (code f ++ r) s.0 ∙ groups_trees f r s.1
groups_trees (node c k f) r w =
    let s = fits_parts c k f w in
    ap (groups_in (suc (size f))) (node_before c k f r) ∙ groups_node c k (size f) (code f ++ r) s.0 s.1 ∙ ap suc (groups_trees f r s.2)
