-- The head of a stretch, and where its children stand: what a step tests before it rewrites.
use Rattle.std.specs.Prelude.{true, ◌&&◌, List, map, ◌⊎◌, ◌≡◌, refl, ℕ, zero, suc, ◌-◌, ◌≤◌, ◌<◌, eqb, leb, length, get_or, take, drop}
use Rattle.std.proofs.Math.Bool.{and-false}
use Rattle.std.proofs.Common.{inl, inr, ⊎_elim, sym, ap, ◌∙◌, arith, le-leb, leb-true, eqb-true, eq-eqb}
use Rattle.std.proofs.Math.Option.{none, some}
use Rattle.std.proofs.lemmas.Bool.{lt-leb}
use Rattle.model.specs.Base.{all, maybe, then, only_if}
use Rattle.model.specs.Literal.{Literal, pos, neg, option}
use Rattle.model.specs.Forest.{Conn, and, or, root, at_least, Forest, nil, lit, node, ◌⊕◌, size, first, after}
use Rattle.model.specs.Code.{kind, children, conn_kind, encode, number_of}
use Rattle.model.specs.Rules.{Row, table, row_of, turn, change, rewrite}
use Rattle.theory_forms.specs.Logic.{fails_if}
use Rattle.theory_forms.specs.Forests.{size-⊕, grouping}
use Rattle.theory_forms.specs.Lists.{all_at}
use Rattle.theory_rewriting.specs.Inversion.{of_table, least_of}
use Rattle.theory_rewriting.specs.Bounds.{row_low, row_six}
use Rattle.theory_forms.specs.Numbers.{fits, kind_number, head_kind, head_children}
use Rattle.theory_reading.specs.Spans.{span}
use Rattle.theory_reading.specs.Flat.{spell, spell_node, Fits, fits_lit, fits_tree, start_at, drop_trees, take_trees}
use Rattle.theory_reading.specs.Stretches.{Stretch, forest_in, spell_to}

-- What becomes of a stretch where the rule applies to its first tree.
unfoldable pub rewritten_to : ℕ → ℕ → ℕ → List ℕ → List ℕ
rewritten_to r i j l = maybe l (spell_to (length l)) (rewrite r i j (forest_in l))

-- The first tree is a node of the rule's kind with enough children.
pub record Headed (r : ℕ) (l : List ℕ) : Type 0 where
  pub row : Row
  pub its_row : row_of r ≡ some row
  pub conn : Conn
  pub its_kind : row.kind ≡ conn_kind conn
  pub children : Forest
  pub rest : Forest
  pub zeros : ℕ
  pub forest : forest_in l ≡ node conn children rest
  pub spelled : l ≡ spell (node conn children rest) zeros
  pub enough : row.fewest ≤ size children

-- What the first number of a stretch says, by the first tree.
first_nil : (z : ℕ) → get_or (spell nil z) 0 0 ≡ 0
unfolding spell encode
first_nil zero = refl
first_nil (suc z) = refl

first_literal : (x : Literal) (f : Forest) (z : ℕ) → Fits (lit x f) → kind (get_or (spell (lit x f) z) 0 0) ≤ 2
unfolding spell encode number_of fits option
first_literal (pos v) f z h = omega (arith, kind_number 1 v (fits_lit (pos v) f h).0)
first_literal (neg v) f z h = omega (arith, kind_number 2 v (fits_lit (neg v) f h).0)

pub first_node :
    (c : Conn) (k f : Forest) (z : ℕ) →
    Fits (node c k f) →
    (kind (get_or (spell (node c k f) z) 0 0) ≡ conn_kind c) × (children (get_or (spell (node c k f) z) 0 0) ≡ size k)
unfolding spell encode
first_node c k f z h =
    let fit = (fits_tree c k f h).0 in
    (head_kind c (size k) fit, head_children c (size k) fit)

kind_zero : kind 0 ≡ 0
unfolding kind
kind_zero = refl

pub conn_kind_bounds : (c : Conn) → (3 ≤ conn_kind c) × (conn_kind c ≤ 6)
unfolding conn_kind
conn_kind_bounds and = omega arith
conn_kind_bounds or = omega arith
conn_kind_bounds root = omega arith
conn_kind_bounds (at_least a) = omega arith

-- The table's kinds are those of groups.
kinds_high : all (λ w. leb 3 w.kind) table ≡ true
unfolding all table
kinds_high = refl

row_kind : (r : ℕ) {w : Row} → row_of r ≡ some w → 3 ≤ w.kind
row_kind r {w} e = leb-true 3 w.kind (all_at (λ v. leb 3 v.kind) table kinds_high (of_table r e))

-- A rule's test of the head: where the first number is of its kind and has enough children, so is the first tree.
pub head_test :
    (r : ℕ) (w : Row) →
    row_of r ≡ some w →
    (l : List ℕ) →
    Stretch l →
    kind (get_or l 0 0) ≡ w.kind →
    w.fewest ≤ children (get_or l 0 0) →
    Headed r l
unfolding spell_to
head_test r w e l s k n = go (forest_in l) refl s.fitting s.spelled
  where
    go : (f : Forest) → forest_in l ≡ f → Fits f → l ≡ spell f (length l - length (encode f)) → Headed r l
    go nil q a b = absurd (low (ap (λ xs. kind (get_or xs 0 0)) b ∙ ap kind (first_nil _)))
      where
        low : kind (get_or l 0 0) ≡ kind 0 → ⊥
        low x = omega (arith, row_kind r e, x ∙ kind_zero)
    go (lit x f) q a b = absurd (omega (arith, row_kind r e, first_literal x f (length l - length (encode (lit x f))) a, ap (λ xs. kind (get_or xs 0 0)) b))
    go (node c m f) q a b =
        let z = length l - length (encode (node c m f)) in
        let t = first_node c m f z a in
        record {
          row = w;
          its_row = e;
          conn = c;
          its_kind = sym k ∙ ap (λ xs. kind (get_or xs 0 0)) b ∙ t.0;
          children = m;
          rest = f;
          zeros = z;
          forest = q;
          spelled = b;
          enough = omega (arith, ap (λ xs. children (get_or xs 0 0)) b, t.1);
        }

-- Otherwise the rule does not apply.
pub head_fails :
    (r : ℕ) (w : Row) →
    row_of r ≡ some w →
    (l : List ℕ) →
    Stretch l →
    ((kind (get_or l 0 0) ≡ w.kind → ⊥) ⊎ (children (get_or l 0 0) < w.fewest)) →
    (i j : ℕ) →
    rewrite r i j (forest_in l) ≡ none
unfolding spell_to rewrite turn then only_if
head_fails r w e l s bad i j = go (forest_in l) s.fitting s.spelled
  where
    turned : (c : Conn) (m : Forest) → ((conn_kind c ≡ w.kind → ⊥) ⊎ (size m < w.fewest)) → turn w c i j m ≡ none
    turned c m (inl x) = ap (λ b. then (only_if (b && leb w.fewest (size m)) m) (change w.family c i j)) (fails_if (eqb w.kind (conn_kind c)) (λ q. x (sym (eqb-true w.kind (conn_kind c) q))))
    turned c m (inr x) = ap (λ b. then (only_if b m) (change w.family c i j)) (ap (λ b. eqb w.kind (conn_kind c) && b) (lt-leb w.fewest (size m) x) ∙ and-false (eqb w.kind (conn_kind c)))

    go : (f : Forest) → Fits f → l ≡ spell f (length l - length (encode f)) → rewrite r i j f ≡ none
    go nil a b = refl
    go (lit x f) a b = refl
    go (node c m f) a b =
        let z = length l - length (encode (node c m f)) in
        let t = first_node c m f z a in
        let known = ap (λ xs. kind (get_or xs 0 0)) b ∙ t.0 in
        let counted = ap (λ xs. children (get_or xs 0 0)) b ∙ t.1 in
        rw (e, turned c m (⊎_elim (λ x. inl (λ q. x (known ∙ q))) (λ x. inr (omega arith)) bad))

-- The rules up to 14 are for the connectives of document 01, and 15 to 17 for kind 6.
pub headed_groups : {r : ℕ} {l : List ℕ} (h : Headed r l) → r ≤ 14 → grouping h.conn ≡ true
unfolding grouping
headed_groups {r} h low = ap (λ k. leb k 5) (sym h.its_kind) ∙ row_low r h.its_row low

pub headed_least : {r : ℕ} {l : List ℕ} (h : Headed r l) → 15 ≤ r → (a : ℕ) × (h.conn ≡ at_least a)
headed_least {r} h high = least_of h.conn (ap (λ k. eqb k 6) (sym h.its_kind) ∙ row_six r h.its_row high)

-- Where the head is right, the rule does what its family does to the children.
pub headed_rewrite :
    (r : ℕ) {l : List ℕ} (h : Headed r l) (i j : ℕ) →
    rewrite r i j (forest_in l) ≡ then (change h.row.family h.conn i j h.children) (λ g. some (g ⊕ h.rest))
unfolding rewrite turn then only_if
headed_rewrite r h i j =
    rw (h.forest, h.its_row, eq-eqb h.row.kind (conn_kind h.conn) h.its_kind, le-leb h.row.fewest (size h.children) h.enough)

-- The first i trees of two forests side by side, and what is left, where the first forest has so many.
pub first_left : (i : ℕ) (k f : Forest) → i ≤ size k → first i (k ⊕ f) ≡ first i k
unfolding first size ◌⊕◌
first_left zero k f h = refl
first_left (suc i) nil f h = absurd (omega arith)
first_left (suc i) (lit x k) f h = ap (lit x) (first_left i k f (omega arith))
first_left (suc i) (node c m k) f h = ap (node c m) (first_left i k f (omega arith))

pub after_left : (i : ℕ) (k f : Forest) → i ≤ size k → after i (k ⊕ f) ≡ after i k ⊕ f
unfolding after size ◌⊕◌
after_left zero k f h = refl
after_left (suc i) nil f h = absurd (omega arith)
after_left (suc i) (lit x k) f h = after_left i k f (omega arith)
after_left (suc i) (node c m k) f h = after_left i k f (omega arith)

-- Where the children of the first tree begin: child i after the head and the children before it.
module _ (c : Conn) (k f : Forest) (z i : ℕ) (fit : Fits (node c k f)) (h : i ≤ size k) where
  under : Fits (k ⊕ f)
  under = (fits_tree c k f fit).1

  wide : i ≤ size (k ⊕ f)
  wide = omega (arith, size-⊕ k f)

  tail_is : drop 1 (spell (node c k f) z) ≡ spell (k ⊕ f) z
  tail_is = ap (drop 1) (spell_node c k f z)

  -- The place of child i, by counting the numbers of those before it.
  pub child_start : span i (drop 1 (spell (node c k f) z)) ≡ length (encode (first i k))
  child_start = ap (span i) tail_is ∙ start_at i (k ⊕ f) z wide under ∙ ap (λ g. length (encode g)) (first_left i k f h)

  -- What stands from there on.
  pub child_there : drop (span i (drop 1 (spell (node c k f) z))) (drop 1 (spell (node c k f) z)) ≡ spell (after i k ⊕ f) z
  child_there =
      ap (λ xs. drop (span i xs) xs) tail_is
      ∙ drop_trees i (k ⊕ f) z wide under
      ∙ ap (λ g. spell g z) (after_left i k f h)

  -- What stands before it, after the head.
  pub children_before : take (span i (drop 1 (spell (node c k f) z))) (drop 1 (spell (node c k f) z)) ≡ map number_of (encode (first i k))
  children_before =
      ap (λ xs. take (span i xs) xs) tail_is
      ∙ take_trees i (k ⊕ f) z wide under
      ∙ ap (λ g. map number_of (encode g)) (first_left i k f h)
