-- The numbers of literals: told from those of groups, and equal only where the literals are.
use Rattle.std.specs.Prelude.{true, false, ◌≡◌, ℕ, ◌+◌, ◌-◌, ◌*◌, ◌≤◌, eqb}
use Rattle.std.proofs.Common.{⊎_elim, sym, ap, ◌∙◌, arith, eqb-true, eq-eqb}
use Rattle.model.specs.Literal.{Literal, pos, neg, option, same}
use Rattle.model.specs.Forest.{Conn, and, or, root, at_least}
use Rattle.model.specs.Code.{leaf, head, kind, value, conn_kind, number_of, node_of}
use Rattle.theory_forms.specs.Logic.{true_false, or_split, fails_if, same_test}
use Rattle.theory_forms.specs.Literals.{same_is, is_same}
use Rattle.theory_forms.specs.Numbers.{fits, kind_number, value_number, head_kind, node_number}
use Rattle.theory_forms.specs.Scan.{is_literal}

-- A literal is of kind 1 or 2.
pub literal_kind : (x : ℕ) → is_literal x ≡ true → (1 ≤ kind x) × (kind x ≤ 2)
unfolding is_literal
literal_kind x h =
    ⊎_elim
    (λ e. let k = eqb-true (kind x) 1 e in (omega arith, omega arith))
    (λ e. let k = eqb-true (kind x) 2 e in (omega arith, omega arith))
    (or_split (eqb (kind x) 1) _ h)

-- The place in a table of the literal that a number of kind 1 or 2 is.
unfoldable pub place_at : ℕ → ℕ
place_at x = 2 * value x + kind x - 1

-- What the number of a node that fits says of its kind and value.
pub leaf_literal : (x : Literal) → fits (leaf x) ≡ true → is_literal (number_of (leaf x)) ≡ true
unfolding is_literal number_of fits option
leaf_literal (pos v) h = rw (kind_number 1 v h)
leaf_literal (neg v) h = rw (kind_number 2 v h)

pub head_inner : (c : Conn) (n : ℕ) → fits (head c n) ≡ true → is_literal (number_of (head c n)) ≡ false
unfolding is_literal conn_kind
head_inner and n h = rw (head_kind and n h)
head_inner or n h = rw (head_kind or n h)
head_inner root n h = rw (head_kind root n h)
head_inner (at_least a) n h = rw (head_kind (at_least a) n h)

pub leaf_value : (x : Literal) → fits (leaf x) ≡ true → value (number_of (leaf x)) ≡ option x
unfolding number_of fits option
leaf_value (pos v) h = value_number 1 v h
leaf_value (neg v) h = value_number 2 v h

-- Equal numbers, by the test for the same literal.
leaf_inj : {a b : Literal} → leaf a ≡ leaf b → a ≡ b
leaf_inj e = cc

pub leaf_test : (a b : Literal) → fits (leaf a) ≡ true → fits (leaf b) ≡ true → eqb (number_of (leaf b)) (number_of (leaf a)) ≡ same a b
leaf_test a b p q =
    same_test _ (same a b)
    (λ e. is_same (leaf_inj (sym (node_number (leaf a) p) ∙ ap node_of (sym (eqb-true (number_of (leaf b)) (number_of (leaf a)) e)) ∙ node_number (leaf b) q)))
    (λ e. eq-eqb (number_of (leaf b)) (number_of (leaf a)) (ap (λ x. number_of (leaf x)) (sym (same_is a b e))))

pub head_unlike :
    (c : Conn) (n : ℕ) (a : Literal) →
    fits (head c n) ≡ true →
    fits (leaf a) ≡ true →
    eqb (number_of (head c n)) (number_of (leaf a)) ≡ false
head_unlike c n a p q =
    fails_if _ (λ e. true_false (sym (leaf_literal a q) ∙ ap is_literal (sym (eqb-true (number_of (head c n)) (number_of (leaf a)) e)) ∙ head_inner c n p))
