-- Marks, by their numbers. "A node is one number: kind × 4,096 + value. Kind 1 is an option (value its number), 2 the same option barred.
-- Kinds 1 and 2 are marks."
use Rattle.std.specs.Prelude.{Bool, ◌⊎◌, ◌↔◌, ◌≡◌, ℕ, ◌+◌, ◌%◌, ◌<◌, eqb}
use Rattle.std.proofs.Math.Bool.{true, false}
use Rattle.std.proofs.Common.{inl, inr, sym, ◌∙◌, arith}
use Rattle.std.proofs.Math.Path.{refl, ap}
use borrow.Author.Tests.{eqb-true, eq-eqb, lt-ltb}
use Rattle.model.specs.Base.{pick}
use Rattle.model.specs.Limits.{kind_factor, least_factor}
use Rattle.model.specs.Literal.{Literal, pos, neg, option}
use Rattle.model.specs.Forest.{and, or, root, at_least}
use Rattle.model.specs.Code.{Node, leaf, head, kind, value, children, number, number_of, node_of}
use Rattle.calls.specs.Index.{names}
use Rattle.theory_forms.specs.Logic.{true_false}
use Rattle.theory_forms.specs.Numbers.{fits, node_number}

-- The number x is a mark of option v.
abbrev pub IsMark : ℕ → ℕ → Type 0
IsMark v x = (x ≡ 4096 + v) ⊎ (x ≡ 8192 + v)

-- The definitions' test of a node holds of just these. (No option is 4,096 or more.)
module _ (v x : ℕ) (small : v < 4096) where
  of_mark : names v (node_of x) ≡ true → IsMark v x
  unfolding names node_of pick option kind value
  of_mark e =
      go (eqb (kind x) 1) (eqb (kind x) 2) _ refl refl e
      (no_mark (eqb (kind x) 3) (eqb (kind x) 4) (eqb (kind x) 6) (children x) (value x % least_factor))
    where
      no_mark :
          (a b c : Bool) (k m : ℕ) →
          names v (pick a (head and k) (pick b (head or k) (pick c (head (at_least m) k) (head root k)))) ≡ false
      no_mark true b c k m = refl
      no_mark false true c k m = refl
      no_mark false false true k m = refl
      no_mark false false false k m = refl

      go :
          (a b : Bool) (y : Node) →
          eqb (kind x) 1 ≡ a →
          eqb (kind x) 2 ≡ b →
          names v (pick a (leaf (pos (value x))) (pick b (leaf (neg (value x))) y)) ≡ true →
          names v y ≡ false →
          IsMark v x
      go true b y p q e n = inl (omega (arith, eqb-true (kind x) 1 p, eqb-true v (value x) e))
      go false true y p q e n = inr (omega (arith, eqb-true (kind x) 2 q, eqb-true v (value x) e))
      go false false y p q e n = true_false (sym e ∙ n)

  spelled : (l : Literal) → option l ≡ v → x ≡ number_of (leaf l) → names v (node_of x) ≡ true
  unfolding names fits
  spelled l o e =
      ap (λ y. names v (node_of y)) e
      ∙ ap (names v) (node_number (leaf l) (lt-ltb (option l) kind_factor (rw o small)))
      ∙ eq-eqb v (option l) (sym o)

  mark_of : IsMark v x → names v (node_of x) ≡ true
  unfolding option number_of number
  mark_of (inl e) = spelled (pos v) refl (omega arith)
  mark_of (inr e) = spelled (neg v) refl (omega arith)

  pub mark_exactly : (names v (node_of x) ≡ true) ↔ IsMark v x
  mark_exactly = (of_mark, mark_of)

  pub not_mark : names v (node_of x) ≡ false → IsMark v x → ⊥
  not_mark e m = true_false (sym (mark_of m) ∙ e)
