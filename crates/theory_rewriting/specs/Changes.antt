-- The rules as a relation: one constructor a family, with the children written as what stands before, at and after the
-- child that the rule is about. Soundness, measure and form are shown by matching on it.
use Rattle.std.specs.Prelude.{true, ◌⊎◌, ◌≡◌, ℕ, ◌≤◌, ◌-◌}
use Rattle.std.proofs.Common.{inl, inr, sym, ap, ◌∙◌}
use Rattle.model.specs.Literal.{Literal, option}
use Rattle.model.specs.Forest.{Conn, and, or, root, at_least, Forest, nil, lit, node, constant, ◌⊕◌, size, mentions}
use Rattle.model.specs.Code.{conn_kind}
use Rattle.model.specs.Rules.{neutral, deciding, assigned, shares, units, groups_without, groups}
use Rattle.theory_forms.specs.Logic.{true_false}
use Rattle.theory_forms.specs.Forests.{grouping}
use Rattle.theory_forms.specs.Ended.{Ended}

-- `Change c k g`: a node of connective c with children k becomes the tree g.
pub data Change : Conn → Forest → Forest → Type 0 where
  absorbed :
      {c : Conn} {k g : Forest} (p q : Forest) →
      grouping c ≡ true →
      k ≡ p ⊕ node (deciding c) nil q →
      2 ≤ size k →
      g ≡ node c (constant (deciding c)) nil →
      Change c k g
  omitted : {c : Conn} {k g : Forest} (p q : Forest) → k ≡ p ⊕ node (neutral c) nil q → g ≡ node c (p ⊕ q) nil → Change c k g
  unwrapped : {c : Conn} {k g : Forest} → grouping c ≡ true → (c ≡ root → ⊥) → size k ≡ 1 → g ≡ k → Change c k g
  spreaded :
      {c : Conn} {k g : Forest} (p q : Forest) (l : Literal) →
      grouping c ≡ true →
      (c ≡ and → ⊥) →
      k ≡ p ⊕ lit l q →
      mentions (option l) (p ⊕ q) ≡ true →
      g ≡ node c (assigned c l p ⊕ lit l (assigned c l q)) nil →
      Change c k g
  lifted :
      {c : Conn} {k g : Forest} (p a b q : Forest) (l : Literal) →
      grouping c ≡ true →
      (c ≡ or → ⊥) →
      k ≡ p ⊕ node and (a ⊕ lit l b) q →
      g ≡ node c (p ⊕ lit l (node and (a ⊕ b) q)) nil →
      Change c k g
  merged : {c : Conn} {k g : Forest} (p a q : Forest) → c ≡ and → k ≡ p ⊕ node and a q → g ≡ node c (p ⊕ a ⊕ q) nil → Change c k g
  factored :
      {c : Conn} {k g : Forest} (a : Literal) →
      c ≡ or →
      shares a k ≡ true →
      2 ≤ groups k →
      g ≡ node c (units k ⊕ node and (lit a (node or (groups_without a k) nil)) nil) nil →
      Change c k g
  lowered :
      {c : Conn} {k g : Forest} (p q : Forest) (a : ℕ) →
      c ≡ at_least a →
      k ≡ p ⊕ node and nil q →
      g ≡ node (at_least (a - 1)) (p ⊕ q) nil →
      Change c k g
  ended : {c : Conn} {k g : Forest} (a : ℕ) (d : Conn) (m : Forest) → c ≡ at_least a → Ended a k d m → g ≡ node d m nil → Change c k g

pub not_root : (a : ℕ) → at_least a ≡ root → ⊥
unfolding grouping conn_kind
not_root a e = true_false (sym (ap grouping e))

-- A change leaves a node with other children, the root where it was the root; or, below the root, its only child.
pub change_node :
    {c : Conn} {k g : Forest} →
    Change c k g →
    ((d : Conn) × (m : Forest) × (g ≡ node d m nil) × (c ≡ root → d ≡ root)) ⊎ ((c ≡ root → ⊥) × (size k ≡ 1) × (g ≡ k))
change_node (absorbed p q o e n r) = inl (_, _, r, λ h. h)
change_node (omitted p q e r) = inl (_, _, r, λ h. h)
change_node (unwrapped o n e r) = inr (n, e, r)
change_node (spreaded p q l o n e m r) = inl (_, _, r, λ h. h)
change_node (lifted p a b q l o n e r) = inl (_, _, r, λ h. h)
change_node (merged p a q n e r) = inl (_, _, r, λ h. h)
change_node (factored a n e m r) = inl (_, _, r, λ h. h)
change_node (lowered p q a n e r) = inl (_, _, r, λ h. absurd (not_root a (sym n ∙ h)))
change_node (ended a d m n e r) = inl (_, _, r, λ h. absurd (not_root a (sym n ∙ h)))
