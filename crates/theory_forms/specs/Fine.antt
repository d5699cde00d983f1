-- What the trees of a sheet's rules look like: no root inside, the members of kind 6 well-formed, options below a number.
use Rattle.std.specs.Prelude.{Bool, true, false, ◌&&◌, ◌≡◌, refl, ℕ, ltb}
use Rattle.std.proofs.Math.Bool.{and_assoc}
use Rattle.std.proofs.Common.{sym, ap, ◌∙◌}
use Rattle.model.specs.Literal.{Literal, option}
use Rattle.model.specs.Forest.{Conn, root, same_conn, Forest, nil, lit, node, ◌⊕◌, size, seated}
use Rattle.theory_forms.specs.Logic.{and_split}
use Rattle.theory_forms.specs.Numbers.{inner, inner_not_root}

-- A node with these children may stand below the root.
unfoldable pub placed : Conn → Forest → Bool
placed c k = inner c (size k) && seated c k

-- Every node may stand below the root, and every option is below n.
unfoldable pub fine : ℕ → Forest → Bool
fine n nil = true
fine n (lit l f) = ltb (option l) n && fine n f
fine n (node c k f) = placed c k && fine n k && fine n f

pub placed_inner : (c : Conn) (k : Forest) → placed c k ≡ true → inner c (size k) ≡ true
unfolding placed
placed_inner c k h = (and_split (inner c (size k)) (seated c k) h).0

pub placed_not_root : (c : Conn) (k : Forest) → placed c k ≡ true → same_conn root c ≡ false
placed_not_root c k h = inner_not_root c (size k) (placed_inner c k h)

pub fine-⊕ : (n : ℕ) (f g : Forest) → fine n (f ⊕ g) ≡ (fine n f && fine n g)
unfolding fine ◌⊕◌
fine-⊕ n nil g = refl
fine-⊕ n (lit l f) g = rw (fine-⊕ n f g) (sym (and_assoc (ltb (option l) n) (fine n f) (fine n g)))
fine-⊕ n (node c k f) g = rw (fine-⊕ n f g) (sym (and_assoc (placed c k && fine n k) (fine n f) (fine n g)))

module _ (n : ℕ) where
  pub fine_split : {k : Forest} (f g : Forest) → k ≡ f ⊕ g → fine n k ≡ true → (fine n f ≡ true) × (fine n g ≡ true)
  fine_split f g e h = and_split (fine n f) (fine n g) (sym (ap (fine n) e ∙ fine-⊕ n f g) ∙ h)

  pub fine_lit : (l : Literal) (f : Forest) → fine n (lit l f) ≡ true → (ltb (option l) n ≡ true) × (fine n f ≡ true)
  unfolding fine
  fine_lit l f h = and_split (ltb (option l) n) (fine n f) h

  pub fine_node :
      (c : Conn) (k f : Forest) →
      fine n (node c k f) ≡ true →
      (placed c k ≡ true) × (fine n k ≡ true) × (fine n f ≡ true)
  unfolding fine
  fine_node c k f h =
      let s = and_split (placed c k && fine n k) (fine n f) h in
      let t = and_split (placed c k) (fine n k) s.0 in
      (t.0, t.1, s.1)
