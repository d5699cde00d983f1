-- A choice: its mark as the last child of the root.
use Rattle.std.specs.Prelude.{List, [], ◌∷◌, ◌++◌, ◌≡◌, refl}
use Rattle.std.proofs.Common.{append-nil, ◌∙◌, arith, lt-ltb}
use Rattle.std.proofs.Math.Path.{ap, ap₂}
use Prim.Native.Nat.{ℕ, suc, ◌+◌, ◌<◌}
use Rattle.std.proofs.Math.ListN.{length-append}
use Rattle.model.specs.Literal.{Literal, option}
use Rattle.model.specs.Forest.{root, nil, lit, node, ◌⊕◌, size}
use Rattle.model.specs.Code.{Node, leaf, head, encode, literals, weight}
use Rattle.model.specs.Sheet.{with_child, chosen}
use Rattle.theory_forms.specs.Logic.{and_join}
use Rattle.theory_forms.specs.Forests.{size-⊕}
use Rattle.theory_forms.specs.Codes.{encode-⊕, literals_append}
use Rattle.theory_forms.specs.Fine.{fine, fine-⊕}
use Rattle.theory_forms.specs.Shape.{Shaped, shaped_flat, shaped_decode}

-- A choice puts its mark as the last child of the root: one node more at the end, and one child more at the head.
module _ {n : ℕ} {ns : List Node} (l : Literal) (form : Shaped n ns) where
  pub chosen_is : chosen l ns ≡ encode (node root (form.kids ⊕ lit l nil) nil)
  unfolding chosen with_child
  chosen_is = ap (λ f. encode (with_child l f)) (shaped_decode form)

  pub chosen_shaped : option l < n → Shaped n (chosen l ns)
  unfolding fine
  chosen_shaped h = record {
    kids = form.kids ⊕ lit l nil;
    spelled = chosen_is;
    fine = fine-⊕ n form.kids (lit l nil) ∙ and_join form.fine (and_join (lt-ltb (option l) n h) refl);
  }

  chosen_spelled : chosen l ns ≡ head root (suc (size form.kids)) ∷ encode form.kids ++ (leaf l ∷ [])
  unfolding encode size
  chosen_spelled =
      let f = form.kids in
      let one_more : size (f ⊕ lit l nil) ≡ suc (size f) = omega (arith, size-⊕ f (lit l nil)) in
      chosen_is ∙ ap₂ (λ m xs. head root m ∷ xs) one_more (append-nil _ ∙ encode-⊕ f (lit l nil))

  pub chosen_weight : weight (chosen l ns) ≡ weight ns + 2
  unfolding weight literals
  chosen_weight =
      let below = encode form.kids in
      let new = ap weight chosen_spelled in
      let old = ap weight (shaped_flat form) in
      omega (arith, length-append below (leaf l ∷ []), literals_append below (leaf l ∷ []))

pub chosen_flat :
    {n k : ℕ} {ns : List Node} (l : Literal) →
    Shaped n (head root k ∷ ns) →
    chosen l (head root k ∷ ns) ≡ head root (suc k) ∷ ns ++ (leaf l ∷ [])
chosen_flat {n} {k} {ns} l form =
    let flat = shaped_flat form in
    let count : size form.kids ≡ k = cc in
    let tail : encode form.kids ≡ ns = cc in
    chosen_spelled l form ∙ ap₂ (λ m xs. head root (suc m) ∷ xs ++ (leaf l ∷ [])) count tail
