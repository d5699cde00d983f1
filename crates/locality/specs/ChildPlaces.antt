-- What stands at the places of a tree's children, and after the tree.
use Rattle.std.specs.Prelude.{List, ◌∷◌, ◌++◌, ◌≡◌, drop}
use Rattle.std.proofs.Math.Path.{refl, ap}
use Rattle.std.proofs.Common.{sym, ◌∙◌, arith, drop_at, drop-drop}
use Prim.Native.Nat.{ℕ, suc, ◌+◌}
use Rattle.std.proofs.Math.ListN.{length, length-append}
use Rattle.model.specs.Forest.{Conn, Forest, nil, node, ◌⊕◌, first, after, kids}
use Rattle.model.specs.Code.{Node, encode, decode}
use Rattle.theory_forms.specs.Forests.{⊕-assoc, first_after}
use Rattle.theory_forms.specs.Codes.{encode-⊕, decode_encode}
use Rattle.locality.specs.Zones.{tree_length, tree_end, child_place}

-- The nodes of a list from a place within it on.
pub record Rest (n : ℕ) (xs ys : List Node) : Type 0 where
  pub left : drop n xs ≡ ys
  pub long : length xs ≡ n + length ys

pub rest_of : (n : ℕ) (xs ys : List Node) → length xs ≡ n → Rest n (xs ++ ys) ys
rest_of n xs ys e = record { left = drop_at xs ys n e; long = omega (arith, length-append xs ys) }

pub rest_one : (x : Node) (xs : List Node) → Rest 1 (x ∷ xs) xs
rest_one x xs = record { left = refl; long = omega arith }

pub rest_as : {n m : ℕ} {xs ys zs : List Node} → Rest n xs ys → n ≡ m → ys ≡ zs → Rest m xs zs
rest_as r e h = rw (← e, ← h) r

-- A place further on, in two moves.
pub further : {p n : ℕ} {xs ys zs : List Node} → Rest p xs ys → Rest n ys zs → Rest (p + n) xs zs
further {p} {n} {xs} r s =
    record { left = sym (drop-drop n p xs) ∙ ap (drop n) r.left ∙ s.left; long = let a = r.long in let b = s.long in omega arith }

-- Codes without their first trees, without a head, and without a head and its first children.
pub past_trees : (a f : Forest) → Rest (length (encode a)) (encode (a ⊕ f)) (encode f)
past_trees a f = rw (encode-⊕ a f) (rest_of (length (encode a)) (encode a) (encode f) refl)

pub past_head : (c : Conn) (k f : Forest) → Rest 1 (encode (node c k f)) (encode (k ⊕ f))
unfolding encode
past_head c k f = rest_as (rest_one _ _) refl (sym (encode-⊕ k f))

pub past_children : (c : Conn) (a d f : Forest) → Rest (suc (length (encode a))) (encode (node c (a ⊕ d) f)) (encode (d ⊕ f))
unfolding encode
past_children c a d f =
    let below : encode (a ⊕ d) ++ encode f ≡ encode a ++ encode (d ⊕ f) = sym (encode-⊕ (a ⊕ d) f) ∙ ap encode (⊕-assoc a d f) ∙ encode-⊕ a (d ⊕ f) in
    rw below (rest_of (suc (length (encode a))) (_ ∷ encode a) (encode (d ⊕ f)) refl)

-- The place of child i, the length of the tree, and what stands at that place and after the tree.
module _ (q : ℕ) (ns : List Node) (c : Conn) (k f : Forest) (e : Rest q ns (encode (node c k f))) where
  pub read_here : decode (drop q ns) ≡ node c k f
  read_here = ap decode e.left ∙ decode_encode (node c k f)

  pub child_offset : (i : ℕ) → child_place q i ns ≡ q + suc (length (encode (first i k)))
  unfolding child_place kids
  child_offset i = ap (λ g. q + suc (length (encode (first i (kids g))))) read_here

  pub length_here : tree_length q ns ≡ suc (length (encode k))
  unfolding tree_length first encode
  length_here = ap (λ g. length (encode (first 1 g))) read_here ∙ ap suc (omega (arith, length-append (encode k) (encode nil)))

  pub child_here : (i : ℕ) → Rest (child_place q i ns) ns (encode (after i k ⊕ f))
  child_here i =
      let parts : encode (node c k f) ≡ encode (node c (first i k ⊕ after i k) f) = ap (λ g. encode (node c g f)) (sym (first_after i k)) in
      rest_as (further (rest_as e refl parts) (past_children c (first i k) (after i k) f)) (sym (child_offset i)) refl

  pub end_here : Rest (tree_end q ns) ns (encode f)
  unfolding encode
  end_here =
      let tree = rest_of (suc (length (encode k))) (_ ∷ encode k) (encode f) refl in
      rest_as (further e tree) (ap (λ n. q + n) (sym length_here)) refl
