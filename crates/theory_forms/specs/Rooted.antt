-- Lists of nodes that spell one tree whose root connective stands at its head and nowhere else.
use Rattle.std.specs.Prelude.{Bool, true, false, ◌&&◌, not, List, [], ◌∷◌, ◌≡◌, refl, ℕ, zero, suc, drop}
use Rattle.std.proofs.Math.Bool.{and_assoc}
use Rattle.std.proofs.Common.{sym, ap, ◌∙◌}
use Rattle.model.specs.Forest.{root, same_conn, Forest, nil, lit, node, ◌⊕◌, after, kids, Conn}
use Rattle.model.specs.Code.{Node, push, decode}
use Rattle.theory_forms.specs.Logic.{not_and_split, and_join}
use Rattle.theory_forms.specs.Forests.{⊕-nil}
use Rattle.theory_forms.specs.Codes.{under}

-- No connective of the trees, at any depth, is the root.
unfoldable pub no_root : Forest → Bool
no_root nil = true
no_root (lit l f) = no_root f
no_root (node c k f) = not (same_conn root c) && no_root k && no_root f

pub no-root-⊕ : (f g : Forest) → no_root (f ⊕ g) ≡ (no_root f && no_root g)
unfolding no_root ◌⊕◌
no-root-⊕ nil g = refl
no-root-⊕ (lit l f) g = no-root-⊕ f g
no-root-⊕ (node c k f) g =
    rw (no-root-⊕ f g) (sym (and_assoc (not (same_conn root c) && no_root k) (no_root f) (no_root g)))

pub no_root_node :
    (c : Conn) (k f : Forest) →
    no_root (node c k f) ≡ true →
    (same_conn root c ≡ false) × (no_root k ≡ true) × (no_root f ≡ true)
unfolding no_root
no_root_node c k f e = not_and_split (same_conn root c) (no_root k) (no_root f) e

-- The children of the first tree and the trees after it have no root either.
no_root_under : (f : Forest) → no_root f ≡ true → no_root (kids f ⊕ after 1 f) ≡ true
unfolding no_root kids after ◌⊕◌
no_root_under nil e = refl
no_root_under (lit l f) e = e
no_root_under (node c k f) e = let s = no_root_node c k f e in no-root-⊕ k f ∙ and_join s.1 s.2

pub no_root_drop : (place : ℕ) (ns : List Node) → no_root (decode ns) ≡ true → no_root (decode (drop place ns)) ≡ true
unfolding decode
no_root_drop zero ns e = e
no_root_drop (suc place) [] e = e
no_root_drop (suc place) (x ∷ ns) e =
    no_root_drop place ns (ap no_root (sym (under x (decode ns))) ∙ no_root_under (push x (decode ns)) e)

pub record Rooted (ns : List Node) : Type 0 where
  pub body : Forest
  pub whole : decode ns ≡ node root body nil
  pub inside : no_root body ≡ true

-- From any place after the first on there is no root.
pub below_root : (place : ℕ) (ns : List Node) → Rooted ns → no_root (decode (drop (suc place) ns)) ≡ true
unfolding decode no_root kids after
below_root place [] w = refl
below_root place (x ∷ ns) w =
    let body : w.body ≡ decode ns = sym (⊕-nil w.body) ∙ ap (λ f. kids f ⊕ after 1 f) (sym w.whole) ∙ under x (decode ns) in
    no_root_drop place ns (ap no_root (sym body) ∙ w.inside)
