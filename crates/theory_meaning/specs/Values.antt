-- The value of a tree depends on what stands below and beside it through values alone: how `fails` and `values` go through
-- forests side by side, through first trees and the rest, and through the prefix code.
use Rattle.std.specs.Prelude.{Bool, true, false, ◌&&◌, ◌||◌, List, [], ◌∷◌, ◌++◌, ◌≡◌, ℕ, zero, suc, length, take, drop}
use Rattle.std.proofs.Math.Path.{refl}
use Rattle.std.proofs.Common.{sym, ap, ap₂, ◌∙◌}
use Rattle.model.specs.Base.{pick, all, any}
use Rattle.model.specs.Forest.{Conn, and, or, root, Forest, nil, lit, node, ◌⊕◌, first, after}
use Rattle.model.specs.Code.{Node, leaf, head, push}
use Rattle.theory_forms.specs.Lists.{any_append}
use Rattle.theory_forms.specs.Codes.{decode_onto}
use Rattle.theory_meaning.specs.Evaluation.{Set, count, fails_all, fails, values}

-- One child more, of a disjunction, and of the root, which fails as a conjunction does.
module _ (b : Bool) (bs : List Bool) where
  pub or_more : fails_all or (b ∷ bs) ≡ (b && fails_all or bs)
  unfolding fails_all all
  or_more = refl

  pub root_more : fails_all root (b ∷ bs) ≡ (b || fails_all root bs)
  unfolding fails_all any
  root_more = refl

pub or_none : fails_all or [] ≡ true
unfolding fails_all all
or_none = refl

pub root_none : fails_all root [] ≡ false
unfolding fails_all any
root_none = refl

pub and_root : (bs : List Bool) → fails_all and bs ≡ fails_all root bs
unfolding fails_all
and_root bs = refl

-- One value more among others: how many there are, and how many of them fail.
pub length_more : (xs ys : List Bool) (b : Bool) → length (xs ++ b ∷ ys) ≡ suc (length (xs ++ ys))
length_more [] ys b = refl
length_more (x ∷ xs) ys b = ap suc (length_more xs ys b)

pub count_more : (xs ys : List Bool) (b : Bool) → count (xs ++ b ∷ ys) ≡ pick b (suc (count (xs ++ ys))) (count (xs ++ ys))
unfolding count pick
count_more [] ys b = refl
count_more (true ∷ xs) ys true = ap suc (count_more xs ys true)
count_more (true ∷ xs) ys false = ap suc (count_more xs ys false)
count_more (false ∷ xs) ys b = count_more xs ys b

-- The children of the root in two parts.
pub root_append : (xs ys : List Bool) → fails_all root (xs ++ ys) ≡ (fails_all root xs || fails_all root ys)
unfolding fails_all
root_append xs ys = any_append (λ b. b) xs ys

-- Whether a node fails depends on the values of its children alone.
pub fails_values : (s : Set) (c : Conn) (f : Forest) → fails s c f ≡ fails_all c (values s f)
unfolding fails
fails_values s c f = refl

pub same_fails : (s : Set) (c : Conn) (f g : Forest) → values s f ≡ values s g → fails s c f ≡ fails s c g
unfolding fails
same_fails s c f g e = ap (fails_all c) e

-- The root, by its children.
pub root_empty : (s : Set) → fails s root nil ≡ false
unfolding fails values
root_empty s = root_none

pub root_and : (s : Set) (f : Forest) → fails s and f ≡ fails s root f
unfolding fails
root_and s f = and_root (values s f)

pub root_with : (s : Set) (c : Conn) (k f : Forest) → fails s root (node c k f) ≡ (fails s c k || fails s root f)
unfolding fails values
root_with s c k f = root_more (fails s c k) (values s f)

pub values-⊕ : (s : Set) (f g : Forest) → values s (f ⊕ g) ≡ values s f ++ values s g
unfolding values ◌⊕◌
values-⊕ s nil g = refl
values-⊕ s (lit l f) g = ap (λ bs. s l ∷ bs) (values-⊕ s f g)
values-⊕ s (node c k f) g = ap (λ bs. fails_all c (values s k) ∷ bs) (values-⊕ s f g)

pub root-⊕ : (s : Set) (f g : Forest) → fails s root (f ⊕ g) ≡ (fails s root f || fails s root g)
unfolding fails
root-⊕ s f g = ap (fails_all root) (values-⊕ s f g) ∙ root_append (values s f) (values s g)

pub values_first : (s : Set) (n : ℕ) (f : Forest) → values s (first n f) ≡ take n (values s f)
unfolding values first
values_first s zero f = refl
values_first s (suc n) nil = refl
values_first s (suc n) (lit l f) = ap (λ bs. s l ∷ bs) (values_first s n f)
values_first s (suc n) (node c k f) = ap (λ bs. fails_all c (values s k) ∷ bs) (values_first s n f)

pub values_after : (s : Set) (n : ℕ) (f : Forest) → values s (after n f) ≡ drop n (values s f)
unfolding values after
values_after s zero f = refl
values_after s (suc n) nil = refl
values_after s (suc n) (lit l f) = values_after s n f
values_after s (suc n) (node c k f) = values_after s n f

-- A change that keeps the values of the trees from a place on keeps the values of the trees from any earlier place on.
pub values_onto :
    (s : Set) (ns : List Node) (f g : Forest) →
    values s f ≡ values s g →
    values s (decode_onto ns f) ≡ values s (decode_onto ns g)
unfolding decode_onto push values
values_onto s [] f g e = e
values_onto s (leaf l ∷ ns) f g e = ap (λ bs. s l ∷ bs) (values_onto s ns f g e)
values_onto s (head c n ∷ ns) f g e =
    let a = decode_onto ns f in
    let b = decode_onto ns g in
    let inner = values_onto s ns f g e in
    let firsts = values_first s n a ∙ ap (take n) inner ∙ sym (values_first s n b) in
    let afters = values_after s n a ∙ ap (drop n) inner ∙ sym (values_after s n b) in
    ap₂ (λ x bs. x ∷ bs) (ap (fails_all c) firsts) afters
