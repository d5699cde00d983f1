-- Laws of forests side by side, of their first trees and the rest, and of what stands in them; each for all connectives.
use Rattle.std.specs.Prelude.{Bool, true, false, ◌||◌, ◌≡◌, refl, ℕ, zero, suc, ◌+◌, ◌≤◌, ◌-◌, eqb, leb}
use Rattle.std.proofs.Math.Bool.{or_assoc}
use Rattle.std.proofs.Common.{⊎_elim, sym, ap, ◌∙◌, zero-add, suc-add, arith, eqb-true, eq-eqb}
use Rattle.std.proofs.Math.Option.{some}
use Rattle.model.specs.Base.{pick}
use Rattle.model.specs.Literal.{Literal, option, same, complement}
use Rattle.model.specs.Forest.{Conn, and, or, root, at_least, same_conn, Forest, nil, lit, node, ◌⊕◌, size, first, after, literal_at, conjunction_at, constant_at, has_unit, mentions}
use Rattle.model.specs.Code.{conn_kind}
use Rattle.model.specs.Rules.{neutral, deciding, assigned, groups}
use Rattle.theory_forms.specs.Logic.{true_false, none_some, some_inj, and_split, or_split, or_left, or_right}
use Rattle.theory_forms.specs.Literals.{same_is, same_self}

pub ⊕-nil : (f : Forest) → f ⊕ nil ≡ f
unfolding ◌⊕◌
⊕-nil nil = refl
⊕-nil (lit l f) = ap (lit l) (⊕-nil f)
⊕-nil (node c k f) = ap (node c k) (⊕-nil f)

pub ⊕-assoc : (f g h : Forest) → (f ⊕ g) ⊕ h ≡ f ⊕ (g ⊕ h)
unfolding ◌⊕◌
⊕-assoc nil g h = refl
⊕-assoc (lit l f) g h = ap (lit l) (⊕-assoc f g h)
⊕-assoc (node c k f) g h = ap (node c k) (⊕-assoc f g h)

-- The clauses of `◌⊕◌`, to rewrite by.
pub nil-⊕ : (g : Forest) → nil ⊕ g ≡ g
unfolding ◌⊕◌
nil-⊕ g = refl

pub lit-⊕ : (l : Literal) (f g : Forest) → lit l f ⊕ g ≡ lit l (f ⊕ g)
unfolding ◌⊕◌
lit-⊕ l f g = refl

pub node-⊕ : (c : Conn) (k f g : Forest) → node c k f ⊕ g ≡ node c k (f ⊕ g)
unfolding ◌⊕◌
node-⊕ c k f g = refl

pub size-⊕ : (f g : Forest) → size (f ⊕ g) ≡ size f + size g
unfolding ◌⊕◌ size
size-⊕ nil g = sym (zero-add (size g))
size-⊕ (lit l f) g = ap suc (size-⊕ f g) ∙ sym (suc-add (size f) (size g))
size-⊕ (node c k f) g = ap suc (size-⊕ f g) ∙ sym (suc-add (size f) (size g))

pub first_after : (i : ℕ) (f : Forest) → first i f ⊕ after i f ≡ f
unfolding ◌⊕◌ first after
first_after zero f = refl
first_after (suc i) nil = refl
first_after (suc i) (lit l f) = ap (lit l) (first_after i f)
first_after (suc i) (node c k f) = ap (node c k) (first_after i f)

-- A forest cut after as many trees as its first part has.
pub first-⊕ : (f g : Forest) → first (size f) (f ⊕ g) ≡ f
unfolding ◌⊕◌ first size
first-⊕ nil g = refl
first-⊕ (lit l f) g = ap (lit l) (first-⊕ f g)
first-⊕ (node c k f) g = ap (node c k) (first-⊕ f g)

pub after-⊕ : (f g : Forest) → after (size f) (f ⊕ g) ≡ g
unfolding ◌⊕◌ after size
after-⊕ nil g = refl
after-⊕ (lit l f) g = after-⊕ f g
after-⊕ (node c k f) g = after-⊕ f g

pub size_first : (i : ℕ) (f : Forest) → i ≤ size f → size (first i f) ≡ i
unfolding first size
size_first zero f h = refl
size_first (suc i) nil h = omega arith
size_first (suc i) (lit l f) h = ap suc (size_first i f (omega arith))
size_first (suc i) (node c k f) h = ap suc (size_first i f (omega arith))

pub size_after : (i : ℕ) (f : Forest) → size (after i f) ≡ size f - i
unfolding after size
size_after zero f = omega arith
size_after (suc i) nil = omega arith
size_after (suc i) (lit l f) = let h = size_after i f in omega arith
size_after (suc i) (node c k f) = let h = size_after i f in omega arith

-- The tree that stands at index i of a forest, read off what is left from there.
pub after_suc : (i : ℕ) (f : Forest) → after (suc i) f ≡ after 1 (after i f)
unfolding after
after_suc zero f = refl
after_suc (suc i) nil = refl
after_suc (suc i) (lit l f) = after_suc i f
after_suc (suc i) (node c k f) = after_suc i f

pub literal_here : (i : ℕ) (f : Forest) {l : Literal} → literal_at (after i f) ≡ some l → after i f ≡ lit l (after (suc i) f)
unfolding literal_at after
literal_here i f {l} e = go (after i f) e ∙ ap (lit l) (sym (after_suc i f))
  where
    go : (g : Forest) → literal_at g ≡ some l → g ≡ lit l (after 1 g)
    go nil h = none_some h
    go (lit x g) h = ap (λ y. lit y g) (some_inj h)
    go (node c k g) h = none_some h

pub conjunction_here : (i : ℕ) (f : Forest) {k : Forest} → conjunction_at (after i f) ≡ some k → after i f ≡ node and k (after (suc i) f)
unfolding conjunction_at after
conjunction_here i f {k} e = go (after i f) e ∙ ap (node and k) (sym (after_suc i f))
  where
    go : (g : Forest) → conjunction_at g ≡ some k → g ≡ node and k (after 1 g)
    go nil h = none_some h
    go (lit x g) h = none_some h
    go (node and m g) h = ap (λ y. node and y g) (some_inj h)
    go (node or m g) h = none_some h
    go (node root m g) h = none_some h
    go (node (at_least a) m g) h = none_some h

pub same_conn_is : (c d : Conn) → same_conn c d ≡ true → c ≡ d
unfolding same_conn
same_conn_is and and e = refl
same_conn_is and or e = true_false (sym e)
same_conn_is and root e = true_false (sym e)
same_conn_is and (at_least b) e = true_false (sym e)
same_conn_is or and e = true_false (sym e)
same_conn_is or or e = refl
same_conn_is or root e = true_false (sym e)
same_conn_is or (at_least b) e = true_false (sym e)
same_conn_is root and e = true_false (sym e)
same_conn_is root or e = true_false (sym e)
same_conn_is root root e = refl
same_conn_is root (at_least b) e = true_false (sym e)
same_conn_is (at_least a) and e = true_false (sym e)
same_conn_is (at_least a) or e = true_false (sym e)
same_conn_is (at_least a) root e = true_false (sym e)
same_conn_is (at_least a) (at_least b) e = ap at_least (eqb-true a b e)

pub same_conn_self : (c : Conn) → same_conn c c ≡ true
unfolding same_conn
same_conn_self and = refl
same_conn_self or = refl
same_conn_self root = refl
same_conn_self (at_least a) = eq-eqb a a refl

-- The connectives of document 01, each of which has a kind of its own, and their kinds.
unfoldable pub grouping : Conn → Bool
grouping c = leb (conn_kind c) 5

group_of : ℕ → Conn
group_of k = pick (eqb k 3) and (pick (eqb k 4) or root)

kind_back : (c : Conn) → grouping c ≡ true → group_of (conn_kind c) ≡ c
unfolding grouping conn_kind group_of pick
kind_back and g = refl
kind_back or g = refl
kind_back root g = refl
kind_back (at_least a) g = true_false (sym g)

pub conn_of_kind : (c d : Conn) → grouping d ≡ true → conn_kind c ≡ conn_kind d → c ≡ d
unfolding grouping
conn_of_kind c d g e = sym (kind_back c (ap (λ k. leb k 5) e ∙ g)) ∙ ap group_of e ∙ kind_back d g

pub neutral_groups : (c : Conn) → grouping (neutral c) ≡ true
unfolding grouping neutral conn_kind
neutral_groups and = refl
neutral_groups or = refl
neutral_groups root = refl
neutral_groups (at_least a) = refl

pub deciding_groups : (c : Conn) → grouping (deciding c) ≡ true
unfolding grouping deciding conn_kind
deciding_groups and = refl
deciding_groups or = refl
deciding_groups root = refl
deciding_groups (at_least a) = refl

-- Two connectives that are told apart.
pub not_conn : {c d : Conn} → same_conn c d ≡ false → c ≡ d → ⊥
not_conn {c} {d} e q = true_false (sym (same_conn_self c) ∙ ap (same_conn c) q ∙ e)

pub size_zero : (f : Forest) → size f ≡ 0 → f ≡ nil
unfolding size
size_zero nil e = refl
size_zero (lit l f) e = absurd (omega arith)
size_zero (node c k f) e = absurd (omega arith)

pub past_end : (i : ℕ) (f : Forest) → size f ≤ i → after i f ≡ nil
past_end i f n = size_zero (after i f) (omega (arith, size_after i f))

pub constant_here : (c : Conn) (i : ℕ) (f : Forest) → constant_at c (after i f) ≡ true → after i f ≡ node c nil (after (suc i) f)
unfolding constant_at after
constant_here c i f e = go (after i f) e ∙ ap (node c nil) (sym (after_suc i f))
  where
    go : (g : Forest) → constant_at c g ≡ true → g ≡ node c nil (after 1 g)
    go nil h = true_false (sym h)
    go (lit x g) h = true_false (sym h)
    go (node d k g) h =
        let s = and_split (same_conn c d) _ h in
        let p : d ≡ c = sym (same_conn_is c d s.0) in
        let q : k ≡ nil = size_zero k (eqb-true (size k) 0 s.1) in
        cc

-- A forest with the tree at index i taken out of the middle.
pub cut_at : (i : ℕ) (f g : Forest) → after i f ≡ g → first i f ⊕ g ≡ f
cut_at i f g e = ap (λ h. first i f ⊕ h) (sym e) ∙ first_after i f

-- What stands in a forest: options, literals that are trees themselves, groups.
pub mentions-⊕ : (v : ℕ) (f g : Forest) → mentions v (f ⊕ g) ≡ (mentions v f || mentions v g)
unfolding mentions ◌⊕◌
mentions-⊕ v nil g = refl
mentions-⊕ v (lit x f) g =
    rw (mentions-⊕ v f g) (sym (or_assoc (eqb v (option x)) (mentions v f) (mentions v g)))
mentions-⊕ v (node c k f) g =
    rw (mentions-⊕ v f g) (sym (or_assoc (mentions v k) (mentions v f) (mentions v g)))

pub mentions_some : (v : ℕ) (f : Forest) → mentions v f ≡ true → 1 ≤ size f
unfolding mentions size
mentions_some v nil e = true_false (sym e)
mentions_some v (lit x f) e = omega arith
mentions_some v (node c k f) e = omega arith

pub unit_here : (l : Literal) (p q : Forest) → has_unit l (p ⊕ lit l q) ≡ true
unfolding has_unit ◌⊕◌
unit_here l nil q = or_left (has_unit l q) (same_self l)
unit_here l (lit x p) q = or_right (same l x) (unit_here l p q)
unit_here l (node c k p) q = unit_here l p q

pub unit_mentions : (l : Literal) (f : Forest) → has_unit l f ≡ true → mentions (option l) f ≡ true
unfolding has_unit mentions
unit_mentions l nil e = e
unit_mentions l (lit x f) e =
    ⊎_elim
    (λ s. or_left (mentions (option l) f) (eq-eqb (option l) (option x) (ap option (same_is l x s))))
    (λ u. or_right (eqb (option l) (option x)) (unit_mentions l f u))
    (or_split (same l x) (has_unit l f) e)
unit_mentions l (node c k f) e = or_right (mentions (option l) k) (unit_mentions l f e)

pub groups_size : (f : Forest) → groups f ≤ size f
unfolding groups size
groups_size nil = omega arith
groups_size (lit x f) = omega (arith, groups_size f)
groups_size (node c k f) = omega (arith, groups_size f)

-- What a literal becomes where another is assigned, by the test for the same literal and for its complement.
pub assigned_lit :
    (P : Forest → Type 0) (c : Conn) (l x : Literal) (f : Forest) →
    (same l x ≡ true → P (node (neutral c) nil (assigned c l f))) →
    (same (complement l) x ≡ true → P (node (deciding c) nil (assigned c l f))) →
    (same l x ≡ false → same (complement l) x ≡ false → P (lit x (assigned c l f))) →
    P (assigned c l (lit x f))
unfolding assigned pick
assigned_lit P c l x f same_one other_one neither = go (same l x) (same (complement l) x) refl refl
  where
    go :
        (a b : Bool) →
        same l x ≡ a →
        same (complement l) x ≡ b →
        P (pick a (node (neutral c) nil (assigned c l f)) (pick b (node (deciding c) nil (assigned c l f)) (lit x (assigned c l f))))
    go true b e o = same_one e
    go false true e o = other_one o
    go false false e o = neither e o

pub size_assigned : (c : Conn) (l : Literal) (f : Forest) → size (assigned c l f) ≡ size f
unfolding size assigned
size_assigned c l nil = refl
size_assigned c l (lit x f) =
    let h = ap suc (size_assigned c l f) in assigned_lit (λ g. size g ≡ suc (size f)) c l x f (λ e. h) (λ e. h) (λ e o. h)
size_assigned c l (node d k f) = ap suc (size_assigned c l f)
