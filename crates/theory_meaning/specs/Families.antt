-- What each family of rules does to evaluation: an equation of values a family, for every connective that it is for.
use Rattle.std.specs.Prelude.{Bool, true, false, ◌&&◌, ◌||◌, List, [], ◌∷◌, ◌++◌, ◌⊎◌, ◌≡◌, refl, ℕ, suc, ◌-◌, ◌≤◌, leb, length}
use Rattle.std.proofs.Math.Bool.{and_assoc, and-true, and-false, or-true, or-false}
use Rattle.std.proofs.Common.{inl, inr, sym, ap, ap₂, ◌∙◌, arith, leb-true, le-leb}
use Rattle.std.proofs.lemmas.Bool.{lt-leb}
use Rattle.model.specs.Base.{pick, all, any}
use Rattle.model.specs.Literal.{Literal, complement, same}
use Rattle.model.specs.Forest.{Conn, and, or, root, at_least, Forest, nil, lit, node, constant, ◌⊕◌, size, has_unit}
use Rattle.model.specs.Code.{conn_kind}
use Rattle.model.specs.Clauses.{need}
use Rattle.model.specs.Rules.{neutral, deciding, assigned, without_unit, shares, units, groups_without}
use Rattle.theory_forms.specs.Logic.{true_false, and_split, or_swap, same_test}
use Rattle.theory_forms.specs.Lists.{all_append, any_append}
use Rattle.theory_forms.specs.Literals.{same_is}
use Rattle.theory_forms.specs.Forests.{grouping, size_zero, assigned_lit}
use Rattle.theory_forms.specs.Ended.{Ended, none_asked, too_many, one_asked, all_asked}
use Rattle.theory_meaning.specs.Evaluation.{Set, count, count_most, fails_all, threshold, fails, values, length_values}
use Rattle.theory_meaning.specs.Values.{length_more, count_more, values-⊕}

-- The deciding constant decides a group whatever stands beside it; a value leaves a group open or decides it.
decides_group :
    (c : Conn) →
    grouping c ≡ true →
    (xs ys : List Bool) →
    fails_all c (xs ++ fails_all (deciding c) [] ∷ ys) ≡ fails_all (deciding c) []
unfolding grouping conn_kind fails_all deciding any all
decides_group and g xs ys = any_append (λ b. b) xs (true ∷ ys) ∙ or-true (any (λ b. b) xs)
decides_group or g xs ys = all_append (λ b. b) xs (false ∷ ys) ∙ and-false (all (λ b. b) xs)
decides_group root g xs ys = any_append (λ b. b) xs (true ∷ ys) ∙ or-true (any (λ b. b) xs)
decides_group (at_least a) g xs ys = true_false (sym g)

open_or_decided : (c : Conn) (x : Bool) → (x ≡ fails_all (neutral c) []) ⊎ (x ≡ fails_all (deciding c) [])
unfolding fails_all neutral deciding any all
open_or_decided and true = inr refl
open_or_decided and false = inl refl
open_or_decided or true = inl refl
open_or_decided or false = inr refl
open_or_decided root true = inr refl
open_or_decided root false = inl refl
open_or_decided (at_least a) true = inl refl
open_or_decided (at_least a) false = inr refl

-- Rules 1, 2, 3: the deciding constant alone has the value of all the children.
pub absorbed_fails :
    (s : Set) (c : Conn) →
    grouping c ≡ true →
    (p q : Forest) →
    fails s c (constant (deciding c)) ≡ fails s c (p ⊕ node (deciding c) nil q)
unfolding fails values
absorbed_fails s c g p q =
    decides_group c g [] []
    ∙ sym (ap (fails_all c) (values-⊕ s p (node (deciding c) nil q)) ∙ decides_group c g (values s p) (values s q))

-- Two thresholds that ask the same: a member that fails, and one fewer needed; a member that does not, and one fewer asked for.
pub leb_same : (a b c d : ℕ) → (a ≤ b → c ≤ d) → (c ≤ d → a ≤ b) → leb a b ≡ leb c d
leb_same a b c d f g =
    same_test (leb a b) (leb c d) (λ e. le-leb c d (f (leb-true a b e))) (λ e. le-leb a b (g (leb-true c d e)))

fewer : (a m n : ℕ) → leb (suc (suc m) - a) (suc n) ≡ leb (suc m - a) n
fewer a m n = leb_same (suc (suc m) - a) (suc n) (suc m - a) n (λ h. omega (arith, h)) (λ h. omega (arith, h))

lower : (a m n : ℕ) → n ≤ m → leb (suc m - (a - 1)) n ≡ leb (suc (suc m) - a) n
lower a m n l = leb_same (suc m - (a - 1)) n (suc (suc m) - a) n (λ h. omega (arith, h)) (λ h. omega (arith, h))

-- Rules 4, 5, 6, and 15 on a false member: the neutral constant adds nothing.
omits_value : (c : Conn) (xs ys : List Bool) → fails_all c (xs ++ fails_all (neutral c) [] ∷ ys) ≡ fails_all c (xs ++ ys)
unfolding fails_all neutral any all need pick
omits_value and xs ys = any_append _ xs (false ∷ ys) ∙ sym (any_append _ xs ys)
omits_value or xs ys = all_append _ xs (true ∷ ys) ∙ sym (all_append _ xs ys)
omits_value root xs ys = any_append _ xs (false ∷ ys) ∙ sym (any_append _ xs ys)
omits_value (at_least a) xs ys =
    rw (length_more xs ys true, count_more xs ys true) (fewer a (length (xs ++ ys)) (count (xs ++ ys)))

pub omitted_fails : (s : Set) (c : Conn) (p q : Forest) → fails s c (p ⊕ q) ≡ fails s c (p ⊕ node (neutral c) nil q)
unfolding fails values
omitted_fails s c p q =
    ap (fails_all c) (values-⊕ s p q)
    ∙ sym (ap (fails_all c) (values-⊕ s p (node (neutral c) nil q)) ∙ omits_value c (values s p) (values s q))

-- Rules 7, 8: a group with one child has that child's value.
one_value : (c : Conn) → grouping c ≡ true → (b : Bool) → fails_all c (b ∷ []) ≡ b
unfolding grouping conn_kind fails_all any all
one_value and g b = or-false b
one_value or g b = and-true b
one_value root g b = or-false b
one_value (at_least a) g b = true_false (sym g)

pub unwrapped_values : (s : Set) (c : Conn) → grouping c ≡ true → (k : Forest) → size k ≡ 1 → values s k ≡ fails s c k ∷ []
unfolding size fails values
unwrapped_values s c g nil e = absurd (omega arith)
unwrapped_values s c g (lit l f) e = rw (size_zero f (omega arith)) (ap (λ b. b ∷ []) (sym (one_value c g (s l))))
unwrapped_values s c g (node d k f) e =
    rw (size_zero f (omega arith)) (ap (λ b. b ∷ []) (sym (one_value c g (fails_all d (values s k)))))

-- Rules 9, 10. Where the constants have the values of the literals that they stand for, nothing changes.
assigned_values :
    (s : Set) (c : Conn) (l : Literal) →
    s l ≡ fails_all (neutral c) [] →
    s (complement l) ≡ fails_all (deciding c) [] →
    (f : Forest) →
    values s (assigned c l f) ≡ values s f
unfolding values assigned
assigned_values s c l e h nil = refl
assigned_values s c l e h (lit x f) =
    let r = assigned_values s c l e h f in
    assigned_lit (λ g. values s g ≡ s x ∷ values s f) c l x f
    (λ p. ap₂ ◌∷◌ (sym e ∙ ap s (same_is l x p)) r)
    (λ p. ap₂ ◌∷◌ (sym h ∙ ap s (same_is (complement l) x p)) r)
    (λ p q. ap (λ bs. s x ∷ bs) r)
assigned_values s c l e h (node b k f) =
    ap₂ (λ bs cs. fails_all b bs ∷ cs) (assigned_values s c l e h k) (assigned_values s c l e h f)

-- Where the literal, as a child, would leave a node of this connective open, its complement would decide it.
abbrev pub Opposed : Set → Conn → Literal → Type 0
Opposed s c l = s l ≡ fails_all (neutral c) [] → s (complement l) ≡ fails_all (deciding c) []

pub spread_fails :
    (s : Set) (c : Conn) →
    grouping c ≡ true →
    (l : Literal) (p q : Forest) →
    Opposed s c l →
    fails s c (assigned c l p ⊕ lit l (assigned c l q)) ≡ fails s c (p ⊕ lit l q)
unfolding fails values
spread_fails s c g l p q h =
    ap (fails_all c) (values-⊕ s (assigned c l p) (lit l (assigned c l q))) ∙ go (open_or_decided c (s l)) ∙ sym (ap (fails_all c) (values-⊕ s p (lit l q)))
  where
    go :
        (s l ≡ fails_all (neutral c) []) ⊎ (s l ≡ fails_all (deciding c) []) →
        fails_all c (values s (assigned c l p) ++ s l ∷ values s (assigned c l q)) ≡ fails_all c (values s p ++ s l ∷ values s q)
    go (inl e) = ap₂ (λ xs ys. fails_all c (xs ++ s l ∷ ys)) (assigned_values s c l e (h e) p) (assigned_values s c l e (h e) q)
    go (inr e) = rw e (decides_group c g (values s (assigned c l p)) (values s (assigned c l q)) ∙ sym (decides_group c g (values s p) (values s q)))

-- What some child makes fail: a conjunction or the root.
pub some_child : (c : Conn) → grouping c ≡ true → (c ≡ or → ⊥) → (bs : List Bool) → fails_all c bs ≡ any (λ b. b) bs
unfolding grouping conn_kind fails_all
some_child and g h bs = refl
some_child or g h bs = absurd (h refl)
some_child root g h bs = refl
some_child (at_least a) g h bs = true_false (sym g)

-- Rules 11, 12: where the node is no disjunction, a literal may leave a conjunction among the children. Rule 13 likewise.
pub lifted_fails :
    (s : Set) (c : Conn) →
    grouping c ≡ true →
    (l : Literal) (p a b q : Forest) →
    (c ≡ or → ⊥) →
    fails s c (p ⊕ lit l (node and (a ⊕ b) q)) ≡ fails s c (p ⊕ node and (a ⊕ lit l b) q)
unfolding fails fails_all values any
lifted_fails s c g l p a b q h =
    simp (some_child c g h, values-⊕, any_append)
    (ap (λ x. any (λ b. b) (values s p) || x) (or_regroup (s l) (any (λ b. b) (values s a)) (any (λ b. b) (values s b)) (any (λ b. b) (values s q))))
  where
    or_regroup : (x y z w : Bool) → (x || ((y || z) || w)) ≡ ((y || (x || z)) || w)
    or_regroup x true z w = or_swap x true w
    or_regroup true false z w = refl
    or_regroup false false z w = refl

pub merged_fails : (s : Set) (p a q : Forest) → fails s and (p ⊕ a ⊕ q) ≡ fails s and (p ⊕ node and a q)
unfolding fails fails_all values any
merged_fails s p a q = simp (values-⊕, any_append)

-- Rule 14. A conjunction that has the literal a among its children fails where a fails or the conjunction without it does; a
-- disjunction of literals and such conjunctions fails where the literals do, and a or the disjunction of the rest.
pulled_out : (s : Set) (a : Literal) (k : Forest) → has_unit a k ≡ true → fails s and k ≡ (s a || fails s and (without_unit a k))
unfolding has_unit without_unit pick fails fails_all values any
pulled_out s a nil e = true_false (sym e)
pulled_out s a (lit x f) e = go (same a x) refl e (pulled_out s a f)
  where
    go :
        (b : Bool) →
        same a x ≡ b →
        (b || has_unit a f) ≡ true →
        (has_unit a f ≡ true → fails s and f ≡ (s a || fails s and (without_unit a f))) →
        (s x || fails s and f) ≡ (s a || fails s and (pick b f (lit x (without_unit a f))))
    go true p h r = ap (λ y. s y || fails s and f) (sym (same_is a x p))
    go false p h r = ap (λ b. s x || b) (r h) ∙ or_swap (s x) (s a) (fails s and (without_unit a f))
pulled_out s a (node c k f) e =
    ap (λ b. fails s c k || b) (pulled_out s a f e) ∙ or_swap (fails s c k) (s a) (fails s and (without_unit a f))

shared_fails :
    (s : Set) (a : Literal) (k : Forest) →
    shares a k ≡ true →
    (fails s or (units k) && (s a || fails s or (groups_without a k))) ≡ fails s or k
unfolding shares units groups_without fails fails_all values any all
shared_fails s a nil e = or-true (s a)
shared_fails s a (lit x f) e =
    and_assoc (s x) (fails s or (units f)) _ ∙ ap (λ b. s x && b) (shared_fails s a f e)
shared_fails s a (node and k f) e =
    let h = and_split (has_unit a k) (shares a f) e in
    go (s a) (fails s and (without_unit a k)) (fails s or (units f)) (fails s or (groups_without a f))
    ∙ ap₂ (λ x y. x && y) (sym (pulled_out s a k h.0)) (shared_fails s a f h.1)
  where
    go : (x w u g : Bool) → (u && (x || (w && g))) ≡ ((x || w) && (u && (x || g)))
    go true w u g = refl
    go false true u g = refl
    go false false true g = refl
    go false false false g = refl
shared_fails s a (node or k f) e = true_false (sym e)
shared_fails s a (node root k f) e = true_false (sym e)
shared_fails s a (node (at_least b) k f) e = true_false (sym e)

pub factored_fails :
    (s : Set) (a : Literal) (k : Forest) →
    shares a k ≡ true →
    fails s or (units k ⊕ node and (lit a (node or (groups_without a k) nil)) nil) ≡ fails s or k
unfolding fails fails_all values any all
factored_fails s a k e =
    ap (all (λ b. b)) (values-⊕ s (units k) (node and (lit a (node or (groups_without a k) nil)) nil))
    ∙ all_append (λ b. b) (values s (units k)) _
    ∙ simp (and-true, or-false) (shared_fails s a k e)

-- Rule 15 on a true member: one fewer is asked of the others.
pub lowered_fails : (s : Set) (a : ℕ) (p q : Forest) → fails s (at_least (a - 1)) (p ⊕ q) ≡ fails s (at_least a) (p ⊕ node and nil q)
unfolding fails fails_all values any need pick
lowered_fails s a p q =
    let xs = values s p in
    let ys = values s q in
    rw (values-⊕ s p q, values-⊕ s p (node and nil q), length_more xs ys false, count_more xs ys false)
    (lower a (length (xs ++ ys)) (count (xs ++ ys)) (count_most (xs ++ ys)))

-- Rule 16: none of the members asked for is true, more than there are is false. Rule 17: one is an any-of, all are an all-of.
ends :
    (s : Set) (a : ℕ) (k : Forest) {d : Conn} {m : Forest} →
    Ended a k d m →
    leb (need d (length (values s m))) (count (values s m)) ≡ leb (need (at_least a) (length (values s k))) (count (values s k))
unfolding need values count
ends s a k (none_asked e) =
    sym (lt-leb (suc (length (values s k)) - a) (count (values s k)) (omega (arith, count_most (values s k))))
ends s a k (too_many e) = sym (le-leb (suc (length (values s k)) - a) (count (values s k)) (omega (arith, length_values s k)))
ends s a k (one_asked e) = ap (λ r. leb r (count (values s k))) (omega arith)
ends s a k (all_asked e) = ap (λ r. leb r (count (values s k))) (omega (arith, length_values s k))

pub ended_fails : (s : Set) (a : ℕ) (k : Forest) {d : Conn} {m : Forest} → Ended a k d m → fails s d m ≡ fails s (at_least a) k
unfolding fails
ended_fails s a k {d} {m} e =
    threshold d (values s m) ∙ ends s a k e ∙ sym (threshold (at_least a) (values s k))
