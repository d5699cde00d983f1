-- Evaluation: which trees fail under a set of failed literals, and the bridge from the multiplied-out clauses to it.
use Rattle.std.specs.Prelude.{Bool, true, false, ◌&&◌, ◌||◌, List, [], ◌∷◌, ◌++◌, map, ◌≡◌, refl, ℕ, zero, suc, ◌≤◌, ◌-◌, eqb, leb, length}
use Rattle.std.proofs.Math.Bool.{and-false, and-true, or-false, and-or_distrib_left, and-or_distrib_right}
use Rattle.std.proofs.Common.{⊎_elim, sym, ap, ap₂, ◌∙◌, arith, leb-true, le-leb}
use Rattle.std.proofs.lemmas.Bool.{lt-leb}
use Rattle.std.proofs.Math.Dec.{leb-zero, leb-suc-zero, leb-suc-suc}
use Rattle.model.specs.Base.{pick, all, any}
use Rattle.model.specs.Literal.{Literal, pos, neg, same}
use Rattle.model.specs.Forest.{Conn, and, or, root, at_least, Forest, nil, lit, node, size}
use Rattle.model.specs.Clauses.{Clause, unions, need, no_tree, one_tree_more, some_of, clauses}
use Rattle.theory_forms.specs.Logic.{same_test, or_split, or_left}
use Rattle.theory_forms.specs.Lists.{all_append, any_append}

-- A set of literals, by its test. A literal and its complement are independent here.
abbrev pub Set : Type 0
Set = Literal → Bool

-- How many of the values say that a tree fails.
unfoldable pub count : List Bool → ℕ
count [] = 0
count (b ∷ bs) = pick b (suc (count bs)) (count bs)

-- Whether a node fails whose children have these values: a conjunction or the root iff some child fails; a disjunction iff all
-- do; at least a of them iff fewer than a are left that do not.
unfoldable pub fails_all : Conn → List Bool → Bool
fails_all and bs = any (λ b. b) bs
fails_all or bs = all (λ b. b) bs
fails_all root bs = any (λ b. b) bs
fails_all (at_least a) bs = leb (need (at_least a) (length bs)) (count bs)

-- The values of the trees of a forest, in order: whether each fails. A literal fails iff it is in the set.
unfoldable pub values : Set → Forest → List Bool
values s nil = []
values s (lit l f) = s l ∷ values s f
values s (node d k f) = fails_all d (values s k) ∷ values s f

unfoldable pub fails : Set → Conn → Forest → Bool
fails s c f = fails_all c (values s f)

pub length_values : (s : Set) (f : Forest) → length (values s f) ≡ size f
unfolding values size
length_values s nil = refl
length_values s (lit l f) = ap suc (length_values s f)
length_values s (node d k f) = ap suc (length_values s f)

pub count_most : (bs : List Bool) → count bs ≤ length bs
unfolding count pick
count_most [] = omega arith
count_most (true ∷ bs) = omega (arith, count_most bs)
count_most (false ∷ bs) = omega (arith, count_most bs)

-- One law for every connective: a node fails exactly where at least so many of its children fail as it needs.
some_fail : (bs : List Bool) → any (λ b. b) bs ≡ leb 1 (count bs)
unfolding any count pick
some_fail [] = refl
some_fail (true ∷ bs) = sym (le-leb 1 (suc (count bs)) (omega arith))
some_fail (false ∷ bs) = some_fail bs

all_fail : (bs : List Bool) → all (λ b. b) bs ≡ leb (length bs) (count bs)
unfolding all count pick
all_fail [] = refl
all_fail (true ∷ bs) = all_fail bs ∙ sym (leb-suc-suc (length bs) (count bs))
all_fail (false ∷ bs) = sym (lt-leb (suc (length bs)) (count bs) (omega (arith, count_most bs)))

pub threshold : (c : Conn) (bs : List Bool) → fails_all c bs ≡ leb (need c (length bs)) (count bs)
unfolding fails_all need
threshold and bs = some_fail bs
threshold or bs = all_fail bs
threshold root bs = some_fail bs
threshold (at_least a) bs = refl

-- Some clause lies inside the set.
unfoldable pub some_inside : Set → List Clause → Bool
some_inside s cs = any (all s) cs

unions_one : (s : Set) (c : Clause) (ds : List Clause) → any (all s) (map (λ d. c ++ d) ds) ≡ (all s c && any (all s) ds)
unfolding any
unions_one s c [] = sym (and-false (all s c))
unions_one s c (d ∷ ds) =
    ap₂ ◌||◌ (all_append s c d) (unions_one s c ds) ∙ sym (and-or_distrib_left (all s c) (all s d) (any (all s) ds))

unions_inside : (s : Set) (cs ds : List Clause) → any (all s) (unions cs ds) ≡ (any (all s) cs && any (all s) ds)
unfolding any unions
unions_inside s [] ds = refl
unions_inside s (c ∷ cs) ds =
    any_append (all s) (map (λ d. c ++ d) ds) (unions cs ds)
    ∙ ap₂ ◌||◌ (unions_one s c ds) (unions_inside s cs ds)
    ∙ sym (and-or_distrib_right (all s c) (any (all s) cs) (any (all s) ds))

unit_inside : (s : Set) (l : Literal) → some_inside s ((l ∷ []) ∷ []) ≡ s l
unfolding some_inside any all
unit_inside s l = or-false (s l && true) ∙ and-true (s l)

-- Of a tree and n that fail among the later ones, r + 1 fail: the tree and r of those, or r + 1 of those.
one_more : (b : Bool) (r n : ℕ) → ((b && leb r n) || leb (suc r) n) ≡ leb (suc r) (pick b (suc n) n)
unfolding pick
one_more true r n =
    same_test (leb r n || leb (suc r) n) (leb (suc r) (suc n))
    (λ e. le-leb (suc r) (suc n) (⊎_elim (λ p. omega (arith, leb-true r n p)) (λ p. omega (arith, leb-true (suc r) n p)) (or_split (leb r n) _ e)))
    (λ e. or_left _ (le-leb r n (omega (arith, leb-true (suc r) (suc n) e))))
one_more false r n = refl

more_inside :
    (s : Set) (cs : List Clause) (later : ℕ → List Clause) (b : Bool) (n : ℕ) →
    some_inside s cs ≡ b →
    ((r : ℕ) → some_inside s (later r) ≡ leb r n) →
    (r : ℕ) →
    some_inside s (one_tree_more cs later r) ≡ leb r (pick b (suc n) n)
unfolding some_inside one_tree_more any all
more_inside s cs later b n e h zero = sym (leb-zero (pick b (suc n) n))
more_inside s cs later b n e h (suc r) =
    any_append (all s) (unions cs (later r)) (later (suc r))
    ∙ ap₂ ◌||◌ (unions_inside s cs (later r) ∙ ap₂ ◌&&◌ e (h r)) (h (suc r))
    ∙ one_more b r n

fails_of : (s : Set) (c : Conn) (f : Forest) {b : Bool} → b ≡ leb (need c (size f)) (count (values s f)) → b ≡ fails_all c (values s f)
fails_of s c f e =
    e ∙ ap (λ m. leb (need c m) (count (values s f))) (sym (length_values s f)) ∙ sym (threshold c (values s f))

-- A clause of some r of the trees lies inside the set exactly where r of them fail under it.
some_of_inside : (s : Set) (f : Forest) (r : ℕ) → some_inside s (some_of f r) ≡ leb r (count (values s f))
unfolding some_of no_tree some_inside any all values count
some_of_inside s nil zero = refl
some_of_inside s nil (suc r) = sym (leb-suc-zero r)
some_of_inside s (lit l f) r = more_inside s ((l ∷ []) ∷ []) (some_of f) (s l) (count (values s f)) (unit_inside s l) (some_of_inside s f) r
some_of_inside s (node d k f) r =
    more_inside s (some_of k (need d (size k))) (some_of f) (fails_all d (values s k)) (count (values s f)) (fails_of s d k (some_of_inside s k (need d (size k)))) (some_of_inside s f) r

-- The bridge: some clause lies inside the set exactly where the tree fails under it.
pub bridge : (s : Set) (c : Conn) (f : Forest) → some_inside s (clauses c f) ≡ fails s c f
unfolding clauses fails
bridge s c f = fails_of s c f (some_of_inside s f (need c (size f)))

-- A valuation: 0, 1 or 2 for each option; a barred option has 2 less that.
pub record Valuation : Type 0 where
  pub at_option : ℕ → ℕ
  pub small : (v : ℕ) → at_option v ≤ 2

unfoldable pub value_of : Valuation → Literal → ℕ
value_of u (pos v) = u.at_option v
value_of u (neg v) = 2 - u.at_option v

-- The literals of value 0; and one literal more.
unfoldable pub zeros : Valuation → Set
zeros u l = eqb (value_of u l) 0

unfoldable pub with_one : Set → Literal → Set
with_one s m l = s l || same l m

-- What a valuation asks of a tree, in terms of evaluation.
abbrev pub Holds : Valuation → Conn → Forest → Type 0
Holds u c f =
    (fails (zeros u) c f ≡ false) × ((m : Literal) → value_of u m ≡ 1 → fails (with_one (zeros u) m) c f ≡ false)
