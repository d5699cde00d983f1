-- Nodes as numbers: the two forms carry the same, for numbers of kind 1 to 6 and for nodes whose value is below 4,096.
use Rattle.std.specs.Prelude.{Bool, true, false, ◌&&◌, ◌||◌, List, map, ◌≡◌, refl, ℕ, zero, suc, ◌+◌, ◌*◌, ◌/◌, ◌%◌, ◌≤◌, ◌<◌, eqb, leb, ltb}
use Rattle.std.proofs.Common.{⊎_elim, sym, ap, ◌∙◌, div-add-mod', mod-lt, arith, eqb-true, leb-true, le-leb, lt-ltb, ltb-true}
use Rattle.model.specs.Base.{pick, all}
use Rattle.model.specs.Limits.{kind_factor, least_factor}
use Rattle.model.specs.Literal.{pos, neg, option}
use Rattle.model.specs.Forest.{Conn, and, or, root, at_least, same_conn}
use Rattle.model.specs.Code.{Node, leaf, head, kind, value, number, conn_kind, conn_value, children, number_of, node_of}
use Rattle.model.specs.Sheet.{body_node}
use Rattle.theory_forms.specs.Logic.{true_false, and_split, and_join, or_split, pick_keeps}
use Rattle.theory_forms.specs.Lists.{all_weaken, all_map}
use Rattle.theory_forms.specs.Forests.{grouping}

-- The value of a node: its option, or what its connective makes of the number of its children.
unfoldable pub amount : Node → ℕ
amount (leaf l) = option l
amount (head c k) = conn_value c k

-- The node has a number.
unfoldable pub fits_under : Conn → ℕ → Bool
fits_under and m = ltb m kind_factor
fits_under or m = ltb m kind_factor
fits_under root m = ltb m kind_factor
fits_under (at_least a) m = ltb a least_factor && ltb m least_factor

unfoldable pub fits : Node → Bool
fits (leaf l) = ltb (option l) kind_factor
fits (head c m) = fits_under c m

-- A node that may stand below the root, among n options.
unfoldable pub inner : Conn → ℕ → Bool
inner and m = true
inner or m = true
inner root m = false
inner (at_least a) m = ltb a least_factor && ltb m least_factor

unfoldable pub plain : ℕ → Node → Bool
plain n (leaf l) = ltb (option l) n
plain n (head c m) = inner c m

pub inner_not_root : (c : Conn) (m : ℕ) → inner c m ≡ true → same_conn root c ≡ false
unfolding inner same_conn
inner_not_root and m h = refl
inner_not_root or m h = refl
inner_not_root root m h = sym h
inner_not_root (at_least a) m h = refl

-- The number is one of a node.
unfoldable pub known : ℕ → Bool
known x = leb 1 (kind x) && leb (kind x) 6

pub kind_number : (k v : ℕ) → ltb v kind_factor ≡ true → kind (number k v) ≡ k
unfolding kind number
kind_number k v h = let small = ltb-true v kind_factor h in omega arith

pub value_number : (k v : ℕ) → ltb v kind_factor ≡ true → value (number k v) ≡ v
unfolding value number
value_number k v h = let small = ltb-true v kind_factor h in omega arith

pub value_small : (x : ℕ) → value x < kind_factor
unfolding value
value_small x = mod-lt x (omega arith)

pub children_small : (x : ℕ) → children x < kind_factor
unfolding children
children_small x = let v = value_small x in pick_keeps (λ k. k < kind_factor) (eqb (kind x) 6) (omega arith) v

pub number_parts : (x : ℕ) → number (kind x) (value x) ≡ x
unfolding kind value number
number_parts x = div-add-mod' x kind_factor

-- The value of a node that has a number is below 4,096, and that of kind 6 carries both its numbers.
pub fits_amount : (y : Node) → fits y ≡ true → ltb (amount y) kind_factor ≡ true
unfolding fits fits_under amount conn_value
fits_amount (leaf l) h = h
fits_amount (head and m) h = h
fits_amount (head or m) h = h
fits_amount (head root m) h = h
fits_amount (head (at_least a) m) h =
    let s = and_split (ltb a least_factor) (ltb m least_factor) h in
    lt-ltb (m * least_factor + a) kind_factor (omega (arith, ltb-true a least_factor s.0, ltb-true m least_factor s.1))

two_numbers :
    (a m : ℕ) →
    ltb a least_factor ≡ true →
    ((m * least_factor + a) % least_factor ≡ a) × ((m * least_factor + a) / least_factor ≡ m)
two_numbers a m h = let small = ltb-true a least_factor h in (omega arith, omega arith)

-- The number of a node with children, and what it says of the node; those of document 01 first.
pub group_value : (c : Conn) (m : ℕ) → grouping c ≡ true → conn_value c m ≡ m
unfolding grouping conn_kind conn_value
group_value and m g = refl
group_value or m g = refl
group_value root m g = refl
group_value (at_least a) m g = true_false (sym g)

pub head_number : (c : Conn) (m : ℕ) → grouping c ≡ true → number_of (head c m) ≡ number (conn_kind c) m
unfolding number_of
head_number c m g = ap (number (conn_kind c)) (group_value c m g)

pub fits_head : (c : Conn) (m : ℕ) → inner c m ≡ true → m < kind_factor → fits (head c m) ≡ true
unfolding fits fits_under inner
fits_head and m i h = lt-ltb m kind_factor h
fits_head or m i h = lt-ltb m kind_factor h
fits_head root m i h = true_false (sym i)
fits_head (at_least a) m i h = i

pub fits_root : (m : ℕ) → m < kind_factor → fits (head root m) ≡ true
unfolding fits fits_under
fits_root m h = lt-ltb m kind_factor h

pub head_few : (c : Conn) (m : ℕ) → fits (head c m) ≡ true → m < kind_factor
unfolding fits fits_under
head_few and m h = ltb-true m kind_factor h
head_few or m h = ltb-true m kind_factor h
head_few root m h = ltb-true m kind_factor h
head_few (at_least a) m h = omega (arith, ltb-true m least_factor (and_split (ltb a least_factor) _ h).1)

module _ (c : Conn) (m : ℕ) (h : fits (head c m) ≡ true) where
  pub head_kind : kind (number_of (head c m)) ≡ conn_kind c
  unfolding number_of amount
  head_kind = kind_number (conn_kind c) (conn_value c m) (fits_amount (head c m) h)

  pub head_value : value (number_of (head c m)) ≡ conn_value c m
  unfolding number_of amount
  head_value = value_number (conn_kind c) (conn_value c m) (fits_amount (head c m) h)

pub head_children : (c : Conn) (m : ℕ) → fits (head c m) ≡ true → children (number_of (head c m)) ≡ m
unfolding children pick conn_kind conn_value fits fits_under
head_children and m h = rw (head_kind and m h) (head_value and m h)
head_children or m h = rw (head_kind or m h) (head_value or m h)
head_children root m h = rw (head_kind root m h) (head_value root m h)
head_children (at_least a) m h =
    rw (head_kind (at_least a) m h, head_value (at_least a) m h)
    (two_numbers a m (and_split (ltb a least_factor) _ h).0).1

-- A node is the node of its number.
pub node_number : (y : Node) → fits y ≡ true → node_of (number_of y) ≡ y
unfolding node_of number_of conn_kind conn_value children pick fits fits_under amount option
node_number (leaf (pos v)) h = rw (kind_number, value_number)
node_number (leaf (neg v)) h = rw (kind_number, value_number)
node_number (head and k) h = rw (kind_number, value_number)
node_number (head or k) h = rw (kind_number, value_number)
node_number (head root k) h = rw (kind_number, value_number)
node_number (head (at_least a) k) h =
    let small = fits_amount (head (at_least a) k) h in
    let both = two_numbers a k (and_split (ltb a least_factor) _ h).0 in
    let v = k * least_factor + a in
    rw (kind_number 6 v small, value_number 6 v small, both.0, both.1)

-- Its number passes the test of bodies where the node may stand below the root.
pub body_number : (n : ℕ) (y : Node) → fits y ≡ true → body_node n (number_of y) ≡ plain n y
unfolding body_node number_of conn_kind conn_value pick fits fits_under amount option plain inner
body_number n (leaf (pos v)) h = rw (kind_number, value_number)
body_number n (leaf (neg v)) h = rw (kind_number, value_number)
body_number n (head and k) h = rw kind_number
body_number n (head or k) h = rw kind_number
body_number n (head root k) h = rw kind_number
body_number n (head (at_least a) k) h =
    rw (kind_number 6 (k * least_factor + a) (fits_amount (head (at_least a) k) h)) (sym h)

-- A number is the number of its node.
pub number_node : (x : ℕ) → known x ≡ true → number_of (node_of x) ≡ x
unfolding known node_of number_of conn_kind conn_value children pick
number_node x h =
    let s = and_split (leb 1 (kind x)) _ h in
    go (kind x) refl (leb-true 1 (kind x) s.0) (leb-true (kind x) 6 s.1)
  where
    parts : (k : ℕ) → kind x ≡ k → number k (value x) ≡ x
    parts k e = ap (λ m. number m (value x)) (sym e) ∙ number_parts x

    go : (k : ℕ) → kind x ≡ k → 1 ≤ k → k ≤ 6 → number_of (node_of x) ≡ x
    go zero e l m = absurd (omega arith)
    go (suc zero) e l m = rw e (parts 1 e)
    go (suc (suc zero)) e l m = rw e (parts 2 e)
    go (suc (suc (suc zero))) e l m = rw e (parts 3 e)
    go (suc (suc (suc (suc zero)))) e l m = rw e (parts 4 e)
    go (suc (suc (suc (suc (suc zero))))) e l m = rw e (parts 5 e)
    go (suc (suc (suc (suc (suc (suc zero)))))) e l m =
        rw e (ap (number 6) (div-add-mod' (value x) least_factor) ∙ parts 6 e)
    go (suc (suc (suc (suc (suc (suc (suc k))))))) e l m = absurd (omega arith)

-- The node of a number has a number.
fits_last :
    (x : ℕ) →
    fits (pick (eqb (kind x) 6) (head (at_least (value x % least_factor)) (children x)) (head root (children x))) ≡ true
unfolding pick fits fits_under children
fits_last x = go (eqb (kind x) 6) refl
  where
    go :
        (b : Bool) →
        eqb (kind x) 6 ≡ b →
        fits (pick b (head (at_least (value x % least_factor)) (children x)) (head root (children x))) ≡ true
    go true e =
        let v = value_small x in
        rw e
        (and_join
        (lt-ltb (value x % least_factor) least_factor (mod-lt (value x) (omega arith)))
        (lt-ltb (value x / least_factor) least_factor (omega arith)))
    go false e = lt-ltb (children x) kind_factor (children_small x)

pub fits_node : (x : ℕ) → fits (node_of x) ≡ true
unfolding node_of fits fits_under option
fits_node x =
    let small = lt-ltb (value x) kind_factor (value_small x) in
    let few = lt-ltb (children x) kind_factor (children_small x) in
    pick_keeps P _ small (pick_keeps P _ small (pick_keeps P _ few (pick_keeps P _ few (fits_last x))))
  where
    P : Node → Type 0
    P y = fits y ≡ true

-- The test of bodies, on a number: it is one of a node, which may stand below the root.
pub known_body : (n x : ℕ) → body_node n x ≡ true → known x ≡ true
unfolding body_node known pick
known_body n x h = go (eqb (kind x) 1 || eqb (kind x) 2) refl h
  where
    of_two : (a : ℕ) → (eqb (kind x) a || eqb (kind x) (suc a)) ≡ true → (a ≤ kind x) × (kind x ≤ suc a)
    of_two a e =
        ⊎_elim
        (λ q. let i = eqb-true (kind x) a q in (omega arith, omega arith))
        (λ q. let i = eqb-true (kind x) (suc a) q in (omega arith, omega arith))
        (or_split (eqb (kind x) a) _ e)

    within : 1 ≤ kind x → kind x ≤ 6 → known x ≡ true
    within l m = and_join (le-leb 1 (kind x) l) (le-leb (kind x) 6 m)

    go :
        (b : Bool) →
        (eqb (kind x) 1 || eqb (kind x) 2) ≡ b →
        pick b (ltb (value x) n) (eqb (kind x) 3 || eqb (kind x) 4 || eqb (kind x) 6) ≡ true →
        known x ≡ true
    go true e t = let r = of_two 1 e in within (omega arith) (omega arith)
    go false e t =
        ⊎_elim
        (λ q. let r = of_two 3 q in within (omega arith) (omega arith))
        (λ q. let r = eqb-true (kind x) 6 q in within (omega arith) (omega arith))
        (or_split (eqb (kind x) 3 || eqb (kind x) 4) _ t)

pub plain_node : (n x : ℕ) → known x ≡ true → plain n (node_of x) ≡ body_node n x
plain_node n x h = sym (body_number n (node_of x) (fits_node x)) ∙ ap (body_node n) (number_node x h)

pub plain_nodes : (n : ℕ) (xs : List ℕ) → all (body_node n) xs ≡ true → all (plain n) (map node_of xs) ≡ true
plain_nodes n xs h =
    all_map node_of (plain n) xs ∙ all_weaken (body_node n) _ (λ x b. plain_node n x (known_body n x b) ∙ b) xs h
