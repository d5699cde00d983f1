-- The seventeen rules. Each family of rules is one definition for every connective.
use Rattle.std.specs.Prelude.{Bool, true, false, ◌&&◌, ◌||◌, not, List, [], ◌∷◌, ◌++◌, ◌≡◌, ℕ, zero, suc, ◌-◌, eqb, leb, ltb, take, drop}
use Rattle.std.proofs.Math.Option.{Option, none, some}
use Rattle.std.proofs.Math.ListN.{get_elem?}
use Rattle.model.specs.Base.{pick, only_if, first_of, is_some, then}
use Rattle.model.specs.Literal.{Literal, complement, option, same}
use Rattle.model.specs.Forest.{Conn, and, or, root, at_least, Forest, nil, lit, node, constant, ◌⊕◌, size, first, after}
use Rattle.model.specs.Forest.{literal_at, conjunction_at, constant_at, literals_only, has_unit, mentions}
use Rattle.model.specs.Code.{Node, encode, decode, conn_kind}

-- The connective whose empty group adds nothing among a node's children, and the one whose empty group decides it, or one of
-- those asked for.
unfoldable pub neutral : Conn → Conn
neutral and = and
neutral or = or
neutral root = and
neutral (at_least a) = or

unfoldable pub deciding : Conn → Conn
deciding and = or
deciding or = and
deciding root = or
deciding (at_least a) = and

-- Everywhere in the trees: the literal becomes the neutral constant, its complement the deciding one.
unfoldable pub assigned : Conn → Literal → Forest → Forest
assigned c l nil = nil
assigned c l (lit x f) =
    pick (same l x)
    (node (neutral c) nil (assigned c l f))
    (pick (same (complement l) x) (node (deciding c) nil (assigned c l f)) (lit x (assigned c l f)))
assigned c l (node d k f) = node d (assigned c l k) (assigned c l f)

-- The trees without the first copy of a literal among them.
unfoldable pub without_unit : Literal → Forest → Forest
without_unit a nil = nil
without_unit a (lit x f) = pick (same a x) f (lit x (without_unit a f))
without_unit a (node c k f) = node c k (without_unit a f)

-- "Every child a mark or an all-of having mark a among its children."
unfoldable pub shares : Literal → Forest → Bool
shares a nil = true
shares a (lit x f) = shares a f
shares a (node and k f) = has_unit a k && shares a f
shares a (node or k f) = false
shares a (node root k f) = false
shares a (node (at_least b) k f) = false

-- The literals among the trees; the nodes among them, each without its first a; the number of those.
unfoldable pub units : Forest → Forest
units nil = nil
units (lit x f) = lit x (units f)
units (node c k f) = units f

unfoldable pub groups_without : Literal → Forest → Forest
groups_without a nil = nil
groups_without a (lit x f) = groups_without a f
groups_without a (node c k f) = node c (without_unit a k) (groups_without a f)

unfoldable pub groups : Forest → ℕ
groups nil = zero
groups (lit x f) = groups f
groups (node c k f) = suc (groups f)

-- Rules 1, 2, 3. "Child i false [2: true]: only that child stays."
unfoldable pub absorb : Conn → ℕ → ℕ → Forest → Option Forest
absorb c i j ks =
    only_if (eqb j 0 && constant_at (deciding c) (after i ks)) (node c (constant (deciding c)) nil)

-- Rules 4, 5, 6. "Child i true [5: false]: the child goes."
unfoldable pub omit : Conn → ℕ → ℕ → Forest → Option Forest
omit c i j ks =
    only_if (eqb j 0 && constant_at (neutral c) (after i ks)) (node c (first i ks ⊕ after (suc i) ks) nil)

-- Rules 7, 8. "k = 1: the child replaces it."
unfoldable pub unwrap : Conn → ℕ → ℕ → Forest → Option Forest
unwrap c i j ks = only_if (eqb i 0 && eqb j 0 && eqb (size ks) 1) ks

-- Rules 9, 10. "Child i a mark whose option occurs in another child: in the others the same mark becomes false [10: true],
-- its opposite true [10: false]."
unfoldable pub spread : Conn → ℕ → ℕ → Forest → Option Forest
spread c i j ks =
    then
    (literal_at (after i ks))
    (λ l. only_if
    (eqb j 0 && (mentions (option l) (first i ks) || mentions (option l) (after (suc i) ks)))
    (node c (assigned c l (first i ks) ⊕ lit l (assigned c l (after (suc i) ks))) nil))

-- Rules 11, 12. "Child i an all-of whose child j is a mark: that mark moves to just before child i."
unfoldable pub lift : Conn → ℕ → ℕ → Forest → Option Forest
lift c i j ks =
    then
    (conjunction_at (after i ks))
    (λ inner. then
    (literal_at (after j inner))
    (λ l. some (node c (first i ks ⊕ lit l (node and (first j inner ⊕ after (suc j) inner) (after (suc i) ks))) nil)))

-- Rule 13. "Child i an all-of, all other children marks: child i's children replace it."
unfoldable pub merge : Conn → ℕ → ℕ → Forest → Option Forest
merge c i j ks =
    then
    (conjunction_at (after i ks))
    (λ inner. only_if
    (eqb j 0 && literals_only (first i ks) && literals_only (after (suc i) ks))
    (node c (first i ks ⊕ inner ⊕ after (suc i) ks) nil))

-- Rule 14. "Every child a mark or an all-of having mark a among its children, at least two all-ofs; i is the first all-of, j
-- the index of the first a in it. Result: the marks, then all-of(a, any-of(the all-ofs, each without its first a))."
unfoldable pub factor : Conn → ℕ → ℕ → Forest → Option Forest
factor c i j ks =
    then
    (conjunction_at (after i ks))
    (λ inner. then
    (literal_at (after j inner))
    (λ a. only_if
    (literals_only (first i ks) && not (has_unit a (first j inner)) && shares a ks && leb 2 (groups ks))
    (node c (units ks ⊕ node and (lit a (node or (groups_without a ks) nil)) nil) nil)))

-- Rule 15. "Removes member i that is true (k less one, not below 0) or false": the false one as rules 4 to 6 do, the true one so.
unfoldable pub one_less : Conn → Conn
one_less and = and
one_less or = or
one_less root = root
one_less (at_least a) = at_least (a - 1)

unfoldable pub lower : Conn → ℕ → ℕ → Forest → Option Forest
lower c i j ks =
    only_if (eqb j 0 && constant_at (deciding c) (after i ks)) (node (one_less c) (first i ks ⊕ after (suc i) ks) nil)

unfoldable pub drop_member : Conn → ℕ → ℕ → Forest → Option Forest
drop_member c i j ks = first_of (omit c i j ks) (lower c i j ks)

-- Rule 16. "Turns k = 0 into true and k over the members into false."
unfoldable pub decided : Conn → Forest → Option Forest
decided and ks = none
decided or ks = none
decided root ks = none
decided (at_least a) ks = pick (eqb a 0) (some (constant and)) (only_if (ltb (size ks) a) (constant or))

unfoldable pub decide : Conn → ℕ → ℕ → Forest → Option Forest
decide c i j ks = then (only_if (eqb i 0 && eqb j 0) ks) (decided c)

-- Rule 17. "Turns k = 1 into any-of, else k = members into all-of."
unfoldable pub renamed : Conn → Forest → Option Forest
renamed and ks = none
renamed or ks = none
renamed root ks = none
renamed (at_least a) ks = pick (eqb a 1) (some (node or ks nil)) (only_if (eqb a (size ks)) (node and ks nil))

unfoldable pub rename : Conn → ℕ → ℕ → Forest → Option Forest
rename c i j ks = then (only_if (eqb i 0 && eqb j 0) ks) (renamed c)

pub data Family : Type 0 where
  absorbs omits unwraps spreads lifts merges factors drops decides renames : Family

-- What becomes of a node with these children, where the rule's conditions on them hold.
unfoldable pub change : Family → Conn → ℕ → ℕ → Forest → Option Forest
change absorbs c i j ks = absorb c i j ks
change omits c i j ks = omit c i j ks
change unwraps c i j ks = unwrap c i j ks
change spreads c i j ks = spread c i j ks
change lifts c i j ks = lift c i j ks
change merges c i j ks = merge c i j ks
change factors c i j ks = factor c i j ks
change drops c i j ks = drop_member c i j ks
change decides c i j ks = decide c i j ks
change renames c i j ks = rename c i j ks

-- "Node kind and fewest children of each rule stand as one fixed table": "3 all-of and 4 any-of, 5 the root"; "01's table goes on
-- to 17".
pub record Row : Type 0 where
  pub kind : ℕ
  pub fewest : ℕ
  pub family : Family

abbrev pub row : ℕ → ℕ → Family → Row
row k n f = record { kind = k; fewest = n; family = f }

unfoldable pub table : List Row
table =
    row 3 2 absorbs
    ∷ row 4 2 absorbs
    ∷ row 5 2 absorbs
    ∷ row 3 1 omits
    ∷ row 4 1 omits
    ∷ row 5 1 omits
    ∷ row 3 1 unwraps
    ∷ row 4 1 unwraps
    ∷ row 4 2 spreads
    ∷ row 5 2 spreads
    ∷ row 3 1 lifts
    ∷ row 5 1 lifts
    ∷ row 3 1 merges
    ∷ row 4 2 factors
    ∷ row 6 1 drops
    ∷ row 6 0 decides
    ∷ row 6 0 renames
    ∷ []

-- The row of a rule; rules count from 1.
unfoldable pub row_of : ℕ → Option Row
row_of zero = none
row_of (suc r) = get_elem? table r

-- A number is a rule where the table has its row.
unfoldable pub is_rule : ℕ → Bool
is_rule r = is_some (row_of r)

-- A row applied to a node with its children.
unfoldable pub turn : Row → Conn → ℕ → ℕ → Forest → Option Forest
turn w c i j ks =
    then (only_if (eqb w.kind (conn_kind c) && leb w.fewest (size ks)) ks) (change w.family c i j)

-- A rule applied to the first tree of a forest; the trees after it stay.
unfoldable pub rewrite : ℕ → ℕ → ℕ → Forest → Option Forest
rewrite r i j nil = none
rewrite r i j (lit l f) = none
rewrite r i j (node c k f) = then (row_of r) (λ w. then (turn w c i j k) (λ g. some (g ⊕ f)))

-- "A rule rewrites the stretch of the sheet from its place onward, and every node before the place stays."
unfoldable pub step : ℕ → ℕ → ℕ → ℕ → List Node → Option (List Node)
step r place i j ns =
    then (rewrite r i j (decode (drop place ns))) (λ f. some (take place ns ++ encode f))

-- "A rule applies when its conditions hold at some place, i and j." There the step gives some nodes.
abbrev pub Applies : ℕ → ℕ → ℕ → ℕ → List Node → Type 0
Applies r place i j ns = (ms : List Node) × (step r place i j ns ≡ some ms)

-- No rule applies, whatever its number, at any place, i and j.
abbrev pub NoRule : List Node → Type 0
NoRule ns = (r place i j : ℕ) → step r place i j ns ≡ none
