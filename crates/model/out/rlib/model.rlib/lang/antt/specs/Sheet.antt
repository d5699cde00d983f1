-- The order sheet: 4,098 numbers.
use Rattle.std.specs.Prelude.{Bool, false, ◌&&◌, ◌||◌, List, [], ◌∷◌, ◌++◌, map, ◌≡◌, ℕ, ◌-◌, eqb, leb, ltb, length, get_or, take, drop, replicate}
use Rattle.model.specs.Base.{pick, all}
use Rattle.model.specs.Literal.{Literal}
use Rattle.model.specs.Forest.{or, root, Forest, nil, lit, node, constant, ◌⊕◌, kids, has_unit, all_seated}
use Rattle.model.specs.Code.{Node, encode, decode, one_tree, weight, kind, value, node_of, number_of}
use Rattle.model.specs.Clauses.{Clause, clauses}
use Rattle.model.specs.Propagation.{Report, report}
use Rattle.model.specs.Limits.{usual, sheet_length, sheet_room}

-- A node of a body: "kind 1 is an option (value its number, 0 to N - 1), 2 the same option barred, 3 all-of and 4 any-of"; "kind 6
-- has value members × 64 + k, both 0 to 63".
unfoldable pub body_node : ℕ → ℕ → Bool
body_node n x =
    pick (eqb (kind x) 1 || eqb (kind x) 2) (ltb (value x) n) (eqb (kind x) 3 || eqb (kind x) 4 || eqb (kind x) 6)

-- "N (0 to 512), the count of nodes used, the nodes from the root on, then zeros."
unfoldable pub options_in : List ℕ → ℕ
options_in s = get_or s 0 0

unfoldable pub used_in : List ℕ → ℕ
used_in s = get_or s 1 0

unfoldable pub numbers_in : List ℕ → List ℕ
numbers_in s = take (used_in s) (drop 2 s)

unfoldable pub nodes_in : List ℕ → List Node
nodes_in s = map node_of (numbers_in s)

unfoldable pub rest_in : List ℕ → List ℕ
rest_in s = drop (used_in s) (drop 2 s)

-- "Kind 5 only at its head."
unfoldable pub rooted : ℕ → List ℕ → Bool
rooted n [] = false
rooted n (x ∷ xs) = eqb (kind x) 5 && all (body_node n) xs

-- "A lent run of exactly 4,098 16-bit numbers: N (0 to 512), the count of nodes used, the nodes from the root on as one tree
-- with kind 5 only at its head, then zeros. The weight is at most 4,096. Anything else is no sheet." "In book and sheet alike" the
-- members of kind 6 are well-formed.
unfoldable pub is_sheet : List ℕ → Bool
is_sheet s =
    eqb (length s) sheet_length
    && leb (options_in s) usual.options
    && leb (used_in s) sheet_room
    && rooted (options_in s) (numbers_in s)
    && one_tree (nodes_in s)
    && all_seated (decode (nodes_in s))
    && all (eqb 0) (rest_in s)
    && leb (weight (nodes_in s)) usual.weight

-- The sheet of N options with these nodes.
unfoldable pub sheet_of : ℕ → List Node → List ℕ
sheet_of n ns = n ∷ length ns ∷ map number_of ns ++ replicate (sheet_room - length ns) 0

-- What the sheet's rules mean: the clauses of its root.
unfoldable pub clauses_in : List ℕ → List Clause
clauses_in s = clauses root (decode (nodes_in s))

-- The report of a sheet.
unfoldable pub report_in : List ℕ → Report
report_in s = report (options_in s) (clauses_in s)

-- "A bare mark is a child of the root."
unfoldable pub is_unit : Literal → List ℕ → Bool
is_unit l s = has_unit l (kids (decode (nodes_in s)))

-- "The lone contradiction is false as the root's only child."
abbrev pub Falsum : List ℕ → Type 0
Falsum s = decode (nodes_in s) ≡ node root (constant or) nil

-- "A choice appends one mark, plain or barred, as the root's last child."
unfoldable pub with_child : Literal → Forest → Forest
with_child l nil = nil
with_child l (lit x f) = lit x f
with_child l (node c k f) = node c (k ⊕ lit l nil) f

unfoldable pub chosen : Literal → List Node → List Node
chosen l ns = encode (with_child l (decode ns))
