-- The prefix code: a tree as a list of nodes, "a node before its children".
use Rattle.std.specs.Prelude.{Bool, false, List, [], ◌∷◌, ◌++◌, ℕ, zero, suc, ◌+◌, ◌-◌, ◌*◌, ◌/◌, ◌%◌, eqb, leb, length}
use Rattle.std.proofs.Math.Option.{Option, none, some}
use Rattle.model.specs.Base.{pick, only_if, then}
use Rattle.model.specs.Literal.{Literal, pos, neg}
use Rattle.model.specs.Limits.{kind_factor, least_factor}
use Rattle.model.specs.Forest.{Conn, and, or, root, at_least, Forest, nil, lit, node, size, first, after}

-- A literal, or a connective with its number of children.
pub data Node : Type 0 where
  leaf : Literal → Node
  head : Conn → ℕ → Node

unfoldable pub encode : Forest → List Node
encode nil = []
encode (lit l f) = leaf l ∷ encode f
encode (node c k f) = head c (size k) ∷ encode k ++ encode f

-- Read from the right: a node takes the first trees of what is already there as its children.
unfoldable pub push : Node → Forest → Forest
push (leaf l) f = lit l f
push (head c k) f = node c (first k f) (after k f)

unfoldable pub decode : List Node → Forest
decode [] = nil
decode (x ∷ ns) = push x (decode ns)

-- The number of trees that a list of nodes spells, or none where a node lacks children. A literal is one tree more; a node
-- makes one tree of as many as it has children.
unfoldable pub joined : Node → ℕ → Option ℕ
joined (leaf l) t = some (suc t)
joined (head c k) t = only_if (leb k t) (suc (t - k))

unfoldable pub trees : List Node → Option ℕ
trees [] = some zero
trees (x ∷ ns) = then (trees ns) (joined x)

unfoldable pub exactly_one : Option ℕ → Bool
exactly_one none = false
exactly_one (some t) = eqb t 1

-- "A body is one tree."
unfoldable pub one_tree : List Node → Bool
one_tree ns = exactly_one (trees ns)

-- Option marks in a list of nodes.
unfoldable pub literals : List Node → ℕ
literals [] = zero
literals (leaf l ∷ ns) = suc (literals ns)
literals (head c k ∷ ns) = literals ns

-- Nodes of kind 6 in a list of nodes.
unfoldable pub least_count : Conn → ℕ
least_count and = 0
least_count or = 0
least_count root = 0
least_count (at_least a) = 1

unfoldable pub leasts : List Node → ℕ
leasts [] = zero
leasts (leaf l ∷ ns) = leasts ns
leasts (head c k ∷ ns) = least_count c + leasts ns

-- "The weight is nodes plus marks (root counted)."
unfoldable pub weight : List Node → ℕ
weight ns = length ns + literals ns

-- "A node is one number: kind × 4,096 + value."
unfoldable pub kind : ℕ → ℕ
kind x = x / kind_factor

unfoldable pub value : ℕ → ℕ
value x = x % kind_factor

unfoldable pub number : ℕ → ℕ → ℕ
number k v = k * kind_factor + v

-- "Kind 1 is an option, 2 the same option barred, 3 all-of and 4 any-of, 5 the root"; "a new node kind 6".
unfoldable pub conn_kind : Conn → ℕ
conn_kind and = 3
conn_kind or = 4
conn_kind root = 5
conn_kind (at_least a) = 6

-- "Value the number of children"; "kind 6 has value members × 64 + k": the value of a node of so many children, and the children
-- of a node by its number.
unfoldable pub conn_value : Conn → ℕ → ℕ
conn_value and m = m
conn_value or m = m
conn_value root m = m
conn_value (at_least a) m = m * least_factor + a

unfoldable pub children : ℕ → ℕ
children x = pick (eqb (kind x) 6) (value x / least_factor) (value x)

unfoldable pub number_of : Node → ℕ
number_of (leaf (pos v)) = number 1 v
number_of (leaf (neg v)) = number 2 v
number_of (head c k) = number (conn_kind c) (conn_value c k)

-- The node that a number of kind 1 to 6 is. (No other number is asked for.)
unfoldable pub node_of : ℕ → Node
node_of x =
    pick (eqb (kind x) 1)
    (leaf (pos (value x)))
    (pick (eqb (kind x) 2)
    (leaf (neg (value x)))
    (pick (eqb (kind x) 3)
    (head and (children x))
    (pick (eqb (kind x) 4)
    (head or (children x))
    (pick (eqb (kind x) 6) (head (at_least (value x % least_factor)) (children x)) (head root (children x))))))
