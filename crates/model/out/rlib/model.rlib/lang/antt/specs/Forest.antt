-- Rules as trees. A forest is the trees that stand side by side under one node, in order.
use Rattle.std.specs.Prelude.{Bool, true, false, ◌&&◌, ◌||◌, not, ℕ, zero, suc, eqb}
use Rattle.std.proofs.Math.Option.{Option, none, some}
use Rattle.model.specs.Literal.{Literal, option, same}

-- "3 all-of and 4 any-of, 5 the root"; "a new node kind 6", at least so many of its members.
pub data Conn : Type 0 where
  and or root : Conn
  at_least : ℕ → Conn

unfoldable pub same_conn : Conn → Conn → Bool
same_conn and and = true
same_conn and or = false
same_conn and root = false
same_conn and (at_least b) = false
same_conn or and = false
same_conn or or = true
same_conn or root = false
same_conn or (at_least b) = false
same_conn root and = false
same_conn root or = false
same_conn root root = true
same_conn root (at_least b) = false
same_conn (at_least a) and = false
same_conn (at_least a) or = false
same_conn (at_least a) root = false
same_conn (at_least a) (at_least b) = eqb a b

-- No tree; a literal and the trees after it; a node with its children and the trees after it.
pub data Forest : Type 0 where
  nil : Forest
  lit : Literal → Forest → Forest
  node : Conn → Forest → Forest → Forest

-- "An empty all-of is true, an empty any-of is false."
abbrev pub constant : Conn → Forest
constant c = node c nil nil

infixr 45 ◌⊕◌
-- The trees of the first forest, then those of the second.
unfoldable pub ◌⊕◌ : Forest → Forest → Forest
nil ⊕ g = g
lit l f ⊕ g = lit l (f ⊕ g)
node c k f ⊕ g = node c k (f ⊕ g)

-- The number of trees.
unfoldable pub size : Forest → ℕ
size nil = zero
size (lit l f) = suc (size f)
size (node c k f) = suc (size f)

-- The first i trees, and the trees after them.
unfoldable pub first : ℕ → Forest → Forest
first zero f = nil
first (suc i) nil = nil
first (suc i) (lit l f) = lit l (first i f)
first (suc i) (node c k f) = node c k (first i f)

unfoldable pub after : ℕ → Forest → Forest
after zero f = f
after (suc i) nil = nil
after (suc i) (lit l f) = after i f
after (suc i) (node c k f) = after i f

-- What the first tree of a forest is: its children; the literal; the children of a conjunction; a given constant.
unfoldable pub kids : Forest → Forest
kids nil = nil
kids (lit l f) = nil
kids (node c k f) = k

unfoldable pub literal_at : Forest → Option Literal
literal_at nil = none
literal_at (lit l f) = some l
literal_at (node c k f) = none

unfoldable pub conjunction_at : Forest → Option Forest
conjunction_at nil = none
conjunction_at (lit l f) = none
conjunction_at (node and k f) = some k
conjunction_at (node or k f) = none
conjunction_at (node root k f) = none
conjunction_at (node (at_least a) k f) = none

unfoldable pub constant_at : Conn → Forest → Bool
constant_at c nil = false
constant_at c (lit l f) = false
constant_at c (node d k f) = same_conn c d && eqb (size k) 0

-- Every tree is a literal.
unfoldable pub literals_only : Forest → Bool
literals_only nil = true
literals_only (lit l f) = literals_only f
literals_only (node c k f) = false

-- The literal is one of the trees themselves.
unfoldable pub has_unit : Literal → Forest → Bool
has_unit l nil = false
has_unit l (lit x f) = same l x || has_unit l f
has_unit l (node c k f) = has_unit l f

-- The option stands in some literal, at any depth.
unfoldable pub mentions : ℕ → Forest → Bool
mentions v nil = false
mentions v (lit x f) = eqb v (option x) || mentions v f
mentions v (node c k f) = mentions v k || mentions v f

-- "Its members are true, false, or marks, the marks of distinct options."
unfoldable pub members : Forest → Bool
members nil = true
members (lit l f) = not (mentions (option l) f) && members f
members (node c k f) = (same_conn and c || same_conn or c) && eqb (size k) 0 && members f

-- The trees may be the children of the connective.
unfoldable pub seated : Conn → Forest → Bool
seated and k = true
seated or k = true
seated root k = true
seated (at_least a) k = members k

-- So it is with the children of every node, at any depth.
unfoldable pub all_seated : Forest → Bool
all_seated nil = true
all_seated (lit l f) = all_seated f
all_seated (node c k f) = seated c k && all_seated k && all_seated f
