-- The words of locality: places where a rule does not apply, places that hold a later one, and the zone that a step may change.
use Rattle.std.specs.Prelude.{List, ◌≡◌, ℕ, suc, ◌+◌, ◌-◌, ◌<◌, length, drop}
use Rattle.std.proofs.Math.Option.{none}
use Rattle.model.specs.Forest.{first, kids}
use Rattle.model.specs.Code.{Node, encode, decode}
use Rattle.model.specs.Rules.{Family, absorbs, omits, unwraps, spreads, lifts, merges, factors, drops, decides, renames, rewrite}

-- A rule applies at a place for no i and j.
abbrev pub Quiet : ℕ → ℕ → List Node → Type 0
Quiet r q ns = (i j : ℕ) → rewrite r i j (decode (drop q ns)) ≡ none

-- The number of nodes of the tree at a place, and the place after it.
unfoldable pub tree_length : ℕ → List Node → ℕ
tree_length q ns = length (encode (first 1 (decode (drop q ns))))

abbrev pub tree_end : ℕ → List Node → ℕ
tree_end q ns = q + tree_length q ns

-- The place of child i of the tree at a place: after the head and the children before it.
unfoldable pub child_place : ℕ → ℕ → List Node → ℕ
child_place q i ns = q + suc (length (encode (first i (kids (decode (drop q ns))))))

-- The tree at q holds the later place p.
abbrev pub Holds : ℕ → ℕ → List Node → Type 0
Holds q p ns = (q < p) × (p < tree_end q ns)

-- Two places after q hold p, one of them after the other. Where q holds p too, p lies at least three levels below q.
pub record Twice (q p : ℕ) (ns : List Node) : Type 0 where
  pub outer : ℕ
  pub inner : ℕ
  pub later : q < outer
  pub deeper : outer < inner
  pub outer_holds : Holds outer p ns
  pub inner_holds : Holds inner p ns

-- What a step may change. At a place before `from`, other than the step's own, stands the same tree, or one that holds the step's
-- place; from `new` on the new nodes are the old ones from `old` on.
pub record Zone : Type 0 where
  pub from : ℕ
  pub old : ℕ
  pub new : ℕ

abbrev pub between : ℕ → ℕ → ℕ → Zone
between f o n = record { from = f; old = o; new = n }

-- The zone of a step of a family at place p with i and j, from nodes ns to nodes ms. What rule 14 makes of its tree is as much
-- longer or shorter as the nodes are; every other length follows from the old nodes. Rule 17 changes a head alone: its zone is empty.
unfoldable pub zone : Family → ℕ → ℕ → ℕ → List Node → List Node → Zone
zone absorbs p i j ns ms = between p (tree_end p ns) (p + 2)
zone omits p i j ns ms = between (child_place p i ns) (child_place p i ns + 1) (child_place p i ns)
zone unwraps p i j ns ms = between p (p + 1) p
zone spreads p i j ns ms = between p (tree_end p ns) (tree_end p ns)
zone lifts p i j ns ms =
    let inner = child_place (child_place p i ns) j ns in between (child_place p i ns) (inner + 1) (inner + 1)
zone merges p i j ns ms = between (child_place p i ns) (child_place p i ns + 1) (child_place p i ns)
zone factors p i j ns ms = between p (tree_end p ns) (tree_end p ns + length ms - length ns)
zone drops p i j ns ms = between (child_place p i ns) (child_place p i ns + 1) (child_place p i ns)
zone decides p i j ns ms = between p (tree_end p ns) (p + 1)
zone renames p i j ns ms = between (p + 1) (p + 1) (p + 1)
