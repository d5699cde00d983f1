-- What the rule keeps of the trees on a run of numbers, and what it writes.
use Rattle.std.specs.Prelude.{Bool, true, false, List, [], ◌∷◌, ◌++◌, ◌≡◌, ℕ, ◌+◌, ◌-◌, length, get_or, take, drop}
use Rattle.model.specs.Base.{pick}
use Rattle.model.specs.Code.{children}
use Rattle.theory_forms.specs.Scan.{is_literal}
use Rattle.theory_reading.specs.Spans.{child_at}
use Rattle.theory_reading.specs.Stretches.{live}
use Rattle.rule_factor.specs.Walks.{walk, unit_place, unit_of, sharing}

-- A group without the first of its children that is the number itself.
unfoldable pub less_unit : ℕ → List ℕ → List ℕ
less_unit a l =
    let m = children (get_or l 0 0) in
    let p = 1 + unit_place a m (drop 1 l) in
    (get_or l 0 0 - 1) ∷ (take (p - 1) (drop 1 l) ++ take (child_at m l - (p + 1)) (drop (p + 1) l))

-- What is kept of the first tree: of groups, the group without the number; else the literal. And of so many trees.
unfoldable pub kept : Bool → ℕ → List ℕ → List ℕ
kept groups a l =
    pick (is_literal (get_or l 0 0)) (pick groups [] (get_or l 0 0 ∷ [])) (pick groups (less_unit a l) [])

unfoldable pub gathered : Bool → ℕ → ℕ → List ℕ → List ℕ
gathered groups a n l = walk (λ s later. kept groups a s ++ later) [] n l

-- A disjunction of n children, g of them groups: the literals, then a conjunction of the number and what is left of the groups.
unfoldable pub factored : ℕ → ℕ → ℕ → List ℕ → List ℕ
factored a n g l =
    (get_or l 0 0 + 1 - g) ∷ (gathered false a n (drop 1 l) ++ (12290 ∷ a ∷ (16384 + g) ∷ gathered true a n (drop 1 l)))

-- The tree that a stretch begins with, after the rule at i and j; and with it the trees after that.
unfoldable pub tree_after : ℕ → ℕ → List ℕ → List ℕ
tree_after i j l =
    let n = children (get_or l 0 0) in
    let a = unit_of j (drop (child_at i l) l) in
    factored a n (sharing a n (drop 1 l)) l

unfoldable pub step_after : ℕ → ℕ → List ℕ → List ℕ
step_after i j l =
    let end = child_at (children (get_or l 0 0)) l in
    tree_after i j l ++ take (length (live l) - end) (drop end l)

-- Numbers that were written into a list from a place on, up to a place.
pub record Appended (src : List ℕ) (from : ℕ) (old new : List ℕ) (to : ℕ) : Type 0 where
  pub end : to ≡ from + length src
  pub front : take to new ≡ take from old ++ src
