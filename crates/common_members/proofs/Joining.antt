-- A node before numbers that were tested: what each answer for it says of all. One law for sheets and books.
use mathlib.Core.Bool.{Bool, true, false, ◌||◌}
use mathlib.Core.List.{List, ◌∷◌, map}
use mathlib.Core.Option.{Option, none, some}
use mathlib.Core.Path.{◌≡◌, sym, ap, ◌∙◌}
use Prim.Native.Nat.{ℕ, ◌≤◌}
use native.Mathlib.Omega.{arith}
use borrow.Author.Tests.{ltb-true, lt-ltb}
use lib.Dec.{eqb, ltb}
use lib.ListN.{length, take}
use Rattle.model.specs.Base.{pick, then, all}
use Rattle.model.specs.Limits.{most_options}
use Rattle.model.specs.Code.{kind, value, children, node_of}
use Rattle.model.specs.Sheet.{body_node}
use Rattle.theory_forms.specs.Logic.{and_split}
use Rattle.theory_forms.specs.Lists.{all_cut, all_weaken}
use Rattle.theory_forms.specs.Seats.{apart}
use Rattle.theory_forms.specs.Scan.{joined_by}
use Rattle.std.specs.Bool.{then_some}
use Rattle.common_lists.specs.Given.{given}
use Rattle.common_members.specs.Tested.{tested, seats_least, seats_other, tested_step, tested_more, tested_stuck, tested_unseated}
use Rattle.common_members.specs.Tested.{tested_nodes, tested_count, least_members}

-- A node of a body of n options is one of a body of more.
more_options : (n m x : ℕ) → n ≤ m → body_node n x ≡ true → body_node m x ≡ true
unfolding body_node pick
more_options n m x l h = go (eqb (kind x) 1 || eqb (kind x) 2) h
  where
    go :
        (b : Bool) →
        pick b (ltb (value x) n) (eqb (kind x) 3 || eqb (kind x) 4 || eqb (kind x) 6) ≡ true →
        pick b (ltb (value x) m) (eqb (kind x) 3 || eqb (kind x) 4 || eqb (kind x) 6) ≡ true
    go true e = lt-ltb (value x) m (omega (arith, ltb-true (value x) n e))
    go false e = e

-- All numbers, their first, and the rest, which spell t trees.
pub record Before (n x t : ℕ) (ys xs : List ℕ) : Type 0 where
  pub first : ys ≡ x ∷ xs
  pub rest : tested n xs ≡ some t

module _ {n x t : ℕ} {ys xs : List ℕ} (b : Before n x t ys xs) where
  -- Any kind but 6, and a node that lacks children: the trees after it decide.
  pub joined_other : {o : Option ℕ} → o ≡ joined_by n x t → (kind x ≡ 6 → ⊥) → o ≡ tested n ys
  unfolding pick then
  joined_other j h = j ∙ sym (ap (tested n) b.first ∙ tested_step n x xs ∙ rw (seats_other x xs h, b.rest))

  pub joined_lacking : none ≡ joined_by n x t → none ≡ tested n ys
  joined_lacking j = sym (ap (tested n) b.first ∙ tested_stuck n x xs b.rest (sym j))

  -- Kind 6: the numbers after it are its members, or they are not.
  module _ (h : kind x ≡ 6) {u : ℕ} (j : some u ≡ joined_by n x t) where
    pub joined_least : (r : Bool) → r ≡ apart (map node_of (take (children x) xs)) → given (then_some r u) ≡ tested n ys
    joined_least true a = sym (ap (tested n) b.first ∙ tested_more n x xs b.rest (sym j) (seats_least x xs h ∙ sym a))
    joined_least false a = sym (ap (tested n) b.first ∙ tested_unseated n x xs (seats_least x xs h ∙ sym a))

    -- There are as many numbers as it has members.
    pub enough : children x ≤ length xs
    enough = least_members n xs b.rest x (sym j) h

  -- They are nodes of a body, and at least as many as their trees.
  pub nodes : n ≤ most_options → (m : ℕ) → all (body_node most_options) (take m xs) ≡ true
  nodes l m =
      let whole = all_weaken (body_node n) (body_node most_options) (λ y. more_options n most_options y l) xs (tested_nodes n xs b.rest) in
      (and_split (all (body_node most_options) (take m xs)) _ (sym (all_cut (body_node most_options) m xs) ∙ whole)).0

  pub few : t ≤ length xs
  few = tested_count n xs b.rest
