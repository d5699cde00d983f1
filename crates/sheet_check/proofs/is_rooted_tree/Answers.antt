-- `sheet_check::is_rooted_tree` meets its contract: the head is of kind 5, and has as many children as there are trees after it.
use mathlib.Core.Bool.{Bool, false, ◌&&◌}
use mathlib.Core.List.{List, map}
use mathlib.Core.Path.{◌≡◌, sym, ap, ◌∙◌}
use Prim.Native.Nat.{ℕ, ◌-◌, ◌≤◌}
use native.Mathlib.Omega.{arith}
use borrow.Author.Tests.{ne_eqb}
use lib.Dec.{eqb}
use lib.ListN.{length, get_or, take, drop}
use lib.Seq.{slice, slice-cons, length-slice}
use Rattle.model.specs.Base.{maybe}
use Rattle.model.specs.Forest.{all_seated}
use Rattle.model.specs.Code.{kind, children, decode, node_of, one_tree}
use Rattle.model.specs.Sheet.{rooted}
use Rattle.theory_forms.specs.Lists.{drop_take}
use Rattle.common_members.specs.Tested.{tested, rooted_tested}
use Rattle.common_members.proofs.Counting.{same_count}
use Rattle.sheet_check.proofs.is_rooted_tree.Goals as goal

-- What the first so many numbers are asked for.
abbrev tree : ℕ → List ℕ → Bool
tree n xs = rooted n xs && one_tree (map node_of xs) && all_seated (decode (map node_of xs))

module _ (n used : ℕ) (s : List ℕ) where
  -- The numbers from a place on, as they are lent; and one place further on.
  lent : (i : ℕ) → take (used - i) (drop i s) ≡ slice i used s
  lent i = sym (drop_take i used s)

  -- The head is of kind 5, and the numbers after it are as many trees as it has children.
  module _ (some-used : 1 ≤ used) (within : used ≤ length s) where
    head_and_rest :
        tree n (take used s)
        ≡ (eqb (kind (get_or s 0 0)) 5 && maybe false (λ t. eqb t (children (get_or s 0 0))) (tested n (slice 1 used s)))
    head_and_rest = ap (tree n) (slice-cons 0 used s 0 some-used within) ∙ rooted_tested n (get_or s 0 0) (slice 1 used s)

    other_head : (kind (get_or s 0 0) ≡ 5 → ⊥) → tree n (take used s) ≡ false
    other_head h = head_and_rest ∙ rw (ne_eqb (kind (get_or s 0 0)) 5 h)

pub count_trees-requires : goal.count_trees-requires
count_trees-requires c = let a = c.args in rw (lent a.n a.used a.s.now 1) (omega (arith, length-slice 1 a.used a.s.now c.requires.2, c.requires.1), c.requires.3)

pub returns-then-kind_of-eq5 : goal.returns-then-kind_of-eq5
returns-then-kind_of-eq5 c =
    let a = c.args in
    let s = a.s.now in
    let five : kind (get_or s 0 0) ≡ 5 = sym (c.kind_of.ensures ∙ ap kind c.from-head.ensures) ∙ c.if-kind_of-eq5.true in
    let counted = same_count c.count_trees.result c.children_of.result (c.count_trees.ensures ∙ ap (tested a.n) (lent a.n a.used s 1)) in
    c.eq.ensures
    ∙ counted
    ∙ rw (c.children_of.ensures, c.from-head.ensures) (sym (head_and_rest a.n a.used s c.requires.0 c.requires.2 ∙ rw five))

pub returns-else-kind_of-eq5 : goal.returns-else-kind_of-eq5
returns-else-kind_of-eq5 c =
    let a = c.args in
    let kind_is = c.kind_of.ensures ∙ ap kind c.from-head.ensures in
    ne_eqb c.kind_of.result 5 c.if-kind_of-eq5.false
    ∙ sym (other_head a.n a.used a.s.now c.requires.0 c.requires.2 (λ e. c.if-kind_of-eq5.false (kind_is ∙ e)))
