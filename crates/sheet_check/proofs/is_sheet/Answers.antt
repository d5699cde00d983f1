-- `sheet_check::is_sheet` meets its contract: the tests of the definition in turn, where the three of a rooted tree are one.
use mathlib.Core.Bool.{Bool, ◌&&◌, and-true, and-false, and_assoc}
use mathlib.Core.List.{List, map}
use mathlib.Core.Path.{◌≡◌, sym, ◌∙◌}
use Prim.Native.Nat.{ℕ, ◌+◌, ◌-◌, ◌≤◌, ◌<◌}
use native.Mathlib.Omega.{arith}
use borrow.Author.Tests.{eq-eqb, ne_eqb, le-leb, lt-leb}
use borrow.Author.Rules.{part_to_end}
use lib.Dec.{eqb, leb}
use lib.ListN.{length, get_or, take, drop}
use lib.Seq.{drop-drop}
use Rattle.model.specs.Base.{all}
use Rattle.model.specs.Limits.{most_options, most_weight, sheet_room, sheet_length}
use Rattle.model.specs.Forest.{all_seated}
use Rattle.model.specs.Code.{weight, decode, node_of, one_tree}
use Rattle.model.specs.Sheet.{options_in, used_in, numbers_in, nodes_in, rest_in, rooted, is_sheet}
use Rattle.theory_forms.specs.Logic.{and_split}
use Rattle.sheet_check.proofs.is_sheet.Goals as goal
use Rattle.sheet_check.proofs.is_sheet.Goals.{Joined-weigh_sheet-le-MOST_WEIGHT, then-weigh_sheet-le-MOST_WEIGHT, else-weigh_sheet-le-MOST_WEIGHT}
use Rattle.sheet_check.proofs.is_sheet.Goals.{then-n-gt-MOST_OPTIONS-via-then-n-gt-MOST_OPTIONS, then-n-gt-MOST_OPTIONS-via-else-n-gt-MOST_OPTIONS+then-used-lt1, then-n-gt-MOST_OPTIONS-via-else-n-gt-MOST_OPTIONS+else-used-lt1+then-used-gt-SHEET_ROOM}

-- The nodes are one rooted tree, all members in their seats.
abbrev tree_in : List ℕ → Bool
tree_in s = rooted (options_in s) (numbers_in s) && one_tree (nodes_in s) && all_seated (decode (nodes_in s))

module _ (s : List ℕ) where
  -- A list is a sheet by six tests.
  sheet_is :
      is_sheet s
      ≡ (eqb (length s) sheet_length
      && leb (get_or s 0 0) most_options
      && leb (get_or s 1 0) sheet_room
      && tree_in s
      && all (eqb 0) (rest_in s)
      && leb (weight (nodes_in s)) most_weight)
  unfolding is_sheet options_in used_in
  sheet_is =
      let first = eqb (length s) sheet_length && leb (get_or s 0 0) most_options && leb (get_or s 1 0) sheet_room in
      let root = rooted (get_or s 0 0) (numbers_in s) in
      rw (and_assoc first root (one_tree (nodes_in s)), and_assoc first (root && one_tree (nodes_in s)) (all_seated (decode (nodes_in s))))

  -- What the parts of the sheet that are lent tell.
  tree_is :
      {n used : ℕ} {r : Bool} →
      let part = take (length s - 2) (drop 2 s) in
      n ≡ get_or s 0 0 →
      used ≡ get_or s 1 0 →
      r ≡ (rooted n (take used part) && one_tree (map node_of (take used part)) && all_seated (decode (map node_of (take used part)))) →
      tree_in s ≡ r
  unfolding options_in used_in numbers_in nodes_in
  tree_is f g e = rw (← f, ← g) (sym (rw (part_to_end s 2) at e))

  clear_is :
      {used : ℕ} {r : Bool} →
      used ≡ get_or s 1 0 →
      r ≡ all (eqb 0) (take (length s - (2 + used)) (drop (2 + used) s)) →
      all (eqb 0) (rest_in s) ≡ r
  unfolding rest_in used_in
  clear_is {used} f e = rw (← f, drop-drop used 2 s) (sym (rw (part_to_end s (2 + used)) at e))

pub returns-then-s-ne-SHEET_LENGTH : goal.returns-then-s-ne-SHEET_LENGTH
returns-then-s-ne-SHEET_LENGTH c =
    let s = c.args.s.now in
    rw (sheet_is s, ne_eqb (length s) sheet_length c.if-s-ne-SHEET_LENGTH.true)

pub returns-then-n-gt-MOST_OPTIONS : goal.returns-then-n-gt-MOST_OPTIONS
unfolding options_in used_in numbers_in rooted
returns-then-n-gt-MOST_OPTIONS c =
    let s = c.args.s.now in
    elim c.then-n-gt-MOST_OPTIONS.branch [
      | then-n-gt-MOST_OPTIONS-via-then-n-gt-MOST_OPTIONS w ↦ rw (sheet_is s, lt-leb (get_or s 0 0) most_options (omega arith), and-false)
      | then-n-gt-MOST_OPTIONS-via-else-n-gt-MOST_OPTIONS+then-used-lt1 w ↦
          let none-used : get_or s 1 0 ≡ 0 = omega arith in rw (sheet_is s, none-used, and-false)
      | then-n-gt-MOST_OPTIONS-via-else-n-gt-MOST_OPTIONS+else-used-lt1+then-used-gt-SHEET_ROOM w ↦
          rw (sheet_is s, lt-leb (get_or s 1 0) sheet_room (omega arith), and-false)
    ]

-- The used count is tested before anything is summed, so that the sum is at most 8,192.
pub weigh_sheet-requires : goal.weigh_sheet-requires
unfolding used_in
weigh_sheet-requires c = (omega arith, omega arith)

-- The weight is tested, and then the numbers behind those used.
light_and_clear :
    (c : goal.Joined-weigh_sheet-le-MOST_WEIGHT) →
    let s = c.args.s.now in
    c.if-weigh_sheet-le-MOST_WEIGHT.value ≡ (all (eqb 0) (rest_in s) && leb (weight (nodes_in s)) most_weight)
light_and_clear c =
    let s = c.args.s.now in
    elim c.if-weigh_sheet-le-MOST_WEIGHT.branch [
      | then-weigh_sheet-le-MOST_WEIGHT w ↦
          let light : weight (nodes_in s) ≤ most_weight = omega (arith, w.if-weigh_sheet-le-MOST_WEIGHT.true, c.weigh_sheet.ensures.0) in
          w.value-is ∙ sym (rw (clear_is s c.from-used.ensures w.is_clear.ensures, le-leb (weight (nodes_in s)) most_weight light) (and-true w.is_clear.result))
      | else-weigh_sheet-le-MOST_WEIGHT w ↦
          let heavy : most_weight < weight (nodes_in s) = omega (arith, w.if-weigh_sheet-le-MOST_WEIGHT.false, c.weigh_sheet.ensures.0) in
          w.value-is
          ∙ lt-leb c.weigh_sheet.result most_weight w.if-weigh_sheet-le-MOST_WEIGHT.false
          ∙ sym (rw (lt-leb (weight (nodes_in s)) most_weight heavy) (and-false (all (eqb 0) (rest_in s))))
    ]

pub returns-then-is_clear : goal.returns-then-is_clear
returns-then-is_clear c =
    let s = c.args.s.now in
    let k = light_and_clear (goal.at.returns-then-is_clear c).Joined-weigh_sheet-le-MOST_WEIGHT in
    let both = and_split (all (eqb 0) (rest_in s)) (leb (weight (nodes_in s)) most_weight) (sym k ∙ c.if-is_clear.true) in
    let whole = eq-eqb (length s) sheet_length (omega arith) in
    let few_options = le-leb (get_or s 0 0) most_options (omega arith) in
    let room = le-leb (get_or s 1 0) sheet_room (omega arith) in
    let tree = tree_is s c.from-n.ensures c.from-used.ensures c.is_rooted_tree.ensures in
    rw (sheet_is s, whole, few_options, room, tree, both.0, and-true, both.1, and-true)

pub returns-else-is_clear : goal.returns-else-is_clear
returns-else-is_clear c =
    let s = c.args.s.now in
    let k = light_and_clear (goal.at.returns-else-is_clear c).Joined-weigh_sheet-le-MOST_WEIGHT in
    let first = eqb (length s) sheet_length && leb (get_or s 0 0) most_options && leb (get_or s 1 0) sheet_room && tree_in s in
    c.if-is_clear.false
    ∙ sym
    (sheet_is s
    ∙ and_assoc first (all (eqb 0) (rest_in s)) (leb (weight (nodes_in s)) most_weight)
    ∙ rw (sym k ∙ c.if-is_clear.false) (and-false first))
