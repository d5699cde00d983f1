use mathlib.Core.Bool.{true}
use mathlib.Core.List.{List}
use mathlib.Core.Path.{◌≡◌, sym, ◌∙◌}
use Prim.Native.Nat.{ℕ, ◌+◌, ◌-◌, ◌≤◌, ◌<◌}
use native.Mathlib.Omega.{arith}
use lib.ListN.{length, get_or, take, drop, length-drop}
use lib.Seq.{length-take-le, get_or-take, get_or-drop}
use Rattle.model.specs.Base.{all}
use Rattle.model.specs.Limits.{most_options}
use Rattle.model.specs.Sheet.{body_node}
use Rattle.theory_forms.specs.Lists.{all_index}
use Rattle.common_members.proofs.Seating.{begun, seated_more, not_seated}
use Rattle.common_members.proofs.are_members.Goals as goal

-- The members are so many numbers from a place on.
module _ (ns : List ℕ) (from count : ℕ) where
  abbrev members : List ℕ
  members = take count (drop from ns)

  long : from + count ≤ length ns → length members ≡ count
  long h = length-take-le count (drop from ns) (omega (arith, length-drop from ns))

  -- The member that is read, and that it is a node of a body.
  module _ {i x : ℕ} (some_left : 0 < i) (most : i ≤ count) (e : x ≡ get_or ns (from + (i - 1)) 0) where
    read : x ≡ get_or members (i - 1) 0
    read = let inside : i - 1 < count = omega arith in e ∙ rw (get_or-take, get_or-drop)

    node : from + count ≤ length ns → all (body_node most_options) members ≡ true → body_node most_options x ≡ true
    node h all-nodes = rw read (all_index (body_node most_options) members (i - 1) 0 all-nodes (omega (arith, long h)))

pub loop-i-init : goal.loop-i-init
loop-i-init g c =
    let a = c.args in
    let ns = g.N.Numbers.numbers a.numbers in
    begun (members ns a.from a.count) (sym (long ns a.from a.count c.requires.in_bounds.0))

pub is_member-requires : goal.is_member-requires
is_member-requires g c =
    let a = c.args in (
      node (g.N.Numbers.numbers a.numbers) a.from a.count c.loop-i-test.true c.loop-i.auto.i c.number.ensures c.requires.in_bounds.0 c.requires.nodes,
      c.loop-i.invariant.marks.long,
    )

pub returns-then-not-is_member : goal.returns-then-not-is_member
returns-then-not-is_member g c =
    let a = c.args in
    let ns = g.N.Numbers.numbers a.numbers in
    let within : c.loop-i.i ≤ length (members ns a.from a.count) = omega (arith, long ns a.from a.count c.requires.in_bounds.0) in
    let here = read ns a.from a.count c.loop-i-test.true c.loop-i.auto.i c.number.ensures in
    sym (not_seated c.loop-i-test.true within c.loop-i.invariant here (sym c.if-not-is_member.ensures.value))

pub loop-i-preserved : goal.loop-i-preserved
loop-i-preserved g c =
    let a = c.args in
    let ns = g.N.Numbers.numbers a.numbers in
    let within : c.loop-i.i ≤ length (members ns a.from a.count) = omega (arith, long ns a.from a.count c.requires.in_bounds.0) in
    let here = read ns a.from a.count c.loop-i-test.true c.loop-i.auto.i c.number.ensures in
    seated_more c.loop-i-test.true within c.loop-i.invariant here (sym c.if-not-is_member.ensures.value) c.is_member.ensures.marks

pub returns : goal.returns
returns g c =
    let all_read : c.loop-i.i ≡ 0 = omega arith in
    sym (rw all_read at c.loop-i.invariant).apart
