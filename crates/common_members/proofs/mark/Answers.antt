-- `common_members::mark` meets its contract: the bit is set already, or is set now.
use mathlib.Core.Bool.{true, false, not}
use mathlib.Core.Path.{◌≡◌, sym, ap, ◌∙◌}
use Prim.Native.Nat.{◌/◌, ◌%◌, ◌<◌}
use native.Mathlib.Nat.{mod-lt}
use native.Mathlib.Omega.{arith}
use borrow.Author.Tests.{eq-eqb, ne_eqb}
use lib.ListN.{length, length-set}
use Rattle.common_members.specs.Marks.{bit, marked}
use Rattle.common_members.proofs.Bits.{one_shifted, marked_now, marked_before}
use Rattle.common_members.proofs.mark.Goals as goal
use Rattle.common_members.proofs.mark.Goals.{Else-word-bit-eq1, Then-word-bit-eq1}

was : (c : goal.Then-word-bit-eq1) → let a = c.args in marked a.marks.now a.v ≡ true
unfolding marked bit
was c = eq-eqb _ 1 c.if-word-bit-eq1.true

was_not : (c : goal.Else-word-bit-eq1) → let a = c.args in marked a.marks.now a.v ≡ false
unfolding marked bit
was_not c = ne_eqb _ 1 c.if-word-bit-eq1.false

pub returns-then-word-bit-eq1 : goal.returns-then-word-bit-eq1
returns-then-word-bit-eq1 c =
    let a = c.args in
    let h = was (goal.at.returns-then-word-bit-eq1 c).Then-word-bit-eq1 in
    record { value = sym (ap not h); marks = record { long = c.requires.1; bits = marked_before a.marks.now a.v h } }

pub returns : goal.returns
returns c =
    let a = c.args in
    let p = c.requires in
    let one = one_shifted (a.v % 64) (mod-lt a.v (omega arith)) in
    let here : a.v / 64 < length a.marks.now = omega (arith, p.0, p.1) in
    record {
      value = sym (ap not (was_not (goal.at.returns c).Else-word-bit-eq1));
      marks = record { long = length-set a.marks.now (a.v / 64) _ ∙ p.1; bits = rw one (marked_now a.marks.now a.v here) };
    }
