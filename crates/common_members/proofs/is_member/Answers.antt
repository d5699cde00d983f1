-- `common_members::is_member` meets its contract: a literal by its mark, any other node by its number.
use mathlib.Core.Bool.{true, false}
use mathlib.Core.Path.{◌≡◌, sym, ◌∙◌}
use borrow.Author.Tests.{ne_eqb}
use Rattle.theory_forms.specs.Scan.{is_literal}
use Rattle.common_members.proofs.MemberNodes.{option_below, literal_told, literal_marks, other_told, other_marks}
use Rattle.common_members.proofs.is_member.Goals as goal
use Rattle.common_members.proofs.is_member.Goals.{Else-is_literal, Then-is_literal}

literal : (c : goal.Then-is_literal) → is_literal c.args.x ≡ true
literal c = sym c.is_literal.ensures ∙ c.if-is_literal.true

other : (c : goal.Else-is_literal) → is_literal c.args.x ≡ false
other c = sym c.is_literal.ensures ∙ c.if-is_literal.false

pub mark-requires : goal.mark-requires
mark-requires c =
    let h = literal (goal.at.mark-requires c).Then-is_literal in
    (rw c.value_of.ensures (option_below c.args.x h _ c.requires.0), c.requires.1)

pub returns-then-is_literal : goal.returns-then-is_literal
returns-then-is_literal c =
    let a = c.args in
    let h = literal (goal.at.returns-then-is_literal c).Then-is_literal in
    record {
      value = literal_told a.x h a.marks.now c.value_of.ensures c.mark.ensures.value;
      marks = literal_marks a.x h a.marks.now c.value_of.ensures c.mark.ensures.marks;
    }

pub returns-then-x : goal.returns-then-x
returns-then-x c =
    let x = c.args.x in
    let ms = c.args.marks.now in
    let h = other (goal.at.returns-then-x c).Else-is_literal in
    record { value = other_told x h ms (rw c.if-x.true); marks = other_marks x h ms c.requires.1 }

pub returns-else-x : goal.returns-else-x
returns-else-x c =
    let x = c.args.x in
    let ms = c.args.marks.now in
    let h = other (goal.at.returns-else-x c).Else-is_literal in
    record { value = other_told x h ms (rw (ne_eqb x 12288 c.if-x.false)); marks = other_marks x h ms c.requires.1 }
