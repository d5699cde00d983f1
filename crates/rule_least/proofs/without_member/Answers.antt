-- `rule_least::without_member` meets its contract, by whether the member was true and any was asked for.
use mathlib.Core.Bool.{and-false}
use Prim.Native.Nat.{◌%◌}
use borrow.Author.Tests.{lt-ltb, le-ltb, eq-eqb, ne_eqb}
use lib.Dec.{eqb}
use Rattle.model.specs.Base.{pick}
use Rattle.model.specs.Limits.{least_factor}
use Rattle.rule_least.specs.LeastHeads.{without_member}
use Rattle.rule_least.proofs.without_member.Goals as goal
use Rattle.rule_least.proofs.without_member.Goals.{else-member-eq-TRUE-via-then-member-eq-TRUE+else-head-gt0, else-member-eq-TRUE-via-else-member-eq-TRUE}

pub returns-then-head-gt0 : goal.returns-then-head-gt0
unfolding without_member pick
returns-then-head-gt0 c =
    let a = c.args in
    rw (eq-eqb a.member 12288 c.if-member-eq-TRUE.true, lt-ltb 0 (a.head % least_factor) c.if-head-gt0.true)

pub returns-else-member-eq-TRUE : goal.returns-else-member-eq-TRUE
unfolding without_member pick
returns-else-member-eq-TRUE c =
    let a = c.args in
    elim c.else-member-eq-TRUE.branch [
      | else-member-eq-TRUE-via-then-member-eq-TRUE+else-head-gt0 w ↦
          rw (le-ltb 0 (a.head % least_factor) w.if-head-gt0.false, and-false (eqb a.member 12288))
      | else-member-eq-TRUE-via-else-member-eq-TRUE w ↦ rw (ne_eqb a.member 12288 w.if-member-eq-TRUE.false)
    ]
