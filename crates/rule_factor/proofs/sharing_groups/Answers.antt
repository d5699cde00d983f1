use Prim.Native.Nat.{◌+◌, ◌-◌, ◌≤◌, ◌<◌}
use mathlib.Core.Path.{◌≡◌, sym, ap, ◌∙◌}
use native.Mathlib.Omega.{arith}
use lib.ListN.{length, drop, length-drop}
use Rattle.common_lists.proofs.Lent.{lent_part}
use Rattle.model.specs.Base.{only_if}
use Rattle.theory_reading.specs.Spans.{span, span_within}
use Rattle.rule_factor.specs.Walks.{all_share, groups_in, shares_here}
use Rattle.rule_factor.proofs.Walk.{share_none, share_end, share_fails, share_further, groups_none, groups_end, groups_step}
use Rattle.rule_factor.proofs.sharing_groups.Goals as goal
use Rattle.rule_factor.proofs.sharing_groups.Goals.{After-shares}

-- What is found of the tree at the present place.
shown :
    (c : goal.After-shares) →
    c.shares.result ≡ shares_here c.args.literal (drop c.loop-passed.at c.args.part.now)
shown c = rw (lent_part c.loop-passed.at c.args.part.now) at c.shares.ensures

pub loop-passed-init : goal.loop-passed-init
loop-passed-init c =
    let a = c.args in
    let all : a.trees ≡ a.trees - 0 = omega arith in
    (omega arith, omega arith, ap (λ n. all_share a.literal n a.part.now) all, omega (arith, ap (λ n. groups_in n a.part.now) all))

pub shares-requires : goal.shares-requires
shares-requires c =
    let l = c.args.part.now in
    rw (lent_part c.loop-passed.at l) (omega (arith, length-drop c.loop-passed.at l), omega (arith, length-drop c.loop-passed.at l))

pub returns-then-not-shares : goal.returns-then-not-shares
unfolding only_if
returns-then-not-shares c =
    let a = c.args in
    let none_shares = c.loop-passed.invariant.2
    ∙ share_fails a.literal (a.trees - c.loop-passed.passed) c.loop-passed.at a.part.now (omega arith) (omega arith)
    (sym (shown (goal.at.returns-then-not-shares c).After-shares) ∙ c.if-not-shares.true) in
    rw none_shares

pub loop-passed-preserved : goal.loop-passed-preserved
loop-passed-preserved c =
    let a = c.args in
    let l = a.part.now in
    let at = c.loop-passed.at in
    let left = a.trees - c.loop-passed.passed in
    let far : c.span_of-at.result ≡ span 1 (drop at l) = rw (lent_part at l) at c.span_of-at.ensures.0 in
    let fewer : a.trees - (c.loop-passed.passed + 1) ≡ left - 1 = omega arith in
    let inside : at < length l = omega arith in
    let share = share_further a.literal left at l (omega arith) inside
    (sym (shown (goal.at.loop-passed-preserved c).After-shares) ∙ c.if-not-shares.false) in
    let count = groups_step left at l (omega arith) inside in
    let here = c.group_of-groups.ensures.0 in (
      omega (arith, span_within 1 (drop at l), length-drop at l),
      omega (arith, c.group_of-groups.ensures.1),
      c.loop-passed.invariant.2 ∙ rw (far, fewer) share,
      rw (far, fewer) (omega arith),
    )

pub returns-then-at-part : goal.returns-then-at-part
unfolding only_if
returns-then-at-part c =
    let a = c.args in
    let l = a.part.now in
    let at = c.loop-passed.at in
    let left = a.trees - c.loop-passed.passed in
    let past : length l ≤ at = omega arith in
    let count : groups_in a.trees l ≡ c.loop-passed.groups = omega (arith, groups_end left at l past) in
    rw (c.loop-passed.invariant.2 ∙ share_end a.literal left at l past, count)

pub returns : goal.returns
unfolding only_if
returns c =
    let a = c.args in
    let l = a.part.now in
    let at = c.loop-passed.at in
    let left = a.trees - c.loop-passed.passed in
    let end : left ≡ 0 = omega arith in
    let count : groups_in a.trees l ≡ c.loop-passed.groups = omega (arith, groups_none left at l end) in
    rw (c.loop-passed.invariant.2 ∙ share_none a.literal left at l end, count)
