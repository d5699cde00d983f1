use mathlib.Core.Path.{◌≡◌, sym, ◌∙◌}
use native.Mathlib.Omega.{arith}
use Rattle.report_propagation.proofs.Following.{passed_none, passed_more, due_begins}
use Rattle.report_propagation.proofs.next_due.Goals as goal
use Rattle.report_propagation.proofs.next_due.Goals.{After-part_at-part}

pub loop-n-init : goal.loop-n-init
loop-n-init c =
    let e = c.from-n.ensures in
    record {
      descends = c.requires.descends;
      homes_near = c.requires.by_index;
      near = rw e (c.requires.descends.place c.args.turn.place);
      down = rw e (c.requires.descends.down c.args.turn.place);
      passed = λ s q table links small on. rw e (passed_none table links small on);
    }

pub returns-then-is_due : goal.returns-then-is_due
returns-then-is_due c =
    let part = c.part_at-part in
    let w = c.loop-n.invariant in
    let begins = due_begins _ _ _ (sym c.is_due.ensures ∙ c.if-is_due.true) in
    record {
      some = c.loop-n-test.true;
      near = w.near;
      down = w.down;
      begins = omega (arith, begins, part.ensures.0, rw part.ensures.0 at part.ensures.1);
      passed = w.passed;
    }

pub loop-n-preserved : goal.loop-n-preserved
loop-n-preserved c =
    let n = c.loop-n.n in
    let w = c.loop-n.invariant in
    let l = c.loop-n-test.true in
    let part = c.part_at-part in
    let e = c.from-n-in-loop-n.ensures in
    let seen = c.from.ensures in
    let idle = rw seen at (sym c.is_due.ensures ∙ c.if-is_due.false) in
    record {
      descends = w.descends;
      homes_near = w.homes_near;
      near = rw e (w.descends.place n);
      down = omega (arith, w.down, e, w.descends.down n);
      passed = λ s q table links small on.
          rw e (passed_more table links small l part.ensures.0 part.ensures.1 idle (w.passed s q table links small on));
    }

pub returns : goal.returns
returns c =
    let w = c.loop-n.invariant in
    let z : c.loop-n.n ≡ 0 = omega (arith, c.loop-n-test.false) in
    rw z at w.passed
