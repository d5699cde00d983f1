-- `step::applies_headed` meets its contract: the rule's number says which family is asked.
use mathlib.Core.Path.{◌≡◌, sym, subst}
use native.Mathlib.Omega.{arith}
use Rattle.model.specs.Base.{is_some}
use Rattle.model.specs.Rules.{rewrite}
use Rattle.theory_rewriting.specs.Heads.{Headed}
use Rattle.theory_reading.specs.Stretches.{forest_in}
use Rattle.step.proofs.applies_headed.Goals as goal
use Rattle.step.proofs.applies_headed.Goals.{In_default}
use Rattle.step.proofs.applies_headed.Goals.{in_default-via-then-rule-lt1, in_default-via-else-rule-lt1+else-rule-lt9+else-rule-lt11+else-rule-lt14}

-- Past the ranges the rule is 15.
last : (c : goal.In_default) → c.args.rule ≡ 15
last c =
    elim c.in_default.branch [
      | in_default-via-then-rule-lt1 w ↦ omega arith
      | in_default-via-else-rule-lt1+else-rule-lt9+else-rule-lt11+else-rule-lt14 w ↦ omega arith
    ]

pub applies-requires : goal.applies-requires
applies-requires c =
    record { stretch = c.requires.stretch; headed = subst (λ r. Headed r c.args.part.now) c.in-14.is c.requires.headed; i_bound = c.requires.i_bound }

pub drops-requires : goal.drops-requires
drops-requires c =
    record {
      stretch = c.requires.stretch;
      headed = subst (λ r. Headed r c.args.part.now) (last (goal.at.drops-requires c).In_default) c.requires.headed;
      i_bound = c.requires.i_bound;
    }

pub returns-in-14 : goal.returns-in-14
returns-in-14 c =
    let a = c.args in
    subst (λ r. c.applies.result ≡ is_some (rewrite r a.i a.j (forest_in a.part.now))) (sym c.in-14.is) c.applies.ensures

pub returns-in_default : goal.returns-in_default
returns-in_default c =
    let a = c.args in
    subst (λ r. c.drops.result ≡ is_some (rewrite r a.i a.j (forest_in a.part.now)))
    (sym (last (goal.at.returns-in_default c).In_default)) c.drops.ensures
