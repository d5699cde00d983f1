-- `rule_least::ends` meets its contract: i and j are 0, and the head's number is at an end.
use mathlib.Core.Logic.{⊎_elim}
use mathlib.Core.Path.{ap, ◌∙◌}
use native.Mathlib.Omega.{arith}
use borrow.Author.Tests.{ne_eqb}
use Rattle.theory_rewriting.specs.Heads.{headed_least}
use Rattle.theory_rewriting.specs.Children.{headed_group, group_long}
use Rattle.rule_least.specs.LeastHeads.{is_ended}
use Rattle.rule_least.proofs.Ending.{ends_not_child, ends_not_inner, ends_number}
use Rattle.rule_least.proofs.ends.Goals as goal
use Rattle.rule_least.proofs.ends.Goals.{then-i-eq0, else-i-eq0}

pub returns-else-j-eq0 : goal.returns-else-j-eq0
returns-else-j-eq0 c =
    let h = c.requires.headed in
    let least = (headed_least h (omega (arith, c.requires.le_rule.0))).1 in
    elim c.if-i-eq0.branch [
      | then-i-eq0 w ↦
          let inner = ⊎_elim (λ q. q.1) (λ q. absurd (q w.if-i-eq0.true)) c.if-j-eq0.either in
          w.t-6-is ∙ ne_eqb c.args.j 0 inner
          ∙ ends_not_inner c.requires.stretch h c.args.i c.args.j least c.requires.le_rule.0 c.requires.le_rule.1 inner
      | else-i-eq0 w ↦
          w.t-6-is ∙ ne_eqb c.args.i 0 w.if-i-eq0.false
          ∙ ends_not_child c.requires.stretch h c.args.i c.args.j least c.requires.le_rule.0 c.requires.le_rule.1 w.if-i-eq0.false
    ]

pub bounds-part-0 : goal.bounds-part-0
bounds-part-0 c =
    omega (arith, group_long (headed_group c.requires.stretch c.requires.headed))

pub returns-then-j-eq0 : goal.returns-then-j-eq0
returns-then-j-eq0 c =
    let h = c.requires.headed in
    c.is_ended.ensures
    ∙ ap (λ x. is_ended x c.args.rule) c.from.ensures
    ∙ ends_number c.requires.stretch h c.args.i c.args.j
    (headed_least h (omega (arith, c.requires.le_rule.0))).1 c.requires.le_rule.0 c.requires.le_rule.1 (omega arith) (omega arith)
