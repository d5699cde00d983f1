-- `rule_least::drops` meets its contract: j is 0, and the member's number is a constant's.
use mathlib.Core.Path.{◌∙◌}
use native.Mathlib.Omega.{arith}
use borrow.Author.Tests.{ne_eqb}
use Rattle.theory_rewriting.specs.Heads.{headed_least}
use Rattle.theory_rewriting.specs.Children.{Child, asked_child}
use Rattle.rule_least.proofs.Dropping.{drops_nothing, drops_constant}
use Rattle.rule_least.proofs.drops.Goals as goal
use Rattle.rule_least.proofs.drops.Goals.{Start}

child : (c : goal.Start) → Child c.args.part.now c.requires.headed.children c.args.i c.args.at
child c = asked_child c.requires.stretch c.requires.headed c.requires.i_bound

pub returns-else-j-eq0 : goal.returns-else-j-eq0
returns-else-j-eq0 c =
    ne_eqb c.args.j 0 c.if-j-eq0.false ∙ drops_nothing c.requires.stretch c.requires.headed c.args.i c.args.j (headed_least c.requires.headed (omega arith)).1 c.if-j-eq0.false

pub offset_bounds-part-at : goal.offset_bounds-part-at
offset_bounds-part-at c = let k = child (goal.at.offset_bounds-part-at c).Start in omega arith

pub bounds-part-at : goal.bounds-part-at
bounds-part-at c = let k = child (goal.at.bounds-part-at c).Start in omega arith

pub returns-then-j-eq0 : goal.returns-then-j-eq0
returns-then-j-eq0 c =
    rw (c.is_constant.ensures, c.requires.i_bound.1)
    (drops_constant c.requires.stretch c.requires.headed c.args.i c.args.j (headed_least c.requires.headed (omega arith)).1 (omega arith)
    (child (goal.at.returns-then-j-eq0 c).Start).there)
