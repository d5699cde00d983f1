-- `rule_spread::opposite_of` meets its contract.
use mathlib.Core.Path.{sym}
use borrow.Author.Tests.{lt-ltb, le-ltb}
use Rattle.rule_spread.specs.Assigning.{opposite}
use Rattle.theory_forms.specs.Logic.{pick_true, pick_false}
use Rattle.rule_spread.proofs.opposite_of.Goals as goal

pub returns-then-x-lt-BARRED_KIND : goal.returns-then-x-lt-BARRED_KIND
unfolding opposite
returns-then-x-lt-BARRED_KIND c = sym (pick_true _ _ _ (lt-ltb _ _ c.if-x-lt-BARRED_KIND.true))

pub returns-else-x-lt-BARRED_KIND : goal.returns-else-x-lt-BARRED_KIND
unfolding opposite
returns-else-x-lt-BARRED_KIND c = sym (pick_false _ _ _ (le-ltb _ _ c.if-x-lt-BARRED_KIND.false))
