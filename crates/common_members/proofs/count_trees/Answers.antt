use mathlib.Core.Path.{sym, ap, ◌∙◌}
use Prim.Native.Nat.{◌-◌}
use lib.Seq.{drop-length}
use Rattle.common_lists.specs.Given.{given}
use Rattle.common_members.specs.Tested.{tested_first, tested_part}
use Rattle.common_members.proofs.count_trees.Goals as goal

pub loop-i-init : goal.loop-i-init
loop-i-init g c = rw (c.count-i.ensures, drop-length) (tested_first c.args.n)

pub returns-in_err-trees : goal.returns-in_err-trees
returns-in_err-trees g c =
    ap given c.from_residual.ensures
    ∙ sym (tested_part c.args.n (c.loop-i.i - 1) (g.N.Numbers.numbers c.args.numbers) (sym c.in_err-trees.ensures))
