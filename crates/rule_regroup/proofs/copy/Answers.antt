-- `rule_regroup::copy` meets its contract: what is written stands between the numbers before it and those after it.
use Rattle.rule_regroup.proofs.Append.{appended_put}
use Rattle.rule_regroup.proofs.copy.Goals as goal

pub returns : goal.returns
returns c =
    let a = c.args in
    rw c.copy_from_slice.ensures.after (appended_put a.from.now a.at a.out.now c.requires)
