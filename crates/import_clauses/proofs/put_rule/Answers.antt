-- `import_clauses::put_rule` meets its contract: the any-of as two bytes, and the pair.
use Rattle.import_clauses.proofs.NodeStores.{rule_closed}
use Rattle.import_clauses.proofs.put_rule.Goals as goal

pub returns : goal.returns
returns c =
    let node = c in
    let a = node.args in
    rule_closed a.contents a.bodies a.k a.first a.next a.out.now node.put_word.ensures
    c.put_pair.ensures
