-- `import_clauses::put_mark` meets its contract: the mark's number, as two bytes.
use mathlib.Core.Path.{◌∙◌}
use Rattle.model.specs.Literal.{literal}
use Rattle.model.specs.Code.{leaf}
use Rattle.import_clauses.proofs.NodeStores.{node_stored}
use Rattle.import_clauses.proofs.put_mark.Goals as goal

pub returns : goal.returns
returns c =
    let number = c in
    let a = number.args in
    node_stored a.bodies a.next (leaf (literal a.mark.option a.mark.barred)) a.out.now
    (c.from.ensures ∙ c.number_of-number.ensures) c.put_word.ensures
