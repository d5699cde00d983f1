-- `import_clauses::put_pair` meets its contract: two numbers of two bytes each.
use Prim.Native.Nat.{◌+◌, ◌*◌}
use Rattle.import_clauses.proofs.Stores.{pair_stored}
use Rattle.import_clauses.proofs.put_pair.Goals as goal

pub returns : goal.returns
returns c =
    let first = c in
    let a = first.args in
    pair_stored a.out.now (a.contents + 4 * a.k) a.first a.count first.put_word.ensures
    c.put_word-2.ensures
