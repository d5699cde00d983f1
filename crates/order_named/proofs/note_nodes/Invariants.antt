-- `order_named::note_nodes` meets its contract. Invariant: the first i nodes are noted.
use Rattle.model.specs.Book.{words}
use Rattle.order_named.specs.Noting.{Adds, place_named}
use Rattle.order_named.proofs.Passes.{among}
use Rattle.order_named.proofs.note_nodes.Given as goal

abbrev pub invariant-loop-i : goal.invariant-loop-i
invariant-loop-i l = Adds (among place_named (words l.count l.s) l.i) l.initial.named l.named
