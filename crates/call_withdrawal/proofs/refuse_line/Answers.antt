-- `call_withdrawal::refuse_line` meets its contract: no such line, no room, or neither.
use mathlib.Core.Path.{◌≡◌}
use Prim.Native.Nat.{◌+◌, ◌-◌, ◌*◌}
use native.Mathlib.Omega.{arith}
use Rattle.model.specs.Limits.{literal_weight}
use Rattle.model.specs.Code.{weight}
use Rattle.model.specs.Book.{book_nodes}
use Rattle.call_withdrawal.proofs.WithdrawalAnswers.{no_line, no_room, room}
use Rattle.call_withdrawal.proofs.refuse_line.Goals as goal
use Rattle.call_withdrawal.proofs.refuse_line.Goals.{After-add_weights}

-- The book's weight with that of the lines that stand, as it was summed.
summed :
    (c : goal.After-add_weights) →
    let a = c.args in
    c.add_weights.result ≡ weight (book_nodes a.book.now) + literal_weight * (a.count - 1)
summed c = omega (arith, c.add_weights.ensures.0, c.weigh_book-weight.ensures.0)

pub returns-then-from-k : goal.returns-then-from-k
returns-then-from-k c = no_line _ _ _ (omega (arith, c.if-from-k.true))

pub weigh_book-weight-requires : goal.weigh_book-weight-requires
weigh_book-weight-requires c = let a = c.requires.0 in (omega (arith, a.nodes), omega (arith, a.long))

pub add_weights-requires : goal.add_weights-requires
add_weights-requires c = omega (arith, c.weigh_book-weight.ensures.0, c.requires.0.weight, c.requires.1)

pub returns-then-add_weights-gt-MOST_WEIGHT : goal.returns-then-add_weights-gt-MOST_WEIGHT
returns-then-add_weights-gt-MOST_WEIGHT c =
    no_room _ _ _ (omega (arith, c.if-from-k.false))
    (omega (arith, summed (goal.at.returns-then-add_weights-gt-MOST_WEIGHT c).After-add_weights, c.if-add_weights-gt-MOST_WEIGHT.true))

pub returns : goal.returns
returns c =
    room _ _ _ (omega (arith, c.if-from-k.false))
    (omega (arith, summed (goal.at.returns c).After-add_weights, c.if-add_weights-gt-MOST_WEIGHT.false))
