-- `common_weight::weigh_book` meets its contract. Invariant: what is summed and what is to come, and that the sum is at most 8,192.
use Prim.Native.Nat.{◌+◌, ◌≤◌}
use Rattle.model.specs.Code.{weight}
use Rattle.model.specs.Book.{size_of, numbers_of, book_nodes}
use Rattle.common_weight.specs.Sums.{most_sum}
use Rattle.common_weight.proofs.Weighing.{Weighed}
use Rattle.common_weight.proofs.weigh_book.Given as goal

abbrev pub invariant-loop-i : goal.invariant-loop-i
invariant-loop-i l = Weighed (1 + size_of l.book) (numbers_of l.book) (weight (book_nodes l.book)) l.i l.sum × (l.sum ≤ most_sum)
