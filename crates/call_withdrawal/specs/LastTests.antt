-- What is tested of a withdrawal once the sheet, the book and the lines are known to be good.
use Rattle.std.specs.Prelude.{not, List, ℕ, ◌+◌, ◌-◌, ◌*◌, ltb}
use Rattle.std.proofs.Math.Option.{Option}
use Rattle.model.specs.Code.{weight}
use Rattle.model.specs.Limits.{most_weight, literal_weight}
use Rattle.model.specs.Book.{book_nodes}
use Rattle.calls.specs.Refusals.{Refusal, due, ◌or_else◌, line_refused, full_refused}

unfoldable pub line_refusal : List ℕ → ℕ → ℕ → Option Refusal
line_refusal b count k =
    due (not (ltb k count)) line_refused
    or_else due (ltb most_weight (weight (book_nodes b) + literal_weight * (count - 1))) full_refused
