-- `book_distinct_codes::quad_at` meets its contract.
use Rattle.std.proofs.Common.{rules}
use Rattle.book_distinct_codes.specs.Hashes.{quad}
use Rattle.book_distinct_codes.proofs.quad_at.Goals as goal

pub returns : goal.returns
unfolding quad
returns c = search rules
