-- `book_codes::is_character` meets its contract: the ranges of the definition are the letters and the digits.
use Rattle.std.proofs.Common.{arith}
use Rattle.std.proofs.lemmas.Bool.Decides.{nat_tests}
use Rattle.model.specs.Book.{between, character}
use Rattle.book_codes.proofs.is_character.Goals as goal

pub returns-then-is_ascii_alphanumeric : goal.returns-then-is_ascii_alphanumeric
unfolding character between
returns-then-is_ascii_alphanumeric c = grind (arith, nat_tests)

pub returns-else-is_ascii_alphanumeric : goal.returns-else-is_ascii_alphanumeric
unfolding character between
returns-else-is_ascii_alphanumeric c = grind (arith, nat_tests)
