-- `book_codes::is_listed` meets its contract: the table says of each byte whether it is a character.
use native.Mathlib.Omega.{arith}
use Rattle.book_codes.proofs.Listing.{looked_up}
use Rattle.book_codes.proofs.is_listed.Goals as goal

pub returns : goal.returns
returns c = rw (c.requires, c.from.ensures) (looked_up c.args.x (omega arith))
