-- `desk_printing::count_characters` meets its contract. Invariant: the characters are the bytes passed, and those of the bytes that are left.
use mathlib.Core.List.{◌++◌}
use mathlib.Core.Path.{◌≡◌}
use lib.ListN.{take}
use lib.Seq.{slice}
use Rattle.model.specs.Book.{characters}
use Rattle.desk_printing.proofs.count_characters.Given as goal

abbrev pub invariant-loop-k : goal.invariant-loop-k
invariant-loop-k l = characters (take 13 l.code) ≡ take l.k l.code ++ characters (slice l.k 13 l.code)
