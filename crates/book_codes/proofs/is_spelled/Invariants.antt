-- `book_codes::is_spelled` meets its contract. Invariant: the bytes passed are characters and agree, so that those left decide.
use Prim.Native.Nat.{ℕ}
use mathlib.Core.Path.{◌≡◌}
use lib.ListN.{take, drop}
use Rattle.model.specs.Limits.{code_length}
use Rattle.model.specs.Book.{characters, same_code}
use mathlib.Core.Bool.{Bool}
use mathlib.Core.List.{List}
use lib.Seq.{slice}
use Rattle.model.specs.Base.{same_list}
use Rattle.book_codes.proofs.is_spelled.Given as goal

-- The characters wanted are those of the code from place j on.
abbrev pub agree_from : List ℕ → List ℕ → ℕ → Bool
agree_from s wanted j = same_list (drop j wanted) (characters (slice j code_length s))

abbrev pub invariant-loop-j : goal.invariant-loop-j
invariant-loop-j l = same_code l.wanted (characters (take code_length l.s)) ≡ agree_from l.s l.wanted l.j
