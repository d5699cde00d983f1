-- `book_codes::find` meets its contract. Invariant: no code passed is the one looked for, so that those left decide.
use Prim.Native.Nat.{ℕ}
use mathlib.Core.Path.{◌≡◌}
use Rattle.model.specs.Limits.{code_length}
use Rattle.model.specs.Book.{option_of_code, pieces}
use mathlib.Core.List.{List}
use mathlib.Core.Option.{Option}
use Rattle.book_codes.specs.CodePlaces.{codes_from}
use Rattle.book_codes.proofs.find.Given as goal

-- The place of the code that is looked for, among those from code i on.
abbrev pub found_from : List ℕ → ℕ → List ℕ → ℕ → Option ℕ
found_from wanted n s i = option_of_code wanted i (codes_from n s i)

abbrev pub invariant-loop-i : goal.invariant-loop-i
invariant-loop-i l = option_of_code l.wanted 0 (pieces code_length l.n l.s) ≡ found_from l.wanted l.n l.s l.i
