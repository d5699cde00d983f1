-- `book_distinct_codes::is_repeated` meets its contract. Invariant: no code passed is the first one, so that those left decide.
use Prim.Native.Nat.{◌-◌, ℕ}
use mathlib.Core.Path.{◌≡◌}
use lib.ListN.{take, drop}
use Rattle.model.specs.Limits.{code_length}
use Rattle.book_distinct_codes.specs.Hashes.{comes_from}
use mathlib.Core.Bool.{Bool}
use mathlib.Core.List.{List}
use Rattle.model.specs.Base.{any}
use Rattle.model.specs.Book.{same_code, pieces}
use Rattle.book_distinct_codes.proofs.is_repeated.Given as goal

-- Some code after the first is the first one again.
abbrev pub again : ℕ → List ℕ → Bool
again n s = any (same_code (take code_length s)) (pieces code_length (n - 1) (drop code_length s))

abbrev pub invariant-loop-i : goal.invariant-loop-i
invariant-loop-i l = again l.n l.s ≡ comes_from (take code_length l.s) l.n l.s l.i
