-- `book_codes::is_code` meets its contract. Invariant: the bytes passed are characters, so that those left decide.
use Prim.Native.Nat.{ℕ}
use mathlib.Core.Bool.{Bool}
use mathlib.Core.List.{List}
use mathlib.Core.Path.{◌≡◌}
use lib.ListN.{take}
use lib.Seq.{slice}
use Rattle.model.specs.Limits.{code_length}
use Rattle.model.specs.Book.{then_zeros, code_ok}
use Rattle.book_codes.proofs.is_code.Given as goal

-- A code is characters, then zeros, from byte k on; the same, told by byte k and those after it.
abbrev pub ok_from : List ℕ → ℕ → Bool
ok_from s k = then_zeros (slice k code_length s)

abbrev pub invariant-loop-k : goal.invariant-loop-k
invariant-loop-k l = code_ok (take code_length l.s) ≡ ok_from l.s l.k
