-- `book_distinct_codes::comes_again` meets its contract. Invariant: the code stands among the later ones if it stands among those from place q on,
-- and code q has its hash. Measure: the codes left, since each place leads to a later one.
use Prim.Native.Nat.{◌-◌, ℕ, ◌<◌}
use mathlib.Core.List.{List}
use mathlib.Core.Path.{◌≡◌}
use Rattle.book_codes.specs.CodePlaces.{code_at}
use Rattle.book_distinct_codes.specs.Hashes.{comes_from, comes_after, hash}
use Rattle.book_distinct_codes.proofs.comes_again.Given as goal

-- The later codes of the hash before place q were looked through, and none was the code.
pub record Walked (n : ℕ) (s : List ℕ) (i q : ℕ) : Type 0 where
  pub later : i < q
  pub alike : q < n → hash (code_at s q) ≡ hash (code_at s i)
  pub left : comes_after n s i ≡ comes_from (code_at s i) n s q

abbrev pub invariant-loop-q : goal.invariant-loop-q
invariant-loop-q l = Walked l.n l.s l.i l.q

abbrev pub decreases-loop-q : goal.decreases-loop-q
decreases-loop-q l = l.n - l.q
