-- Codes that are well-formed and different, and a code that comes again: one code more of those from a place on.
use Prim.Native.Nat.{ℕ, ◌+◌, ◌≤◌, ◌<◌}
use mathlib.Core.Bool.{Bool, true, false, ◌&&◌, ◌||◌, not}
use mathlib.Core.List.{List}
use mathlib.Core.Path.{◌≡◌}
use Rattle.model.specs.Base.{any}
use Rattle.model.specs.Book.{same_code, code_ok, codes_ok}
use Rattle.book_codes.specs.CodePlaces.{code_at, codes_from}
use Rattle.book_codes.proofs.CodesFrom.{from_cons, from_next, from_past}
use Rattle.book_distinct_codes.specs.Hashes.{comes_from, comes_after}

-- The codes from code i on are well-formed and different.
abbrev pub ok_from : ℕ → List ℕ → ℕ → Bool
ok_from n s i = codes_ok (codes_from n s i)

module _ (n : ℕ) (s : List ℕ) where
  -- The codes from code i on are well-formed and different, told by code i and those after it.
  pub ok_more : (i : ℕ) → i < n → ok_from n s i ≡ code_ok (code_at s i) && not (comes_after n s i) && ok_from n s (i + 1)
  unfolding codes_ok
  ok_more i h = rw (from_cons n s i h, from_next n s i)

  pub ok_past : (i : ℕ) → n ≤ i → ok_from n s i ≡ true
  unfolding codes_ok
  ok_past i h = rw (from_past n s i h)

  -- Some code from code i on is d, told by code i and those after it.
  pub comes_more : (d : List ℕ) (i : ℕ) → i < n → comes_from d n s i ≡ same_code d (code_at s i) || comes_from d n s (i + 1)
  unfolding any
  comes_more d i h = rw (from_cons n s i h, from_next n s i)

  pub comes_past : (d : List ℕ) (i : ℕ) → n ≤ i → comes_from d n s i ≡ false
  unfolding any
  comes_past d i h = rw (from_past n s i h)
