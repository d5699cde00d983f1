-- One byte more of a code, and one code more of those from a place on.
use Prim.Native.Nat.{ℕ, suc, ◌+◌, ◌*◌, ◌-◌, ◌≤◌, ◌<◌}
use mathlib.Core.List.{List, [], ◌∷◌}
use mathlib.Core.Path.{◌≡◌, ap}
use native.Mathlib.Numerals.{add-one}
use native.Mathlib.Omega.{arith}
use borrow.Author.Rules.{part_to_end}
use lib.ListN.{length, get_or}
use lib.Seq.{slice, slice-cons, drop-drop}
use Rattle.model.specs.Limits.{code_length}
use Rattle.model.specs.Book.{pieces}
use Rattle.book_codes.specs.CodePlaces.{lent_from, code_at, codes_after, codes_from}

-- What is left of a code from byte k on begins with that byte.
pub byte_more :
    (k : ℕ) (s : List ℕ) →
    k < code_length →
    code_length ≤ length s →
    slice k code_length s ≡ get_or s k 0 ∷ slice (k + 1) code_length s
byte_more k s h l = rw (add-one k) (slice-cons k code_length s 0 h l)

-- The codes from a place on: from the first, from code i, from the one after it, and past the last.
module _ (n : ℕ) (s : List ℕ) where
  pub from_first : codes_from n s 0 ≡ pieces code_length n s
  from_first = let e : n - 0 ≡ n = omega arith in rw (part_to_end s 0, e)

  pub from_cons : (i : ℕ) → i < n → codes_from n s i ≡ code_at s i ∷ codes_after n s i
  unfolding pieces
  from_cons i h = let e : n - i ≡ suc (n - i - 1) = omega arith in ap (λ k. pieces code_length k (lent_from s i)) e

  pub from_next : (i : ℕ) → codes_from n s (i + 1) ≡ codes_after n s i
  from_next i =
      let e : n - (i + 1) ≡ n - i - 1 = omega arith in
      let f : code_length * (i + 1) ≡ code_length * i + code_length = omega arith in
      rw (part_to_end s (code_length * i), part_to_end s (code_length * (i + 1)), drop-drop code_length (code_length * i) s, e, f)

  pub from_past : (i : ℕ) → n ≤ i → codes_from n s i ≡ []
  unfolding pieces
  from_past i h = let e : n - i ≡ 0 = omega arith in ap (λ k. pieces code_length k (lent_from s i)) e
