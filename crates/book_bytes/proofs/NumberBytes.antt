-- One number more of those that are written as bytes.
use mathlib.Core.List.{List, [], ◌∷◌, ◌++◌}
use mathlib.Core.Path.{◌≡◌, refl, ap, ◌∙◌}
use Prim.Native.Nat.{ℕ, ◌+◌, ◌*◌, ◌/◌, ◌%◌, ◌<◌}
use lib.ListN.{length, drop, set}
use Rattle.model.specs.Book.{bytes_of}
use Rattle.theory_formats.specs.Bytes.{length_bytes}
use Rattle.common_lists.proofs.Starts.{start_pair}

pub bytes_append : (xs ys : List ℕ) → bytes_of (xs ++ ys) ≡ bytes_of xs ++ bytes_of ys
unfolding bytes_of
bytes_append [] ys = refl
bytes_append (x ∷ xs) ys = ap (λ r. x % 256 ∷ x / 256 % 256 ∷ r) (bytes_append xs ys)

-- A number written as two bytes after numbers that were written before.
pub bytes_more :
    (xs old : List ℕ) (x : ℕ) {l : List ℕ} {n : ℕ} →
    2 * length xs ≡ n →
    n + 1 < length old →
    l ≡ bytes_of xs ++ drop n old →
    set (set l n (x % 256)) (n + 1) (x / 256 % 256) ≡ bytes_of (xs ++ (x ∷ [])) ++ drop (n + 2) old
unfolding bytes_of
bytes_more xs old x long h e =
    rw (bytes_append xs (x ∷ [])) (start_pair (bytes_of xs) old (x % 256) (x / 256 % 256) (length_bytes xs ∙ long) h e)
