-- Codes cut from bytes: how many there are, and one more of them.
use Prim.Native.Nat.{ℕ, zero, suc, ◌+◌, ◌*◌}
use mathlib.Core.List.{List, [], ◌∷◌, ◌++◌}
use mathlib.Core.Path.{◌≡◌, refl, ap}
use native.Mathlib.Omega.{arith}
use lib.ListN.{length, take, drop}
use lib.Seq.{drop-drop}
use Rattle.model.specs.Book.{pieces}

pub count_pieces : (k n : ℕ) (s : List ℕ) → length (pieces k n s) ≡ n
unfolding pieces
count_pieces k zero s = refl
count_pieces k (suc n) s = ap suc (count_pieces k n (drop k s))

pub pieces_more : (k i : ℕ) (s : List ℕ) → pieces k (suc i) s ≡ pieces k i s ++ (take k (drop (k * i) s) ∷ [])
unfolding pieces
pieces_more k zero s = let e : k * 0 ≡ 0 = omega arith in rw e
pieces_more k (suc i) s =
    let e : k * suc i ≡ k + k * i = omega arith in
    rw (e, ← drop-drop (k * i) k s) (ap (λ r. take k s ∷ r) (pieces_more k i (drop k s)))
