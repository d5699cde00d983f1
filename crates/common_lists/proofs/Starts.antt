-- A list whose start is written over: what was written, then the rest of what stood there before.
use mathlib.Core.List.{List, [], ◌∷◌, ◌++◌, append_assoc}
use mathlib.Core.Path.{◌≡◌, refl, sym}
use Prim.Native.Nat.{ℕ, suc, ◌+◌, ◌<◌}
use native.Mathlib.Numerals.{add-one}
use native.Mathlib.Omega.{arith}
use lib.ListN.{length, drop, set, get_or, length-append}
use lib.Seq.{drop-cons, set_at}

-- One element more.
pub start_more :
    {A : Type 0} (p new old : List A) (a : A) {l : List A} {n : ℕ} →
    new ≡ p ++ (a ∷ []) →
    length p ≡ n →
    n < length old →
    l ≡ p ++ drop n old →
    set l n a ≡ new ++ drop (n + 1) old
start_more p new old a {n = n} f long h e =
    rw (e, f, add-one n, append_assoc p (a ∷ []) (drop (suc n) old), drop-cons old n a h)
    (set_at p (get_or old n a) (drop (suc n) old) a n long)

-- Two elements more.
pub start_pair :
    {A : Type 0} (p old : List A) (a b : A) {l : List A} {n : ℕ} →
    length p ≡ n →
    n + 1 < length old →
    l ≡ p ++ drop n old →
    set (set l n a) (n + 1) b ≡ (p ++ (a ∷ b ∷ [])) ++ drop (n + 2) old
start_pair {A} p old a b {n = n} long h e =
    let q : List A = p ++ (a ∷ []) in
    let one : length q ≡ n + 1 = omega (arith, length-append p (a ∷ [])) in
    let two : n + 2 ≡ n + 1 + 1 = omega arith in
    rw two
    (start_more q (p ++ (a ∷ b ∷ [])) old b (sym (append_assoc p (a ∷ []) (b ∷ []))) one h (start_more p q old a refl long (omega arith) e))
