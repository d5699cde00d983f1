-- One number more of those that are read from bytes.
use mathlib.Core.List.{List, [], ◌∷◌, ◌++◌}
use mathlib.Core.Path.{◌≡◌, refl, ap, ◌∙◌}
use Prim.Native.Nat.{ℕ, zero, suc, ◌+◌, ◌*◌}
use native.Mathlib.Numerals.{add-one}
use native.Mathlib.Omega.{arith}
use lib.ListN.{drop}
use Rattle.model.specs.Book.{word, words}
use Rattle.theory_formats.specs.Bytes.{word_drop}

words_suc : (n : ℕ) (b : List ℕ) → words (suc n) b ≡ words n b ++ (word b (2 * n) ∷ [])
unfolding words
words_suc zero b = refl
words_suc (suc n) b =
    let twice : 2 + 2 * n ≡ 2 * suc n = omega arith in
    ap (λ r. word b 0 ∷ r) (words_suc n (drop 2 b) ∙ rw (word_drop 2 (2 * n) b, twice))

pub words_more : (n : ℕ) (b : List ℕ) → words (n + 1) b ≡ words n b ++ (word b (2 * n) ∷ [])
words_more n b = rw (add-one n) (words_suc n b)
