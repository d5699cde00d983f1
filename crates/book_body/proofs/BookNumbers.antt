-- Numbers and entries at a place of their bytes: what is left of them from a place on, and after one more.
use mathlib.Core.Bool.{true, ◌&&◌}
use mathlib.Core.List.{List, [], ◌∷◌}
use mathlib.Core.Path.{◌≡◌, refl, sym, ap, ◌∙◌}
use Prim.Native.Nat.{ℕ, zero, suc, ◌+◌, ◌*◌, ◌-◌, ◌≤◌, ◌<◌}
use native.Mathlib.Omega.{arith}
use lib.Dec.{eqb, leb}
use lib.ListN.{length, take, drop}
use lib.Seq.{drop-drop}
use Rattle.model.specs.Book.{word, words, Entry, entries, in_line}
use Rattle.theory_formats.specs.Bytes.{Bytes, word_drop}
use Rattle.theory_formats.specs.Contents.{in_line_means}
use Rattle.theory_forms.specs.Logic.{and_split}

pub word_small : (b : List ℕ) (k : ℕ) → Bytes b → word b k < 65536
unfolding word
word_small b k h = omega (arith, h k, h (suc k))

-- Of n numbers, those from the i-th on; and so of m entries.
abbrev pub words_from : ℕ → ℕ → List ℕ → List ℕ
words_from n i b = words (n - i) (drop (2 * i) b)

abbrev pub entries_from : ℕ → ℕ → List ℕ → List Entry
entries_from m i b = entries (m - i) (drop (4 * i) b)

pub entries_at :
    (m i : ℕ) (b : List ℕ) →
    i < m →
    entries_from m i b ≡ record { first = word b (4 * i); count = word b (4 * i + 2) } ∷ entries_from m (i + 1) b
unfolding entries
entries_at m i b h =
    let left : m - i ≡ suc (m - (i + 1)) = omega arith in
    let here : 4 * i + 0 ≡ 4 * i = omega arith in
    let next : 4 * i + 4 ≡ 4 * (i + 1) = omega arith in
    rw (left, word_drop (4 * i) 0 b, word_drop (4 * i) 2 b, drop-drop 4 (4 * i) b, here, next)

-- Numbers read from just their own bytes.
pub words_taken : (n : ℕ) (b : List ℕ) → 2 * n ≤ length b → words n (take (2 * n) b) ≡ words n b
unfolding words word
words_taken zero b h = refl
words_taken (suc n) [] h = absurd (omega arith)
words_taken (suc n) (x ∷ []) h = absurd (omega arith)
words_taken (suc n) (x ∷ y ∷ b) h =
    let twice : 2 * suc n ≡ suc (suc (2 * n)) = omega arith in
    rw twice (ap (λ xs. (x + 256 * y) ∷ xs) (words_taken n b (omega arith)))

-- The numbers after the first k.
pub drop_words : (k n : ℕ) (b : List ℕ) → drop k (words n b) ≡ words_from n k b
unfolding words
drop_words zero n b = let whole : n - 0 ≡ n = omega arith in rw whole
drop_words (suc k) zero b = let over : 0 - suc k ≡ 0 = omega arith in rw over
drop_words (suc k) (suc n) b =
    let left : suc n - suc k ≡ n - k = omega arith in
    let next : 2 * suc k ≡ 2 + 2 * k = omega arith in
    rw (left, next, ← drop-drop (2 * k) 2 b) (drop_words k n (drop 2 b))

pub drop_words_from : (k n i : ℕ) (b : List ℕ) → drop k (words_from n i b) ≡ words_from n (i + k) b
drop_words_from k n i b =
    let left : n - i - k ≡ n - (i + k) = omega arith in
    let next : 2 * i + 2 * k ≡ 2 * (i + k) = omega arith in
    drop_words k (n - i) (drop (2 * i) b) ∙ rw (drop-drop (2 * k) (2 * i) b, left, next)

-- Entries in line, by the first of them.
pub in_line_at :
    (total sum m i : ℕ) (b : List ℕ) →
    i < m →
    in_line total sum (entries_from m i b) ≡
    (eqb (word b (4 * i)) sum && leb 1 (word b (4 * i + 2)) && in_line total (sum + word b (4 * i + 2)) (entries_from m (i + 1) b))
unfolding in_line
in_line_at total sum m i b h = rw (entries_at m i b h)

pub in_line_after :
    (total sum m i : ℕ) (b : List ℕ) →
    i < m →
    in_line total sum (entries_from m i b) ≡ true →
    in_line total (sum + word b (4 * i + 2)) (entries_from m (i + 1) b) ≡ true
in_line_after total sum m i b h e =
    (and_split (eqb (word b (4 * i)) sum && leb 1 (word b (4 * i + 2))) _ (sym (in_line_at total sum m i b h) ∙ e)).1

-- No sum on the way exceeds the total.
pub in_line_sum : (total sum : ℕ) (es : List Entry) → in_line total sum es ≡ true → sum ≤ total
in_line_sum total sum es h = omega (arith, (in_line_means total sum es h).2)
