-- Numbers as bytes and back: what is read from bytes that were written, and what is written of bytes that were read.
use Rattle.std.specs.Prelude.{Bool, true, ◌≡◌, refl, ℕ, zero, suc, ◌+◌, ◌*◌, ◌/◌, ◌%◌, ◌≤◌, ◌<◌, length, get_or, take, drop}
use mathlib.Core.List.{List, [], ◌∷◌, ◌++◌, flatten}
use Rattle.std.proofs.Common.{ap, ap₂, ◌∙◌, mul-zero, mul-suc, arith, length-drop, get_or-drop, drop-drop, take-add}
use Rattle.std.proofs.lemmas.List.{take-append-le, drop-append-le}
use Rattle.model.specs.Base.{all}
use Rattle.model.specs.Book.{word, words, bytes_of, pieces, Entry, entries}
use Rattle.theory_forms.specs.Logic.{and_split}

-- Every number of a list is below a bound. A slice of `u8` has it for 256, one of `u16` for 65,536.
abbrev pub Below : ℕ → List ℕ → Type 0
Below m xs = (i : ℕ) → get_or xs i 0 < m

abbrev pub Bytes : List ℕ → Type 0
Bytes b = Below 256 b

pub below_drop : {m : ℕ} (n : ℕ) (xs : List ℕ) → Below m xs → Below m (drop n xs)
below_drop n xs h i = rw (get_or-drop n xs i 0) (h (n + i))

pub below_cons : {m x : ℕ} (xs : List ℕ) → x < m → Below m xs → Below m (x ∷ xs)
below_cons xs p h zero = p
below_cons xs p h (suc i) = h i

pub below_all : {m : ℕ} (p : ℕ → Bool) (xs : List ℕ) → 0 < m → ((x : ℕ) → p x ≡ true → x < m) → all p xs ≡ true → Below m xs
unfolding all
below_all p [] z h e = λ i. z
below_all p (x ∷ xs) z h e =
    let s = and_split (p x) (all p xs) e in below_cons xs (h x s.0) (below_all p xs z h s.1)

pub length_words : (n : ℕ) (b : List ℕ) → length (words n b) ≡ n
unfolding words
length_words zero b = refl
length_words (suc n) b = ap suc (length_words n (drop 2 b))

pub word_drop : (n k : ℕ) (b : List ℕ) → word (drop n b) k ≡ word b (n + k)
unfolding word
word_drop n k b = let one : n + suc k ≡ suc (n + k) = omega arith in rw (get_or-drop n b k 0, get_or-drop n b (suc k) 0, one)

pub word_among : (n i : ℕ) (b : List ℕ) → i < n → get_or (words n b) i 0 ≡ word b (2 * i)
unfolding words
word_among zero i b h = absurd (omega arith)
word_among (suc n) zero b h = refl
word_among (suc n) (suc i) b h =
    let next : 2 + 2 * i ≡ 2 * suc i = omega arith in
    word_among n i (drop 2 b) (omega arith) ∙ word_drop 2 (2 * i) b ∙ ap (word b) next

pub take_words : (k n : ℕ) (b : List ℕ) → k ≤ n → take k (words n b) ≡ words k b
unfolding words
take_words zero n b h = refl
take_words (suc k) zero b h = absurd (omega arith)
take_words (suc k) (suc n) b h = ap (λ xs. word b 0 ∷ xs) (take_words k n (drop 2 b) (omega arith))

pub length_bytes : (xs : List ℕ) → length (bytes_of xs) ≡ 2 * length xs
unfolding bytes_of
length_bytes [] = refl
length_bytes (x ∷ xs) = omega (arith, length_bytes xs)

-- Numbers of 16 bits written as bytes are read again, whatever comes after them.
pub words_bytes : (xs r : List ℕ) → Below 65536 xs → words (length xs) (bytes_of xs ++ r) ≡ xs
unfolding words word bytes_of
words_bytes [] r h = refl
words_bytes (x ∷ xs) r h = ap₂ ◌∷◌ (omega (arith, h 0)) (words_bytes xs r (λ i. h (suc i)))

-- Bytes read as numbers are written again.
pub bytes_words : (n : ℕ) (b : List ℕ) → Bytes b → 2 * n ≤ length b → bytes_of (words n b) ≡ take (2 * n) b
unfolding words word bytes_of
bytes_words zero b h e = refl
bytes_words (suc n) [] h e = absurd (omega arith)
bytes_words (suc n) (x ∷ []) h e = absurd (omega arith)
bytes_words (suc n) (x ∷ y ∷ b) h e =
    let twice : 2 * suc n ≡ suc (suc (2 * n)) = omega arith in
    let above : (x + 256 * y) / 256 ≡ y = omega (arith, h 0) in
    let low : (x + 256 * y) % 256 ≡ x = omega arith in
    let high : (x + 256 * y) / 256 % 256 ≡ y = rw above (omega (arith, h 1)) in
    rw (twice, low, high) (ap (λ r. x ∷ y ∷ r) (bytes_words n b (λ i. h (suc (suc i))) (omega arith)))

-- The pairs of the contents as one list of numbers.
unfoldable pub flat : List Entry → List ℕ
flat [] = []
flat (e ∷ es) = e.first ∷ e.count ∷ flat es

pub length_entries : (m : ℕ) (b : List ℕ) → length (entries m b) ≡ m
unfolding entries
length_entries zero b = refl
length_entries (suc m) b = ap suc (length_entries m (drop 4 b))

pub length_flat : (es : List Entry) → length (flat es) ≡ 2 * length es
unfolding flat
length_flat [] = refl
length_flat (e ∷ es) = omega (arith, length_flat es)

-- Pairs written as bytes are read again, whatever comes after them; and pairs that were read are written again.
pub entries_bytes : (es : List Entry) (r : List ℕ) → Below 65536 (flat es) → entries (length es) (bytes_of (flat es) ++ r) ≡ es
unfolding entries word bytes_of flat
entries_bytes [] r h = refl
entries_bytes (e ∷ es) r h =
    let p : word (bytes_of (flat (e ∷ es)) ++ r) 0 ≡ e.first = omega (arith, h 0) in
    let q : word (bytes_of (flat (e ∷ es)) ++ r) 2 ≡ e.count = omega (arith, h 1) in
    ap₂ ◌∷◌ (ap₂ (λ a b. record { first = a; count = b }) p q) (entries_bytes es r (λ i. h (suc (suc i))))

flat_entries : (m : ℕ) (b : List ℕ) → flat (entries m b) ≡ words (2 * m) b
unfolding entries words word flat
flat_entries zero b = refl
flat_entries (suc m) b =
    let twice : 2 * suc m ≡ suc (suc (2 * m)) = omega arith in
    rw twice (simp (get_or-drop, drop-drop, flat_entries m (drop 4 b)))

pub bytes_entries : (m : ℕ) (b : List ℕ) → Bytes b → 4 * m ≤ length b → bytes_of (flat (entries m b)) ≡ take (4 * m) b
bytes_entries m b h e =
    let both : 2 * (2 * m) ≡ 4 * m = omega arith in
    ap bytes_of (flat_entries m b) ∙ bytes_words (2 * m) b h (omega arith) ∙ ap (λ k. take k b) both

-- Pieces of one length, put together, are what they were cut from; and they are the same whatever comes after that.
pub flatten_pieces : (k n : ℕ) (b : List ℕ) → flatten (pieces k n b) ≡ take (k * n) b
unfolding pieces flatten
flatten_pieces k zero b = rw (mul-zero k)
flatten_pieces k (suc n) b =
    let longer : k * suc n ≡ k + k * n = omega (arith, mul-suc k n) in
    rw (longer, take-add) (ap (λ r. take k b ++ r) (flatten_pieces k n (drop k b)))

pub pieces_part : (k n : ℕ) (b r : List ℕ) → k * n ≤ length b → pieces k n (b ++ r) ≡ pieces k n b
unfolding pieces
pieces_part k zero b r h = refl
pieces_part k (suc n) b r h =
    let fits : k + k * n ≤ length b = omega (arith, mul-suc k n) in
    let first : k ≤ length b = omega arith in
    let rest : k * n ≤ length (drop k b) = omega (arith, length-drop k b) in
    rw (take-append-le, drop-append-le) (ap (λ ps. take k b ∷ ps) (pieces_part k n (drop k b) r rest))
