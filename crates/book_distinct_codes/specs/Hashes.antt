-- Codes found by their hash: the tables, and what they hold.
use Rattle.std.specs.Prelude.{Bool, List, ◌≡◌, ℕ, ◌+◌, ◌*◌, ◌/◌, ◌%◌, ◌≤◌, ◌<◌, length, get_or}
use Rattle.model.specs.Base.{any}
use Rattle.model.specs.Limits.{most_options, code_length}
use Rattle.model.specs.Book.{same_code}
use Rattle.book_codes.specs.CodePlaces.{code_at, codes_after, codes_from}

-- Some code from code i on is d; some code after code i is the same.
abbrev pub comes_from : List ℕ → ℕ → List ℕ → ℕ → Bool
comes_from d n s i = any (same_code d) (codes_from n s i)

abbrev pub comes_after : ℕ → List ℕ → ℕ → Bool
comes_after n s i = any (same_code (code_at s i)) (codes_after n s i)

-- Four bytes as one number, the number of hashes, and the hash of a code. All that matters of it is that it depends on the code
-- alone.
unfoldable pub quad : List ℕ → ℕ → ℕ
quad c k = (get_or c k 0 + 256 * get_or c (k + 1) 0) + 65536 * (get_or c (k + 2) 0 + 256 * get_or c (k + 3) 0)

abbrev pub buckets : ℕ
buckets = 1024

unfoldable pub hash : List ℕ → ℕ
hash c = ((590689913 * quad c 0 + 886825557 * quad c 4) + (694313169 * quad c 8 + 932360273 * get_or c 12 0)) / 4194304 % buckets

-- From code a on, the first code of hash h stands at p, if any does.
pub record Link (n : ℕ) (s : List ℕ) (a h p : ℕ) : Type 0 where
  pub on : a ≤ p
  pub alike : p < n → hash (code_at s p) ≡ h
  pub passed : (d : List ℕ) → hash d ≡ h → comes_from d n s a ≡ comes_from d n s p

-- Each code from code a on leads to the next one of its hash.
abbrev pub Links : ℕ → List ℕ → List ℕ → ℕ → Type 0
Links n s next a = (k : ℕ) → a ≤ k → k < n → Link n s (k + 1) (hash (code_at s k)) (get_or next k 0)

-- What it takes to look for code i among the later ones of its hash.
pub record Walk (n : ℕ) (s : List ℕ) (i : ℕ) (next : List ℕ) (from : ℕ) : Type 0 where
  pub few : n ≤ most_options
  pub long : code_length * n ≤ length s
  pub here : i < n
  pub begun : Link n s (i + 1) (hash (code_at s i)) from
  pub links : Links n s next (i + 1)
