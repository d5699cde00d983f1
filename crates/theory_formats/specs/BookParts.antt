-- A book is its parts: what is read from a book made of given parts, and that a book of the length due is made of the parts
-- that are read from it.
use mathlib.Core.List.{List, [], ◌∷◌, ◌++◌, append-nil}
use Rattle.std.specs.Prelude.{◌≡◌, ℕ, ◌+◌, ◌*◌, ◌<◌, take, drop}
use Rattle.std.proofs.Math.Path.{refl}
use Rattle.std.proofs.Common.{sym, ap, ◌∙◌, take-append-drop, drop_at, drop-drop, get_or-drop}
use native.Mathlib.Omega.{arith}
use Rattle.std.proofs.Math.ListN.{length, length-append, length-drop}
use Rattle.std.proofs.Math.Seq.{drop-append-add, take_all}
use Rattle.model.specs.Limits.{head_length, code_length}
use Rattle.model.specs.Book.{word, words, bytes_of, options_of, rules_of, size_of, codes_end, contents_end, length_due, pieces, codes_of, Entry, contents_of, numbers_of}
use Rattle.theory_forms.specs.Lists.{part_and_rest}
use Rattle.theory_formats.specs.Bytes.{Below, Bytes, below_drop, length_words, length_bytes, words_bytes, bytes_words, length_entries, flat, length_flat, entries_bytes, bytes_entries, pieces_part}

-- The bytes of a book of n options, with these bytes of codes, these contents and these numbers of bodies.
unfoldable pub book_of : ℕ → List ℕ → List Entry → List ℕ → List ℕ
book_of n codes es xs =
    bytes_of (n ∷ length es ∷ length xs ∷ 0 ∷ []) ++ (codes ++ (bytes_of (flat es) ++ bytes_of xs))

-- The parts fit their places in the book.
pub record Fit (n : ℕ) (codes : List ℕ) (es : List Entry) (xs : List ℕ) : Type 0 where
  pub options : n < 65536
  pub rules : length es < 65536
  pub nodes : length xs < 65536
  pub codes_long : length codes ≡ code_length * n
  pub pairs : Below 65536 (flat es)
  pub numbers : Below 65536 xs

-- What is read from a book: these parts, a zero in the fourth place of the head, and the length due.
pub record Reads (b : List ℕ) (n : ℕ) (codes : List ℕ) (es : List Entry) (xs : List ℕ) : Type 0 where
  pub options : options_of b ≡ n
  pub rules : rules_of b ≡ length es
  pub nodes : size_of b ≡ length xs
  pub fourth : word b 6 ≡ 0
  pub long : length b ≡ length_due b
  pub codes_read : codes_of b ≡ pieces code_length n codes
  pub contents : contents_of b ≡ es
  pub numbers : numbers_of b ≡ xs

module _ (n : ℕ) (codes : List ℕ) (es : List Entry) (xs : List ℕ) (h : Fit n codes es xs) where
  reads_options : options_of (book_of n codes es xs) ≡ n
  unfolding book_of options_of word bytes_of
  reads_options = omega arith

  reads_rules : rules_of (book_of n codes es xs) ≡ length es
  unfolding book_of rules_of word bytes_of
  reads_rules = omega arith

  reads_nodes : size_of (book_of n codes es xs) ≡ length xs
  unfolding book_of size_of word bytes_of
  reads_nodes = omega arith

  reads_fourth : word (book_of n codes es xs) 6 ≡ 0
  unfolding book_of word bytes_of
  reads_fourth = refl

  drop_head : (k : ℕ) → drop (head_length + k) (book_of n codes es xs) ≡ drop k (codes ++ (bytes_of (flat es) ++ bytes_of xs))
  unfolding book_of bytes_of
  drop_head k = drop-append-add (bytes_of (n ∷ length es ∷ length xs ∷ 0 ∷ [])) (codes ++ (bytes_of (flat es) ++ bytes_of xs)) k

  reads_long : length (book_of n codes es xs) ≡ length_due (book_of n codes es xs)
  unfolding length_due contents_end codes_end book_of bytes_of
  reads_long =
      rw (reads_options, reads_rules, reads_nodes)
      (omega (arith, length-append codes (bytes_of (flat es) ++ bytes_of xs), length-append (bytes_of (flat es)) (bytes_of xs), length_bytes (flat es), length_flat es, length_bytes xs))

  reads_codes : codes_of (book_of n codes es xs) ≡ pieces code_length n codes
  unfolding codes_of
  reads_codes = rw reads_options (ap (pieces code_length n) (drop_head 0) ∙ pieces_part code_length n codes (bytes_of (flat es) ++ bytes_of xs) (omega arith))

  after_codes : drop (head_length + code_length * n) (book_of n codes es xs) ≡ bytes_of (flat es) ++ bytes_of xs
  after_codes = drop_head (code_length * n) ∙ drop_at codes (bytes_of (flat es) ++ bytes_of xs) (code_length * n) h.codes_long

  reads_contents : contents_of (book_of n codes es xs) ≡ es
  unfolding contents_of codes_end
  reads_contents = rw (reads_rules, reads_options, after_codes) (entries_bytes es (bytes_of xs) h.pairs)

  after_contents : drop (head_length + code_length * n + 4 * length es) (book_of n codes es xs) ≡ bytes_of xs
  after_contents =
      sym (drop-drop (4 * length es) (head_length + code_length * n) (book_of n codes es xs))
      ∙ ap (drop (4 * length es)) after_codes
      ∙ drop_at (bytes_of (flat es)) (bytes_of xs) (4 * length es) (omega (arith, length_bytes (flat es), length_flat es))

  reads_numbers : numbers_of (book_of n codes es xs) ≡ xs
  unfolding numbers_of contents_end codes_end
  reads_numbers =
      rw (reads_nodes, reads_rules, reads_options, after_contents, ← append-nil (bytes_of xs)) (words_bytes xs [] h.numbers)

  -- A book made of parts that fit reads as these parts.
  pub book_reads : Reads (book_of n codes es xs) n codes es xs
  book_reads = record {
    options = reads_options;
    rules = reads_rules;
    nodes = reads_nodes;
    fourth = reads_fourth;
    long = reads_long;
    codes_read = reads_codes;
    contents = reads_contents;
    numbers = reads_numbers;
  }

head_read : (b : List ℕ) → words 4 b ≡ options_of b ∷ rules_of b ∷ size_of b ∷ word b 6 ∷ []
unfolding words word options_of rules_of size_of
head_read b = simp (get_or-drop, drop-drop)

module _ (b : List ℕ) (bytes : Bytes b) (zero : word b 6 ≡ 0) (long : length b ≡ length_due b) where
  head_again : bytes_of (options_of b ∷ length (contents_of b) ∷ length (numbers_of b) ∷ 0 ∷ []) ≡ take head_length b
  unfolding contents_of numbers_of length_due contents_end codes_end
  head_again = rw (length_entries, length_words, ← zero, ← head_read b) (bytes_words 4 b bytes (omega arith))

  pairs_again : bytes_of (flat (contents_of b)) ≡ take (4 * rules_of b) (drop (codes_end b) b)
  unfolding contents_of length_due contents_end
  pairs_again =
      bytes_entries (rules_of b) (drop (codes_end b) b) (below_drop (codes_end b) b bytes) (omega (arith, length-drop (codes_end b) b))

  numbers_again : bytes_of (numbers_of b) ≡ drop (contents_end b) b
  unfolding numbers_of length_due
  numbers_again =
      let left : length (drop (contents_end b) b) ≡ 2 * size_of b = omega (arith, length-drop (contents_end b) b) in
      bytes_words (size_of b) (drop (contents_end b) b) (below_drop (contents_end b) b bytes) (omega arith)
      ∙ take_all (2 * size_of b) (drop (contents_end b) b) (omega arith)

  -- A book of the length due, with a zero in the fourth place of its head, is made of the parts that are read from it.
  pub book_parts : book_of (options_of b) (take (code_length * options_of b) (drop head_length b)) (contents_of b) (numbers_of b) ≡ b
  unfolding book_of contents_end codes_end
  book_parts =
      rw (head_again, pairs_again, numbers_again, part_and_rest (4 * rules_of b) (codes_end b) b, part_and_rest (code_length * options_of b) head_length b)
      (take-append-drop head_length b)
