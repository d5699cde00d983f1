-- The book of a clause file: its head and its codes are written first, then its clauses.
use mathlib.Core.List.{List, [], ◌∷◌, ◌++◌, map, flatten, append_assoc}
use mathlib.Core.Path.{◌≡◌, sym, ap, ◌∙◌}
use Prim.Native.Nat.{ℕ, suc, ◌+◌, ◌*◌, ◌≤◌, ◌<◌}
use native.Mathlib.Nat.{add-zero}
use native.Mathlib.Omega.{arith}
use lib.ListN.{length, drop, length-append, length-map}
use lib.Seq.{sets}
use Rattle.model.specs.Base.{placed}
use Rattle.model.specs.Limits.{head_length, code_length}
use Rattle.model.specs.Code.{number_of}
use Rattle.model.specs.Book.{bytes_of, lined_up}
use Rattle.texts.specs.ClauseFile.{File}
use Rattle.texts.specs.ClauseBook.{codes_to, nodes_of_file, book_of_file}
use Rattle.theory_formats.specs.Bytes.{length_bytes}
use Rattle.theory_imports.specs.Codes.{length_codes}
use Rattle.book_bytes.proofs.TreeContents.{length_lined}
use Rattle.import_clauses.specs.Drafts.{with_nodes, drafted}
use Rattle.import_clauses.proofs.Stores.{sets_append, sets_next}
use Rattle.import_clauses.proofs.DraftLaws.{all_drafted}

module _ (f : File) where
  -- The parts of the book.
  abbrev first_part : List ℕ
  first_part =
      bytes_of (f.options ∷ length f.clauses ∷ length (nodes_of_file f) ∷ 0 ∷ []) ++ flatten (codes_to f.options)

  abbrev contents_part : List ℕ
  contents_part = bytes_of (lined_up 0 (map (λ c. suc (length c)) f.clauses))

  abbrev last_part : List ℕ
  last_part = contents_part ++ bytes_of (map number_of (nodes_of_file f))

  abbrev contents_at : ℕ
  contents_at = head_length + code_length * f.options

  abbrev bodies_at : ℕ
  bodies_at = contents_at + 4 * length f.clauses

  length_first : f.options < 1000 → length first_part ≡ contents_at
  length_first few =
      let head : List ℕ = f.options ∷ length f.clauses ∷ length (nodes_of_file f) ∷ 0 ∷ [] in
      omega (arith, length-append (bytes_of head) (flatten (codes_to f.options)), length_bytes head, length_codes f.options few)

  length_contents : length contents_part ≡ 4 * length f.clauses
  length_contents =
      let ks : List ℕ = map (λ c. suc (length c)) f.clauses in
      omega (arith, length_bytes (lined_up 0 ks), length_lined 0 ks, length-map f.clauses (λ c. suc (length c)))

  book_parts : book_of_file f ≡ first_part ++ last_part
  unfolding book_of_file
  book_parts =
      sym (append_assoc (bytes_of (f.options ∷ length f.clauses ∷ length (nodes_of_file f) ∷ 0 ∷ []))
      (flatten (codes_to f.options)) last_part)

  pub length_book : f.options < 1000 → length (book_of_file f) ≡ bodies_at + 2 * length (nodes_of_file f)
  length_book few =
      let numbers : List ℕ = map number_of (nodes_of_file f) in
      omega (
        arith,
        ap length book_parts,
        length-append first_part last_part,
        length_first few,
        length-append contents_part (bytes_of numbers),
        length_contents,
        length_bytes numbers,
        length-map (nodes_of_file f) number_of,
      )

  -- The clauses, all written: contents and bodies follow one another.
  last_drafted :
      (l : List ℕ) →
      drafted contents_at bodies_at 0 0 1 f.clauses l
      ≡ sets l (contents_at) last_part
  unfolding with_nodes nodes_of_file
  last_drafted l =
      let bodies : bodies_at + 0 ≡ contents_at + length contents_part = omega (arith, length_contents) in
      all_drafted contents_at bodies_at 0 0 f.clauses l (omega arith)
      ∙ rw (add-zero contents_at, bodies) (sym (sets_append l contents_at contents_part (bytes_of (map number_of (nodes_of_file f)))))

  -- So after the head and the codes the whole book stands at the start.
  pub book_drafted :
      (old : List ℕ) {l : List ℕ} →
      f.options < 1000 →
      length (book_of_file f) ≤ length old →
      l ≡ first_part ++ drop (contents_at) old →
      drafted contents_at bodies_at 0 0 1 f.clauses l ≡ placed (book_of_file f) old
  unfolding placed
  book_drafted old {l} few room e =
      let long = length_first few in
      let total : length (book_of_file f) ≡ contents_at + length last_part =
      omega (arith, ap length book_parts, length-append first_part last_part) in
      last_drafted l
      ∙ sets_next first_part old long e last_part (omega arith)
      ∙ rw (total, book_parts)
