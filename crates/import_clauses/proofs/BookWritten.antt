-- The book of a judged file, by what its three writers say.
use mathlib.Core.List.{List, [], ◌∷◌, ◌++◌, flatten}
use mathlib.Core.Path.{◌≡◌, ap, ◌∙◌}
use Prim.Native.Nat.{ℕ, ◌+◌, ◌-◌, ◌*◌, ◌≤◌}
use native.Mathlib.Omega.{arith}
use borrow.Rule.Slice.PartMut.{mid_of, put_mid}
use lib.ListN.{length, drop, length-drop}
use Rattle.model.specs.Base.{placed}
use Rattle.model.specs.Limits.{head_length, code_length}
use Rattle.model.specs.Book.{bytes_of}
use Rattle.texts.specs.ClauseFile.{File}
use Rattle.texts.specs.ClauseBook.{codes_to, nodes_of_file, book_of_file}
use Rattle.theory_formats.specs.Bytes.{length_bytes}
use Rattle.common_lists.proofs.Lent.{lent_part, lent_start}
use Rattle.import_clauses.specs.Drafts.{drafted}
use Rattle.import_clauses.specs.FileFrom.{clauses_from, file_from, JudgedGood}
use Rattle.import_clauses.proofs.BookDrafts.{length_book, book_drafted}

module _
    {text : List ℕ} {body n rules : ℕ} (old : List ℕ)
    (good : JudgedGood text body n rules)
    (room : length (book_of_file (file_from n text body)) ≤ length old)
  where
    abbrev f : File
    f = file_from n text body

    -- There is room for the head, and for the codes after it.
    pub codes_room : head_length + code_length * n ≤ length old
    codes_room = omega (arith, room, length_book f (omega (arith, good.few_options)))

    pub codes_lent : (l : List ℕ) → length l ≡ length old → code_length * n ≤ length (mid_of head_length (length l - head_length) l)
    codes_lent l long =
        omega (arith, codes_room, long, ap length (lent_part head_length l), length-drop head_length l)

    -- Head, codes and clauses are the book.
    pub book_written :
        (nodes : ℕ) (l ys : List ℕ) →
        nodes ≡ length (nodes_of_file f) →
        l ≡ bytes_of (n ∷ rules ∷ nodes ∷ 0 ∷ []) ++ drop head_length old →
        length l ≡ length old →
        ys ≡ flatten (codes_to n) ++ drop (code_length * n) (mid_of head_length (length l - head_length) l) →
        drafted (head_length + code_length * n) (head_length + code_length * n + 4 * rules) 0 0 1 (clauses_from n text body)
        (put_mid head_length (length l - head_length) l ys)
        ≡ placed (book_of_file f) old
    book_written nodes l ys sized first long e =
        let head : List ℕ = n ∷ rules ∷ nodes ∷ 0 ∷ [] in
        let both = lent_start (bytes_of head) old (length_bytes head) first (flatten (codes_to n)) (code_length * n)
        (omega (arith, codes_room, long)) e in
        rw good.counted (book_drafted f old (omega (arith, good.few_options)) room (both ∙ rw (sized, good.counted)))
