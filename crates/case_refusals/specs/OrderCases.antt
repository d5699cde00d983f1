-- The order of refusals: "11 for the sheet; the book as 1 (under 8), 2, 1, 3, 4, 5, 6; 11 for N; then 7, 8, 9, 10; last 12". For each
-- two that follow one another in a call's chain (`Chains`): an input with both faults, which gets the earlier number, and beside it one
-- with the later fault alone. The chain of a book is the same in every call that is lent one, and is tried in the book check.
use Rattle.std.specs.Prelude.{List, [], ◌∷◌, ◌++◌, ◌≡◌, refl, ℕ, replicate}
use Prim.Native.String.{String}
use Rattle.calls.specs.Calls.{check_of, lookup_of, load_of, write_of, report_of, step_of, run_of, import_of}
use Rattle.case_samples.specs.Opened.{definitions}
use Rattle.case_samples.specs.Samples.{P, True, plain, root, text, codes, book_of, book, heavy, sheet, said, samples}

unfoldable pub checked : List ℕ → ℕ
checked b = let bytes = b in said (check_of bytes)

-- A book of one option and one rule of one node.
unfoldable pub small : String → List ℕ → ℕ → List ℕ
small code pair node = book_of (1 ∷ 1 ∷ 1 ∷ 0 ∷ []) (codes (code ∷ [])) pair (node ∷ [])

-- 1 before 2, 2 before 1, 1 before 3, 3 before 4, 4 before 5, 5 before 6.
unfoldable pub books : List (ℕ × ℕ)
books =
    (checked (replicate 7 255), checked (replicate 8 255))
    ∷ (checked (1 ∷ 2 ∷ replicate 6 0), checked (0 ∷ 2 ∷ replicate 6 0))
    ∷ (checked (small "[" (0 ∷ 1 ∷ []) P ++ (0 ∷ [])), checked (small "[" (0 ∷ 1 ∷ []) P))
    ∷ (checked (small "[" (1 ∷ 1 ∷ []) P), checked (small "P" (1 ∷ 1 ∷ []) P))
    ∷ (checked (small "P" (1 ∷ 1 ∷ []) (plain 1)), checked (small "P" (0 ∷ 1 ∷ []) (plain 1)))
    ∷ (checked (heavy (plain 1)), checked (heavy True))
    ∷ []

pub books_in_order : books ≡ (1, 2) ∷ (2, 1) ∷ (1, 3) ∷ (3, 4) ∷ (4, 5) ∷ (5, 6) ∷ []
unfolding definitions samples checked small books
books_in_order = refl

-- Looking up: 6 before 7. Loading: 11 before 1.
unfoldable pub reading : List (ℕ × ℕ)
reading =
    (said (lookup_of (heavy True) (text "X")), said (lookup_of (book ("P" ∷ []) []) (text "X")))
    ∷ (said (load_of [] (replicate 4097 0)).answer, said (load_of [] (replicate 4098 0)).answer)
    ∷ []

pub reading_in_order : reading ≡ (6, 7) ∷ (11, 1) ∷ []
unfolding definitions samples reading
reading_in_order = refl

-- Writing: 11 for the sheet before 1, 6 before 11 for N, 11 for N before 12.
unfoldable pub writes : List ℕ → List ℕ → ℕ → ℕ
writes s b room = said (write_of s b (replicate room 0)).answer

unfoldable pub writing : List (ℕ × ℕ)
writing =
    let s = sheet 0 (root 0 ∷ []) in
    let other = book ("P" ∷ []) [] in
    (writes [] [] 8, writes s [] 8)
    ∷ (writes s (heavy True) 8, writes s other 8)
    ∷ (writes s other 7, writes s (replicate 8 0) 7)
    ∷ []

pub writing_in_order : writing ≡ (11, 1) ∷ (6, 11) ∷ (11, 12) ∷ []
unfolding definitions samples writes writing
writing_in_order = refl

-- Reporting: 11 before 12, which is for an output too short and for no longer one. A single step: 11 before 9, 9 before 10. Of a
-- run there is 11 alone.
unfoldable pub on_sheets : List (ℕ × ℕ)
on_sheets =
    let s = sheet 1 (root 1 ∷ P ∷ []) in
    (said (report_of [] []).answer, said (report_of s []).answer)
    ∷ (said (report_of [] (0 ∷ 0 ∷ [])).answer, said (report_of s (0 ∷ 0 ∷ [])).answer)
    ∷ (said (step_of [] 0 0 0 0).answer, said (step_of s 0 0 0 0).answer)
    ∷ (said (step_of s 18 9 0 0).answer, said (step_of s 17 9 0 0).answer)
    ∷ (said (run_of [] 1).answer, said (run_of s 1).answer)
    ∷ []

pub on_sheets_in_order :
    on_sheets ≡ (11, 12) ∷ (11, 0) ∷ (11, 9) ∷ (9, 10) ∷ (11, 0) ∷ []
unfolding definitions samples on_sheets
on_sheets_in_order = refl

-- Document 02, U7: "15 goes first, 12 last". Importing: 15 before 16, where the last clause is not closed; 16 before 12; 15 before 12.
unfoldable pub imports : String → ℕ → ℕ
imports t room = said (import_of (text t) (replicate room 0)).answer

unfoldable pub importing : List (ℕ × ℕ)
importing =
    (imports "p cnf 513 1\n1" 7000, imports "p cnf 513 1\n1 0" 7000)
    ∷ (imports "p cnf 513 0" 0, imports "p cnf 1 0" 20)
    ∷ (imports "p cnf 1" 0, imports "p cnf 1 0" 0)
    ∷ []

pub importing_in_order : importing ≡ (15, 16) ∷ (16, 12) ∷ (15, 12) ∷ []
unfolding definitions samples imports importing
importing_in_order = refl
