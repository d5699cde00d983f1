-- Document 02, U7: the book that a clause file gives, byte by byte; numbers of any length; the limits; the output.
use Rattle.std.specs.Prelude.{true, false, List, [], ◌∷◌, ◌++◌, map, ◌≡◌, refl, ℕ, drop, replicate}
use Rattle.std.proofs.Math.Option.{none, some}
use Prim.Native.String.{String}
use Rattle.model.specs.Literal.{pos, neg}
use Rattle.texts.specs.ClauseFile.{file_of}
use Rattle.texts.specs.ClauseBook.{is_too_large}
use Rattle.calls.specs.Refusals.{output_refused, text_refused, size_refused}
use Rattle.calls.specs.Outcomes.{Answer, refused, accepted}
use Rattle.calls.specs.Calls.{import_of}
use Rattle.case_samples.specs.Opened.{definitions}
use Rattle.case_samples.specs.Samples.{P, Q, R, not_P, not_Q, not_R, False, plain, barred, any_of, text, joined, codes, book, samples}
use Rattle.case_samples.specs.Imports.{imports, gives, spelling}

-- What is read of a text: V, and the clauses with their marks, "option v - 1" for the number v.
pub files_read :
    map
    (λ t. file_of (text t))
    ("p cnf 3 2\n3 -1 2 0\n-3 0"
    ∷ "p cnf 0 0"
    ∷ "p cnf 100000000000000000000 1\n-100000000000000000000 0"
    ∷ "p cnf 3 1\n4 0"
    ∷ [])
    ≡ some (record { options = 3; clauses = (pos 2 ∷ neg 0 ∷ pos 1 ∷ []) ∷ (neg 2 ∷ []) ∷ [] })
    ∷ some (record { options = 0; clauses = [] })
    ∷ some (record { options = 100000000000000000000; clauses = (neg 99999999999999999999 ∷ []) ∷ [] })
    ∷ none
    ∷ []
unfolding definitions samples
files_read = refl

-- "Each clause becomes one any-of, a lone mark too, clauses and marks in file order." Its bytes in hexadecimal: the head 2, 1, 3, 0; the
-- codes V1 and V2; the pair 0, 3; any-of with two children, option 0, option 1 barred.
pub bytes_given :
    imports "p cnf 2 1\n1 -2 0\n"
    ≡ record {
      answer = accepted 44;
      lent =
          0x02 ∷ 0x00 ∷ 0x01 ∷ 0x00 ∷ 0x03 ∷ 0x00 ∷ 0x00 ∷ 0x00 ∷ []
          ++ (0x56 ∷ 0x31 ∷ replicate 11 0)
          ++ (0x56 ∷ 0x32 ∷ replicate 11 0)
          ++ (0x00 ∷ 0x00 ∷ 0x03 ∷ 0x00 ∷ [])
          ++ (0x02 ∷ 0x40 ∷ 0x00 ∷ 0x10 ∷ 0x01 ∷ 0x20 ∷ [])
          ++ replicate 156 7;
    }
unfolding definitions samples spelling
bytes_given = refl

-- Marks that repeat, a mark beside its opposite, an empty clause, lone marks, the same clause twice; an option that no clause names; numbers
-- of two digits, and codes with them.
pub books_given :
    map
    imports
    ("p cnf 3 6\n3 1 1 0\n0\n-2 0\n2 -2 0\n-3 -1 -3 2 0\n-2 0\n"
    ∷ "p cnf 4 1\n-3 1 0\n"
    ∷ "p cnf 1 3\n1 0 -1 0 0\n"
    ∷ "p cnf 12 1\n9 10 -12 -11 1 0\n"
    ∷ [])
    ≡ gives
    ("V1" ∷ "V2" ∷ "V3" ∷ [])
    ((any_of 3 ∷ R ∷ P ∷ P ∷ [])
    ∷ (False ∷ [])
    ∷ (any_of 1 ∷ not_Q ∷ [])
    ∷ (any_of 2 ∷ Q ∷ not_Q ∷ [])
    ∷ (any_of 4 ∷ not_R ∷ not_P ∷ not_R ∷ Q ∷ [])
    ∷ (any_of 1 ∷ not_Q ∷ [])
    ∷ [])
    ∷ gives ("V1" ∷ "V2" ∷ "V3" ∷ "V4" ∷ []) ((any_of 2 ∷ not_R ∷ P ∷ []) ∷ [])
    ∷ gives ("V1" ∷ []) ((any_of 1 ∷ P ∷ []) ∷ (any_of 1 ∷ not_P ∷ []) ∷ (False ∷ []) ∷ [])
    ∷ gives
    ("V1" ∷ "V2" ∷ "V3" ∷ "V4" ∷ "V5" ∷ "V6" ∷ "V7" ∷ "V8" ∷ "V9" ∷ "V10" ∷ "V11" ∷ "V12" ∷ [])
    ((any_of 5 ∷ plain 8 ∷ plain 9 ∷ barred 11 ∷ barred 10 ∷ P ∷ []) ∷ [])
    ∷ []
unfolding definitions samples spelling
books_given = refl

-- What a text is answered, with an output of so many bytes; the bytes are computed once.
unfoldable pub answered : List ℕ → ℕ → Answer ℕ
answered t room = let bytes = t in (import_of bytes (replicate room 7)).answer

unfoldable pub answers : String → Answer ℕ
answers t = answered (text t) 200

-- Numbers have no longest: "1 to V" holds for a V of 21 digits, which is too many options, so 16. Its last, its first, those with a digit
-- fewer or a lower digit anywhere.
pub up_to_long_v_too_large :
    map
    answers
    ("p cnf 123456789012345678901 1\n123456789012345678901 0"
    ∷ "p cnf 123456789012345678901 1\n-123456789012345678901 0"
    ∷ "p cnf 123456789012345678901 1\n123456789012345678900 0"
    ∷ "p cnf 123456789012345678901 1\n123456788999999999999 0"
    ∷ "p cnf 123456789012345678901 1\n99999999999999999999 0"
    ∷ "p cnf 123456789012345678901 1\n1 -2 0"
    ∷ "p cnf 123456789012345678901 0"
    ∷ "p cnf 18446744073709551617 1\n1 2 0"
    ∷ [])
    ≡ replicate 8 (refused size_refused)
unfolding definitions samples answered answers
up_to_long_v_too_large = refl

-- And 15 past V: by the last digit, by another, by a digit more; by what 64 bits would leave of a mark, of C.
pub past_long_v_refused :
    map
    answers
    ("p cnf 123456789012345678901 1\n123456789012345678902 0"
    ∷ "p cnf 123456789012345678901 1\n-123456789012345678902 0"
    ∷ "p cnf 123456789012345678901 1\n123456789112345678900 0"
    ∷ "p cnf 123456789012345678901 1\n223456789012345678901 0"
    ∷ "p cnf 123456789012345678901 1\n1000000000000000000000 0"
    ∷ "p cnf 123456789012345678901 1\n0123456789012345678901 0"
    ∷ "p cnf 1 1\n18446744073709551617 0"
    ∷ "p cnf 1 1\n-340282366920938463463374607431768211457 0"
    ∷ "p cnf 1 1\n18446744073709551616"
    ∷ "p cnf 1 18446744073709551617\n1 0"
    ∷ "p cnf 0 18446744073709551616"
    ∷ [])
    ≡ replicate 11 (refused text_refused)
unfolding definitions samples answered answers
past_long_v_refused = refl

-- So many times a text.
unfoldable pub times : ℕ → String → List ℕ
times n t = joined (replicate n (text t))

-- "16 V over 512": 512 options, the last of them barred, whose last codes are V511 and V512; 513 options.
pub most_options :
    answered (text "p cnf 512 1\n-512 0") 6672 ∷ answered (text "p cnf 513 0") 6677 ∷ []
    ≡ accepted 6672 ∷ refused size_refused ∷ []
unfolding definitions samples answered
most_options = refl

pub last_codes : drop 6638 (import_of (text "p cnf 512 0") (replicate 6664 7)).lent ≡ codes ("V511" ∷ "V512" ∷ [])
unfolding definitions samples
last_codes = refl

-- "C or the body nodes over 4,095, or weight over 4,096", which is 1, the nodes, and the marks once more: of 4,095 empty clauses, and one
-- more; of one clause of 2,047 marks, and an empty one more. The weight decides both.
pub heaviest_files :
    map
    (λ cs. is_too_large (record { options = 1; clauses = cs }))
    (replicate 4095 [] ∷ replicate 4096 [] ∷ (replicate 2047 (neg 0) ∷ []) ∷ (replicate 2047 (neg 0) ∷ [] ∷ []) ∷ [])
    ≡ false ∷ true ∷ false ∷ true ∷ []
unfolding definitions
heaviest_files = refl

pub heaviest_texts :
    answered (text "p cnf 1 1\n" ++ (times 2047 "-1 " ++ text "0")) 4121
    ∷ answered (text "p cnf 1 2\n" ++ (times 2047 "-1 " ++ text "0 0")) 4127
    ∷ []
    ≡ accepted 4121 ∷ refused size_refused ∷ []
unfolding definitions samples answered times
heaviest_texts = refl

-- "15 goes first, 12 last": too large and of another form at its very end, with no output; too large, with no output; small, with none.
pub in_order :
    answered (text "p cnf 513 1\n1") 0
    ∷ answered (text "p cnf 513 1\n1 0\r") 0
    ∷ answered (text "p cnf 513 2\n1 0") 0
    ∷ answered (text "p cnf 513 1\n1 0") 0
    ∷ answered (text "p cnf 1 1\n1 0") 0
    ∷ answered (text "p cnf 0 0") 0
    ∷ answered (text "") 0
    ∷ []
    ≡ replicate 3 (refused text_refused)
    ++ (refused size_refused ∷ [])
    ++ replicate 2 (refused output_refused)
    ++ (refused text_refused ∷ [])
unfolding definitions samples answered
in_order = refl

-- The output, "by the writer's rules for its output": it "fills from the start and returns the length; bytes beyond stay". Just long enough;
-- a byte too short; longer; and what it held before a text that is too large, or none.
pub outputs_filled :
    import_of (text "p cnf 1 1\n-1 0") (replicate 29 7)
    ∷ import_of (text "p cnf 1 1\n-1 0") (replicate 28 7)
    ∷ import_of (text "p cnf 1 1\n-1 0") (replicate 29 7 ++ (1 ∷ 2 ∷ 3 ∷ []))
    ∷ import_of (text "p cnf 0 0") (1 ∷ 2 ∷ 3 ∷ 4 ∷ 5 ∷ 6 ∷ 7 ∷ 8 ∷ 9 ∷ [])
    ∷ import_of (text "p cnf 0 0") (1 ∷ 2 ∷ 3 ∷ 4 ∷ 5 ∷ 6 ∷ 7 ∷ [])
    ∷ import_of (text "p cnf 513 0") (replicate 6700 7)
    ∷ import_of (text "p cnf 1 1\n-1 1") (1 ∷ 2 ∷ 3 ∷ [])
    ∷ []
    ≡ (let b = book ("V1" ∷ []) ((any_of 1 ∷ not_P ∷ []) ∷ []) in
    record { answer = accepted 29; lent = b }
    ∷ record { answer = refused output_refused; lent = replicate 28 7 }
    ∷ record { answer = accepted 29; lent = b ++ (1 ∷ 2 ∷ 3 ∷ []) }
    ∷ record { answer = accepted 8; lent = replicate 8 0 ++ (9 ∷ []) }
    ∷ record { answer = refused output_refused; lent = 1 ∷ 2 ∷ 3 ∷ 4 ∷ 5 ∷ 6 ∷ 7 ∷ [] }
    ∷ record { answer = refused size_refused; lent = replicate 6700 7 }
    ∷ record { answer = refused text_refused; lent = 1 ∷ 2 ∷ 3 ∷ [] }
    ∷ [])
unfolding definitions samples
outputs_filled = refl
