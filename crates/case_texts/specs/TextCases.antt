-- Document 02, U7: the form of a clause file, sentence by sentence: texts that are read, and texts "of any other form", which are 15. Most
-- are one file in other clothes: two options, "the first or not the second", "the second".
use Rattle.std.specs.Prelude.{List, [], ◌∷◌, ◌++◌, map, ◌≡◌, refl, ℕ, replicate}
use Rattle.calls.specs.Outcomes.{Outcome}
use Rattle.case_samples.specs.Opened.{definitions}
use Rattle.case_samples.specs.Samples.{P, Q, not_Q, False, any_of, samples}
use Rattle.case_samples.specs.Imports.{imports, with_before, with_p_line, with_after, gives, no_file, spelling}

-- The book of that file.
unfoldable pub of_two : Outcome (List ℕ) ℕ
of_two = gives ("V1" ∷ "V2" ∷ []) ((any_of 2 ∷ P ∷ not_Q ∷ []) ∷ (any_of 1 ∷ Q ∷ []) ∷ [])

-- "Import shall accept comment lines starting with c": none, one, several; c alone, without a blank after it, with 13 before 10, with any
-- bytes but 10, a 13 among them.
pub comments_read :
    map
    with_before
    (""
    ∷ "c\n"
    ∷ "c a comment\n"
    ∷ "cnf\n"
    ∷ "c2\n"
    ∷ "c\r\n"
    ∷ "c two\r\n"
    ∷ "c\nc\r\ncc\n"
    ∷ "c \n"
    ∷ "c\t\n"
    ∷ "c p cnf 9 9\n"
    ∷ "c \0\t\u{b}\r\u{7f}\u{80}ÿ 1 -2 0\r\r\n"
    ∷ [])
    ≡ replicate 12 of_two
unfolding definitions samples spelling of_two
comments_read = refl

-- "Then one line": before it no line that is empty or blank, none that begins with anything but c, and no blank before the c.
pub not_comments_refused :
    map
    with_before
    ("\n"
    ∷ "\r\n"
    ∷ " \n"
    ∷ "\t\n"
    ∷ "c\n\n"
    ∷ "c\n\nc\n"
    ∷ "c\n \n"
    ∷ "C\n"
    ∷ "b\n"
    ∷ "d\n"
    ∷ "#\n"
    ∷ " c\n"
    ∷ "\tc\n"
    ∷ "\rc\n"
    ∷ "0\n"
    ∷ "p cnf 2 2\n"
    ∷ "p cnf 0 0\n"
    ∷ "c\r"
    ∷ "c "
    ∷ " "
    ∷ [])
    ≡ replicate 20 no_file
unfolding definitions samples spelling
not_comments_refused = refl

-- A text without a p line: nothing at all, a line end, comments that the end of the text ends.
pub without_p_line_refused :
    map imports ("" ∷ "\n" ∷ "\r\n" ∷ " " ∷ "c" ∷ "c\n" ∷ "c\nc" ∷ "c p cnf 0 0" ∷ "0" ∷ "1 0\n" ∷ [])
    ≡ replicate 10 no_file
unfolding definitions samples spelling
without_p_line_refused = refl

-- "One line `p cnf V C`": "a line ends at byte 10, with or without 13 before it".
pub p_lines_read : map with_p_line ("p cnf 2 2\n" ∷ "p cnf 2 2\r\n" ∷ []) ≡ replicate 2 of_two
unfolding definitions samples spelling of_two
p_lines_read = refl

-- "The p line has single spaces": two, a tab, one at either end, none; the line broken, and its end lacking; 13 twice, and elsewhere.
pub not_single_spaces_refused :
    map
    with_p_line
    (" p cnf 2 2\n"
    ∷ "p  cnf 2 2\n"
    ∷ "p cnf  2 2\n"
    ∷ "p cnf 2  2\n"
    ∷ "p cnf 2 2 \n"
    ∷ "p cnf 2 2 \r\n"
    ∷ "\tp cnf 2 2\n"
    ∷ "p\tcnf 2 2\n"
    ∷ "p cnf\t2 2\n"
    ∷ "p cnf 2\t2\n"
    ∷ "p cnf 2 2\t\n"
    ∷ "pcnf 2 2\n"
    ∷ "p cnf2 2\n"
    ∷ "p cnf 22\n"
    ∷ "p\ncnf 2 2\n"
    ∷ "p cnf\n2 2\n"
    ∷ "p cnf 2\n2\n"
    ∷ "p cnf 2\r\n2\n"
    ∷ "p cnf 2 2 "
    ∷ "p cnf 2 2\t"
    ∷ "p cnf 2 2\r"
    ∷ "p cnf 2 2\r\r\n"
    ∷ "p cnf 2 2\r \n"
    ∷ "p cnf\r 2 2\n"
    ∷ "p cnf 2 2\u{b}\n"
    ∷ "p cnf 2 2\0\n"
    ∷ [])
    ≡ replicate 26 no_file
unfolding definitions samples spelling
not_single_spaces_refused = refl

-- Other words; one too few, one too many.
pub other_p_lines_refused :
    map
    with_p_line
    ("P cnf 2 2\n"
    ∷ "q cnf 2 2\n"
    ∷ "pp cnf 2 2\n"
    ∷ "p CNF 2 2\n"
    ∷ "p dnf 2 2\n"
    ∷ "p cnf+ 2 2\n"
    ∷ "p cn 2 2\n"
    ∷ "p cmf 2 2\n"
    ∷ "p cng 2 2\n"
    ∷ "p sat 2 2\n"
    ∷ "p 2 2\n"
    ∷ "cnf 2 2\n"
    ∷ "p cnf 2\n"
    ∷ "p cnf\n"
    ∷ "p\n"
    ∷ "2 2\n"
    ∷ "p cnf 2 2 2\n"
    ∷ "p cnf 2 2 c\n"
    ∷ [])
    ≡ replicate 18 no_file
unfolding definitions samples spelling
other_p_lines_refused = refl

-- "All numbers are decimal without leading zeros": V and C with one; with a sign; with a byte that is no digit, those beside 0 (48) and 9
-- (57) among them; none.
pub no_decimals_refused :
    map
    with_p_line
    ("p cnf 02 2\n"
    ∷ "p cnf 2 02\n"
    ∷ "p cnf 002 2\n"
    ∷ "p cnf +2 2\n"
    ∷ "p cnf 2 +2\n"
    ∷ "p cnf -2 2\n"
    ∷ "p cnf 2 -2\n"
    ∷ "p cnf /2 2\n"
    ∷ "p cnf 2 /2\n"
    ∷ "p cnf 2/ 2\n"
    ∷ "p cnf 2: 2\n"
    ∷ "p cnf : 2\n"
    ∷ "p cnf 0x2 2\n"
    ∷ "p cnf 2.0 2\n"
    ∷ "p cnf 2e0 2\n"
    ∷ "p cnf 2 2.\n"
    ∷ "p cnf 2 two\n"
    ∷ "p cnf V C\n"
    ∷ [])
    ≡ replicate 18 no_file
unfolding definitions samples spelling
no_decimals_refused = refl

-- "Then C clauses": another C than there are; V below an option's number.
pub other_counts_refused :
    map with_p_line ("p cnf 2 0\n" ∷ "p cnf 2 1\n" ∷ "p cnf 2 3\n" ∷ "p cnf 2 12\n" ∷ "p cnf 2 20\n" ∷ "p cnf 1 2\n" ∷ "p cnf 0 2\n" ∷ [])
    ≡ replicate 7 no_file
unfolding definitions samples spelling
other_counts_refused = refl

-- V and C may be 0, each spelled "0". The p line may be the last, with an end or with the end of the text; blanks may follow its end.
pub no_clauses_read :
    map imports ("p cnf 0 0" ∷ "p cnf 0 0\n" ∷ "p cnf 0 0\r\n" ∷ "c\np cnf 0 0" ∷ "p cnf 0 0\n\n" ∷ "p cnf 0 0\n \t\r\n\n\t" ∷ [])
    ++ map imports ("p cnf 1 0" ∷ "p cnf 1 0\n" ∷ [])
    ++ map imports ("p cnf 0 1\n0" ∷ "p cnf 0 1\n\n0\n" ∷ [])
    ≡ replicate 6 (gives [] []) ++ replicate 2 (gives ("V1" ∷ []) []) ++ replicate 2 (gives [] ((False ∷ []) ∷ []))
unfolding definitions samples spelling
no_clauses_read = refl

pub not_no_clauses_refused :
    map
    imports
    ("p cnf 0 0\r"
    ∷ "p cnf 0 0 "
    ∷ "p cnf 0 0\t"
    ∷ "p cnf 0 "
    ∷ "p cnf  0"
    ∷ "p cnf 0"
    ∷ "p cnf 00 0"
    ∷ "p cnf 0 00"
    ∷ "p cnf -0 0"
    ∷ "p cnf 0 -0"
    ∷ "p cnf 0 0\n0"
    ∷ "p cnf 0 0\n1"
    ∷ "p cnf 0 0\nc"
    ∷ "p cnf 0 0\n\r"
    ∷ "p cnf 0 0\n\u{b}"
    ∷ "p cnf 0 1"
    ∷ "p cnf 0 1\n"
    ∷ "p cnf 0 1\n1 0"
    ∷ "p cnf 0 1\n-0"
    ∷ "p cnf 1 0\n1"
    ∷ [])
    ≡ replicate 20 no_file
unfolding definitions samples spelling
not_no_clauses_refused = refl

-- "After the p line any spaces, tabs and line ends may stand before and after numbers, at least one between two." The end of the text may
-- follow a digit.
pub layouts_read :
    map
    with_after
    ("1 -2 0\n2 0\n"
    ∷ "1 -2 0\n2 0"
    ∷ "1 -2 0 2 0"
    ∷ "1\t-2\t0\t2\t0"
    ∷ "1\n-2\n0\n2\n0\n"
    ∷ "1\r\n-2\r\n0\r\n2\r\n0\r\n"
    ∷ "1\n-2 0 2\n0"
    ∷ "  1   -2  0 2 0  "
    ∷ "\t1 -2 0 2 0\t"
    ∷ "\n\n1 -2 0\n\n\n2 0\n\n"
    ∷ "\r\n1 -2 0\r\n\r\n2 0\r\n\r\n"
    ∷ " \t\r\n \n\t1 \t -2 \r\n 0\n \n2\t\r\n0 \n\t \r\n"
    ∷ [])
    ≡ replicate 12 of_two
unfolding definitions samples spelling of_two
layouts_read = refl

-- "And nothing else": no comment; no byte 13 but directly before 10; no other blank; no other byte, before a number, between two or after.
pub other_bytes_refused :
    map
    with_after
    ("c\n1 -2 0\n2 0\n"
    ∷ "1 -2 0\nc\n2 0\n"
    ∷ "1 -2 0\n2 0\nc\n"
    ∷ "1 -2 0\n2 0 c\n"
    ∷ "1 -2 0\n2 0\nc"
    ∷ "p cnf 2 2\n1 -2 0\n2 0\n"
    ∷ "1\r-2 0 2 0"
    ∷ "1 -2 0\r2 0"
    ∷ "1 -2 0 \r 2 0"
    ∷ "\r1 -2 0 2 0"
    ∷ "1 -2 0 2 0\r"
    ∷ "1 -2 0 2 0 \r"
    ∷ "1 -2 0\r\r\n2 0"
    ∷ "1 -2 0 2 0\r\r\n"
    ∷ "1\u{b}-2 0 2 0"
    ∷ "1 -2\u{c}0 2 0"
    ∷ "1 -2 0 2\u{8}0"
    ∷ "1 -2\u{1f}0 2 0"
    ∷ "1 -2!0 2 0"
    ∷ "1 -2\u{a0}0 2 0"
    ∷ "\01 -2 0 2 0"
    ∷ "1 -2 0 2 0\0"
    ∷ "1 -2 0 2 0\u{1a}"
    ∷ "1, -2 0 2 0"
    ∷ "1 -2 0; 2 0"
    ∷ "1 -2 0 2 0 x"
    ∷ "x 1 -2 0 2 0"
    ∷ "1 -2 0\n2 0\n%\n"
    ∷ [])
    ≡ replicate 28 no_file
unfolding definitions samples spelling
other_bytes_refused = refl

-- "A clause's numbers are 1 to V, a minus directly before the barred ones", "at least one between two", "without leading zeros": no plus, no
-- minus alone or twice, no "-0"; V + 1, and more.
pub no_numbers_refused :
    map
    with_after
    ("1-2 0 2 0"
    ∷ "1 -2 02 0"
    ∷ "1 -2 0 20"
    ∷ "+1 -2 0 2 0"
    ∷ "1 -+2 0 2 0"
    ∷ "1 --2 0 2 0"
    ∷ "1 - 2 0 2 0"
    ∷ "1 -\n2 0 2 0"
    ∷ "1 -2 0 2 - 0"
    ∷ "1 -2 0 2 0 -"
    ∷ "1 2- 0 2 0"
    ∷ "01 -2 0 2 0"
    ∷ "1 -02 0 2 0"
    ∷ "1 -2 00 2 0"
    ∷ "1 -2 0 2 00"
    ∷ "1 -2 -0 2 0"
    ∷ "1 -2 0 2 -0"
    ∷ "1 -2 0 -0 2 0"
    ∷ "1 -2 +0 2 0"
    ∷ "/1 -2 0 2 0"
    ∷ "1 -/2 0 2 0"
    ∷ "1 -2 0/ 2 0"
    ∷ "1.0 -2 0 2 0"
    ∷ "1 -2 0 2 3 0"
    ∷ "1 -3 0 2 0"
    ∷ "1 -2 0 10 0"
    ∷ "1 -2 0 -20 0"
    ∷ "1 -2 0 22 0"
    ∷ [])
    ≡ replicate 28 no_file
unfolding definitions samples spelling
no_numbers_refused = refl

-- "Each closed by 0": the last one too; fewer than C, more than C.
pub not_closed_refused :
    map
    with_after
    (""
    ∷ "\n"
    ∷ "0"
    ∷ "1 -2 0"
    ∷ "1 -2 2 0"
    ∷ "1 -2 0 2"
    ∷ "1 -2 0 2\n"
    ∷ "1 -2 0 2 0 1"
    ∷ "1 -2 0 2 0 0"
    ∷ "1 -2 0 2 0 1 0"
    ∷ "0 1 -2 0 2 0"
    ∷ [])
    ≡ replicate 11 no_file
unfolding definitions samples spelling
not_closed_refused = refl
