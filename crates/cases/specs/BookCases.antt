-- Small books: what the book check, the code lookup, the loader and the writer make of them.
use Rattle.std.specs.Prelude.{List, [], ◌∷◌, ◌++◌, map, ◌≡◌, refl, ℕ, ◌+◌, ◌-◌, ◌*◌, ◌/◌, ◌%◌, take, replicate}
use Prim.Native.String.{String}
use Rattle.calls.specs.Refusals.{option_refused}
use Rattle.calls.specs.Outcomes.{Answer, refused, accepted, Outcome}
use Rattle.calls.specs.Calls.{check_of, lookup_of, load_of, write_of}
use Rattle.case_samples.specs.Opened.{definitions}
use Rattle.case_samples.specs.Samples.{P, Q, not_P, not_Q, not_R, True, False, plain, barred, all_of, any_of, root, text}
use Rattle.case_samples.specs.Samples.{numbers, codes, joined, book_of, book, first_book, sheet, said, samples}

-- The number that the book check says: 0 where the book is good.
unfoldable pub checked : List ℕ → ℕ
checked b = let bytes = b in said (check_of bytes)

-- A book of these codes and no rules.
unfoldable pub coded : List String → ℕ
coded cs = checked (book cs [])

-- A book of so many codes, by their bytes, and no rules.
unfoldable pub coded_by : ℕ → List ℕ → ℕ
coded_by many bytes = checked (book_of (many ∷ 0 ∷ 0 ∷ 0 ∷ []) bytes [] [])

-- "Characters from A-Z, a-z, 0-9 and hyphen": each of the 256 bytes as a code of one character.
unfoldable pub characters : List ℕ
characters = map (λ x. coded_by 1 (x ∷ replicate 12 0)) (numbers 0 256)

pub characters_checked :
    characters
    ≡ replicate 45 3
    ++ (0 ∷ [])
    ++ replicate 2 3
    ++ replicate 10 0
    ++ replicate 7 3
    ++ replicate 26 0
    ++ replicate 6 3
    ++ replicate 26 0
    ++ replicate 133 3
unfolding definitions samples checked coded_by characters
characters_checked = refl

-- "A code has 1 to 13 characters, then zero bytes. All 13 bytes are compared." Good ones, two that differ in character 13 alone last.
-- Then none; a bad character further on; something after a zero byte; "one equal to an earlier", be it next to it or not.
unfoldable pub code_lists : List ℕ
code_lists =
    map
    coded
    (("A" ∷ "B" ∷ "AB" ∷ "a" ∷ [])
    ∷ ("ABCDEFGHIJKLM" ∷ [])
    ∷ ("ABCDEFGHIJKLM" ∷ "ABCDEFGHIJKLN" ∷ [])
    ∷ ("" ∷ [])
    ∷ ("A" ∷ "" ∷ [])
    ∷ ("A[" ∷ [])
    ∷ ("ABCDEFGHIJKL[" ∷ [])
    ∷ ("A\0B" ∷ [])
    ∷ ("\0A" ∷ [])
    ∷ ("ABCDEFGHIJK\0L" ∷ [])
    ∷ ("A" ∷ "A" ∷ [])
    ∷ ("A" ∷ "B" ∷ "A" ∷ [])
    ∷ [])

pub code_lists_checked : code_lists ≡ replicate 3 0 ++ replicate 9 3
unfolding definitions samples checked coded code_lists
code_lists_checked = refl

-- "Then zero bytes", to the thirteenth: A, so many of them, B. Where there is none, it is the code AB.
unfoldable pub junk : List ℕ
junk = map (λ n. coded_by 1 (65 ∷ replicate n 0 ++ (66 ∷ replicate (11 - n) 0))) (numbers 0 12)

pub junk_checked : junk ≡ 0 ∷ replicate 11 3
unfolding definitions samples checked coded_by junk
junk_checked = refl

-- The 63 characters, a code each. "One equal to an earlier", however far from it: another code after them; the first, the middle and the
-- last of them again; one that is malformed.
unfoldable pub all_characters : List ℕ
all_characters = joined (map (λ x. x ∷ replicate 12 0) (45 ∷ numbers 48 10 ++ numbers 65 26 ++ numbers 97 26))

unfoldable pub many_codes : List ℕ
many_codes =
    coded_by 63 all_characters
    ∷ map (λ c. coded_by 64 (all_characters ++ codes (c ∷ []))) ("AA" ∷ "-" ∷ "M" ∷ "z" ∷ "+" ∷ [])

pub many_codes_checked : many_codes ≡ 0 ∷ 0 ∷ replicate 4 3
unfolding definitions samples checked coded_by all_characters many_codes
many_codes_checked = refl

-- "1 length (fewer than 8 bytes, or not the length due)": nothing, 7 bytes, 9 zero bytes, a byte too few, a byte too many; then heads
-- at their limits, N 512, M 4,095, T 4,095, which nothing follows. "2 a head number over its limit, or the fourth not zero": by one, and
-- by the highest bit alone.
unfoldable pub heads : List ℕ
heads =
    map
    checked
    ([]
    ∷ replicate 7 0
    ∷ replicate 9 0
    ∷ take 47 first_book
    ∷ (first_book ++ (0 ∷ []))
    ∷ (0 ∷ 2 ∷ replicate 6 0)
    ∷ (0 ∷ 0 ∷ 255 ∷ 15 ∷ replicate 4 0)
    ∷ (0 ∷ 0 ∷ 0 ∷ 0 ∷ 255 ∷ 15 ∷ 0 ∷ 0 ∷ [])
    ∷ (1 ∷ 2 ∷ replicate 6 0)
    ∷ (0 ∷ 0 ∷ 0 ∷ 16 ∷ replicate 4 0)
    ∷ (0 ∷ 0 ∷ 0 ∷ 0 ∷ 0 ∷ 16 ∷ 0 ∷ 0 ∷ [])
    ∷ (replicate 6 0 ++ (1 ∷ 0 ∷ []))
    ∷ (replicate 6 0 ++ (0 ∷ 1 ∷ []))
    ∷ (0 ∷ 128 ∷ replicate 6 0)
    ∷ (0 ∷ 0 ∷ 0 ∷ 128 ∷ replicate 4 0)
    ∷ (0 ∷ 0 ∷ 0 ∷ 0 ∷ 0 ∷ 128 ∷ 0 ∷ 0 ∷ [])
    ∷ (replicate 7 0 ++ (128 ∷ []))
    ∷ [])

pub heads_checked : heads ≡ replicate 8 1 ++ replicate 9 2
unfolding definitions samples checked heads
heads_checked = refl

-- "4 a contents pair out of line (its first node is not the sum of the counts before it, or its count is 0), or node counts that do
-- not add up to T (their sum is 0 if M is 0)." The third pair out of line, by either number; the last would add up in 16 bits.
unfoldable pub contents : List ℕ
contents =
    map
    checked
    (book_of (0 ∷ 2 ∷ 2 ∷ 0 ∷ []) [] (0 ∷ 1 ∷ 1 ∷ 1 ∷ []) (True ∷ True ∷ [])
    ∷ book_of (0 ∷ 1 ∷ 1 ∷ 0 ∷ []) [] (1 ∷ 1 ∷ []) (True ∷ [])
    ∷ book_of (0 ∷ 2 ∷ 2 ∷ 0 ∷ []) [] (0 ∷ 1 ∷ 0 ∷ 1 ∷ []) (True ∷ True ∷ [])
    ∷ book_of (0 ∷ 2 ∷ 1 ∷ 0 ∷ []) [] (0 ∷ 0 ∷ 0 ∷ 1 ∷ []) (True ∷ [])
    ∷ book_of (0 ∷ 1 ∷ 2 ∷ 0 ∷ []) [] (0 ∷ 1 ∷ []) (True ∷ True ∷ [])
    ∷ book_of (0 ∷ 1 ∷ 1 ∷ 0 ∷ []) [] (0 ∷ 2 ∷ []) (True ∷ [])
    ∷ book_of (0 ∷ 0 ∷ 1 ∷ 0 ∷ []) [] [] (True ∷ [])
    ∷ book_of (0 ∷ 3 ∷ 3 ∷ 0 ∷ []) [] (0 ∷ 1 ∷ 1 ∷ 1 ∷ 1 ∷ 1 ∷ []) (True ∷ True ∷ True ∷ [])
    ∷ book_of (0 ∷ 3 ∷ 2 ∷ 0 ∷ []) [] (0 ∷ 1 ∷ 1 ∷ 1 ∷ 2 ∷ 0 ∷ []) (True ∷ True ∷ [])
    ∷ book_of (0 ∷ 2 ∷ 1 ∷ 0 ∷ []) [] (0 ∷ 65535 ∷ 65535 ∷ 2 ∷ []) (True ∷ [])
    ∷ [])

pub contents_checked : contents ≡ 0 ∷ replicate 9 4
unfolding definitions samples checked contents
contents_checked = refl

-- "Kind 1 is an option, 2 the same option barred, 3 all-of and 4 any-of, 5 the root"; document 02, U4: "a new node kind 6". Of the sixteen
-- kinds that a number can have, with the value 0, as the only node of a body; then the highest number.
unfoldable pub kinds : List ℕ
kinds = map (λ x. checked (book ("P" ∷ []) ((x ∷ []) ∷ []))) (map (λ k. k * 4096) (numbers 0 16) ++ (65535 ∷ []))

pub kinds_checked : kinds ≡ 5 ∷ 0 ∷ 0 ∷ 0 ∷ 0 ∷ 5 ∷ 0 ∷ replicate 10 5
unfolding definitions samples checked kinds
kinds_checked = refl

-- "5 a malformed body", in a book of one option. Good bodies first. Then: no such option; the root inside; children that are lacking, or
-- too many; the children of one body in the next; no such option in the last of 40 bodies, and as the last of 300 children.
-- (`MemberCases` has kind 6.)
unfoldable pub bodies : List ℕ
bodies =
    map
    (λ rs. checked (book ("P" ∷ []) rs))
    (((P ∷ []) ∷ (not_P ∷ []) ∷ (True ∷ []) ∷ (False ∷ []) ∷ (all_of 1 ∷ any_of 2 ∷ P ∷ not_P ∷ []) ∷ [])
    ∷ ((plain 1 ∷ []) ∷ [])
    ∷ ((barred 1 ∷ []) ∷ [])
    ∷ ((all_of 1 ∷ root 0 ∷ []) ∷ [])
    ∷ ((all_of 1 ∷ []) ∷ [])
    ∷ ((any_of 2 ∷ P ∷ []) ∷ [])
    ∷ ((True ∷ True ∷ []) ∷ [])
    ∷ ((all_of 1 ∷ P ∷ P ∷ []) ∷ [])
    ∷ ((all_of 1 ∷ []) ∷ (P ∷ []) ∷ [])
    ∷ (replicate 39 (P ∷ []) ++ ((plain 1 ∷ []) ∷ []))
    ∷ ((any_of 300 ∷ replicate 299 P ++ (plain 1 ∷ [])) ∷ [])
    ∷ [])

pub bodies_checked : bodies ≡ 0 ∷ replicate 10 5
unfolding definitions samples checked bodies
bodies_checked = refl

-- "One any-of with 2,047 marks is accepted": with the root its weight is 4,096, be they plain or barred; "with 2,048, refused 6".
unfoldable pub heaviest : List ℕ
heaviest =
    map
    (λ ns. checked (book ("P" ∷ []) (ns ∷ [])))
    ((any_of 2047 ∷ replicate 2047 P) ∷ (any_of 2047 ∷ replicate 2047 not_P) ∷ (any_of 2048 ∷ replicate 2048 not_P) ∷ [])

pub heaviest_checked : heaviest ≡ 0 ∷ 0 ∷ 6 ∷ []
unfolding definitions samples checked heaviest
heaviest_checked = refl

-- "A code to look up is given as its characters alone; one that equals no code of the book, an empty or over-long one too, is refused
-- 7." The first, the second; another one, a longer one, a small letter, none, one with a zero byte. Then codes of 13 characters: the
-- first, the second, 12 of them, 14.
unfoldable pub lookups : List (Answer ℕ)
lookups =
    map
    (λ c. lookup_of (book ("P" ∷ "Q" ∷ []) []) (text c))
    ("P" ∷ "Q" ∷ "R" ∷ "PQ" ∷ "p" ∷ "" ∷ "P\0" ∷ [])
    ++ map
    (λ c. lookup_of (book ("ABCDEFGHIJKLM" ∷ "ABCDEFGHIJKLN" ∷ []) []) (text c))
    ("ABCDEFGHIJKLM" ∷ "ABCDEFGHIJKLN" ∷ "ABCDEFGHIJKL" ∷ "ABCDEFGHIJKLMN" ∷ [])

pub lookups_answered :
    lookups
    ≡ accepted 0 ∷ accepted 1 ∷ replicate 5 (refused option_refused)
    ++ (accepted 0 ∷ accepted 1 ∷ replicate 2 (refused option_refused))
unfolding definitions samples lookups
lookups_answered = refl

-- The last of 300 codes: its option number needs more than 8 bits. The code of option v has the two characters v % 26 and v / 26 after A.
unfoldable pub two_characters : ℕ → List ℕ
two_characters v = (65 + v % 26) ∷ (65 + v / 26) ∷ []

unfoldable pub last_lookup : Answer ℕ
last_lookup =
    lookup_of
    (book_of (300 ∷ 0 ∷ 0 ∷ 0 ∷ []) (joined (map (λ v. two_characters v ++ replicate 11 0) (numbers 0 300))) [] [])
    (two_characters 299)

pub last_lookup_answered : last_lookup ≡ accepted 299
unfolding definitions samples two_characters last_lookup
last_lookup_answered = refl

-- "The loader's target need only be 4,098 long, else 11": none, one number too few, enough, one too many, twice as many.
unfoldable pub targets : List ℕ
targets =
    map (λ n. said (load_of (replicate 8 0) (replicate n 7)).answer) (0 ∷ 4097 ∷ 4098 ∷ 4099 ∷ 8196 ∷ [])

pub targets_judged : targets ≡ 11 ∷ 11 ∷ 0 ∷ 11 ∷ 11 ∷ []
unfolding definitions samples targets
targets_judged = refl

-- A book of four rules.
unfoldable pub four_rules : List ℕ
four_rules =
    book
    ("P" ∷ "Q" ∷ "R" ∷ [])
    ((not_P ∷ []) ∷ (any_of 2 ∷ P ∷ not_Q ∷ []) ∷ (False ∷ []) ∷ (all_of 2 ∷ any_of 1 ∷ Q ∷ not_R ∷ []) ∷ [])

-- A book of two rules, the first of which has 300 nodes.
unfoldable pub long_rule : List ℕ
long_rule = book ("P" ∷ []) ((any_of 299 ∷ replicate 299 P) ∷ (not_P ∷ []) ∷ [])

-- Loaded and written again, into so many bytes.
unfoldable pub there_and_back : List ℕ → ℕ → Outcome (List ℕ) ℕ
there_and_back b room = write_of (load_of b (replicate 4098 7)).lent b (replicate room 7)

-- "The writer takes the codes from a lent book, fills from the start and returns the length; bytes beyond stay."
unfoldable pub written_books : List (Outcome (List ℕ) ℕ)
written_books =
    there_and_back first_book 48
    ∷ there_and_back four_rules 81
    ∷ there_and_back long_rule 631
    ∷ there_and_back (replicate 8 0) 8
    ∷ write_of (sheet 2 (root 2 ∷ P ∷ any_of 2 ∷ Q ∷ not_P ∷ [])) first_book (replicate 60 7)
    ∷ []

pub written_books_same :
    written_books
    ≡ record { answer = accepted 48; lent = first_book }
    ∷ record { answer = accepted 81; lent = four_rules }
    ∷ record { answer = accepted 631; lent = long_rule }
    ∷ record { answer = accepted 8; lent = replicate 8 0 }
    ∷ record {
      answer = accepted 50;
      lent = book ("P" ∷ "Q" ∷ []) ((P ∷ []) ∷ (any_of 2 ∷ Q ∷ not_P ∷ []) ∷ []) ++ replicate 10 7;
    }
    ∷ []
unfolding definitions samples four_rules long_rule there_and_back written_books
written_books_same = refl

-- The last of them loaded again: the same sheet.
unfoldable pub loaded_again : Outcome (List ℕ) (Unit {0})
loaded_again = load_of (book ("P" ∷ "Q" ∷ []) ((P ∷ []) ∷ (any_of 2 ∷ Q ∷ not_P ∷ []) ∷ [])) (replicate 4098 7)

pub loaded_again_same :
    loaded_again ≡ record { answer = accepted tt; lent = sheet 2 (root 2 ∷ P ∷ any_of 2 ∷ Q ∷ not_P ∷ []) }
unfolding definitions samples loaded_again
loaded_again_same = refl
