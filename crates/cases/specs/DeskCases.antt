-- What the desk program prints, for books and inputs of every kind.
use Rattle.std.specs.Prelude.{true, false, List, [], ◌∷◌, ◌++◌, map, ◌≡◌, refl, ℕ, replicate}
use Prim.Native.String.{String}
use Rattle.model.specs.Literal.{pos}
use Rattle.calls.specs.Desk.{lines, all_keyed, with_no_lines, first_line, desk_budget, screen_length, desk_of}
use Rattle.case_samples.specs.Opened.{definitions}
use Rattle.case_samples.specs.Samples.{text, P, Q, R, True, any_of, root, at_least, book, first_book, sheet, lined, said, samples}

-- A book with these choices keyed.
unfoldable pub keyed_on : List ℕ → String → List ℕ
keyed_on b input = let bytes = b in desk_of bytes (text input)

-- The first case's book "and no choices"; "P or Q, choice not Q". A book of no rules: "+ or - and a code", "it keys them in order", "the
-- last may lack its line end"; "line 1: contradiction if reported", and no line for an option then. 2 of (P, Q, R), as document 02, U4 has
-- it: with not P, and without a choice.
unfoldable pub orders : List (List ℕ)
orders =
    keyed_on first_book ""
    ∷ keyed_on (book ("P" ∷ "Q" ∷ []) ((any_of 2 ∷ P ∷ Q ∷ []) ∷ [])) "-Q\n"
    ∷ map (keyed_on (book ("P" ∷ "Q" ∷ []) [])) ("+Q\n-P" ∷ "+Q\n-Q\n" ∷ [])
    ++ map (keyed_on (book ("P" ∷ "Q" ∷ "R" ∷ []) ((at_least 2 3 ∷ P ∷ Q ∷ R ∷ []) ∷ []))) ("-P\n" ∷ "" ∷ [])

pub orders_printed :
    orders
    ≡ map text
    ("settled 5\nP in\nQ open\n"
    ∷ "settled 3\nP in\nQ out\n"
    ∷ "settled 0\nP out\nQ in\n"
    ∷ "contradiction 2\n"
    ∷ "settled 5\nP out\nQ in\nR in\n"
    ∷ "settled 0\nP open\nQ open\nR open\n"
    ∷ [])
unfolding definitions samples keyed_on orders
orders_printed = refl

-- "Any other line, an empty one too, is 7": an unknown code; an empty line, alone and after a good one; no sign; another sign; a
-- sign alone; two signs; a blank before the sign, after it and after the code; a carriage return. "Ends the program": what follows the
-- first refusal is not looked at. Nothing but byte 10 ends a line: not 13, nor 0, be the rest a line by itself or nothing.
unfoldable pub bad_lines : List (List ℕ)
bad_lines =
    map
    (keyed_on first_book)
    ("+X\n"
    ∷ "\n"
    ∷ "+Q\n\n"
    ∷ "Q\n"
    ∷ "*Q\n"
    ∷ "+\n"
    ∷ "++Q\n"
    ∷ " +Q\n"
    ∷ "+ Q\n"
    ∷ "- Q\n"
    ∷ "+Q \n"
    ∷ "+Q\r\n"
    ∷ "+X\n-Q\n"
    ∷ "+Q\r"
    ∷ "+Q\r-P"
    ∷ "+Q\0"
    ∷ "+Q\0-P"
    ∷ [])

pub bad_lines_refused : bad_lines ≡ replicate 17 (text "refused 7\n")
unfolding definitions samples keyed_on bad_lines
bad_lines_refused = refl

-- Other books: "one it cannot open counts as empty"; eight zero bytes; a code that is a sign, barred; a code without zero bytes; a
-- count of two digits.
unfoldable pub books : List (List ℕ)
books =
    keyed_on [] "+P\n"
    ∷ keyed_on (replicate 8 0) ""
    ∷ keyed_on (book ("-" ∷ []) []) "--\n"
    ∷ keyed_on (book ("ABCDEFGHIJKLM" ∷ "P" ∷ []) []) "+ABCDEFGHIJKLM\n"
    ∷ keyed_on (book ("P" ∷ []) ((P ∷ []) ∷ replicate 10 (True ∷ []))) ""
    ∷ []

pub books_printed :
    books
    ≡ map text
    ("refused 1\n"
    ∷ "settled 0\n"
    ∷ "settled 0\n- out\n"
    ∷ "settled 0\nABCDEFGHIJKLM in\nP open\n"
    ∷ "settled 10\nP in\n"
    ∷ [])
unfolding definitions samples keyed_on books
books_printed = refl

-- "Line 1: contradiction if reported, else settled or stopped; a space; the steps", where the count has more digits.
unfoldable pub first_lines : List (List ℕ)
first_lines =
    first_line false (record { settled = true; count = 12 })
    ∷ first_line false (record { settled = false; count = 305 })
    ∷ first_line true (record { settled = false; count = 99 })
    ∷ first_line false (record { settled = false; count = 100000 })
    ∷ []

pub first_lines_printed :
    first_lines ≡ map text ("settled 12\n" ∷ "stopped 305\n" ∷ "contradiction 99\n" ∷ "stopped 100000\n" ∷ [])
unfolding definitions samples first_lines
first_lines_printed = refl

-- "Then makes one run with a budget of 100,000." Document 02, U1: "The desk's screen has one fixed buffer of 512 bytes".
pub numbers_of_the_desk : desk_budget ∷ screen_length ∷ [] ≡ 100000 ∷ 512 ∷ []
unfolding definitions
numbers_of_the_desk = refl

-- Document 02, U2: "The desk program begins with an empty list; its 65th line is 14 whatever it holds". With 62 lines keyed: two good
-- lines, with and without the last line end; a third that is good, empty, of no option; an earlier refusal ends the program first.
unfoldable pub last_lines : List ℕ
last_lines =
    let full = lined (sheet 1 (root 0 ∷ [])) (replicate 64 (pos 0)) 62 in
    (with_no_lines []).count
    ∷ map (λ input. said (all_keyed (book ("P" ∷ []) []) (lines (text input)) full).answer)
    ("+P\n+P" ∷ "+P\n+P\n" ∷ "+P\n+P\n+P" ∷ "+P\n+P\n\n" ∷ "+P\n+P\n*X" ∷ "+P\n+X\n+P" ∷ [])

pub last_lines_answered : last_lines ≡ 0 ∷ 0 ∷ 0 ∷ 14 ∷ 14 ∷ 14 ∷ 7 ∷ []
unfolding definitions samples last_lines
last_lines_answered = refl
