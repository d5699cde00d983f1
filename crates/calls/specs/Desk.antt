-- The desk program: what it writes for the bytes of a book and of its standard input.
use Rattle.std.specs.Prelude.{Bool, true, false, List, [], ◌∷◌, ◌++◌, ℕ, eqb, replicate}
use Rattle.model.specs.Base.{pick}
use Rattle.model.specs.Limits.{sheet_length}
use Rattle.model.specs.Book.{codes_of, characters}
use Rattle.model.specs.Literal.{pos}
use Rattle.texts.specs.Decimals.{decimal}
use Rattle.calls.specs.Refusals.{refusal_number, option_refused, list_refused}
use Rattle.calls.specs.Outcomes.{Answer, refused, accepted, Outcome}
use Rattle.calls.specs.Lines.{most_lines, State}
use Rattle.calls.specs.Conditions.{has_full_list}
use Rattle.calls.specs.Calls.{Ran, lookup_of, load_of, key_of, run_of, report_of}

-- "Choices from standard input, one a line; the last may lack its line end." Byte 10 ends a line.
unfoldable pub before_line : ℕ → List (List ℕ) → List (List ℕ)
before_line x [] = (x ∷ []) ∷ []
before_line x (l ∷ ls) = (x ∷ l) ∷ ls

unfoldable pub lines : List ℕ → List (List ℕ)
lines [] = []
lines (x ∷ xs) = pick (eqb x 10) ([] ∷ lines xs) (before_line x (lines xs))

-- The keying of a code's option, where there is one.
unfoldable pub key_found : Answer ℕ → Bool → State → Outcome State (Unit {0})
key_found (refused r) negative t = record { answer = refused r; lent = t }
key_found (accepted v) negative t = key_of t v negative

-- "+ or - and a code (any other line, an empty one too, is 7)."
unfoldable pub key_signed : List ℕ → List ℕ → State → Outcome State (Unit {0})
key_signed book [] t = record { answer = refused option_refused; lent = t }
key_signed book (x ∷ code) t =
    pick (eqb x 43)
    (key_found (lookup_of book code) false t)
    (pick (eqb x 45) (key_found (lookup_of book code) true t) (record { answer = refused option_refused; lent = t }))

-- Document 02, U2: "its 65th line is 14 whatever it holds".
unfoldable pub keyed : List ℕ → List ℕ → State → Outcome State (Unit {0})
keyed book l t = pick (has_full_list t) (record { answer = refused list_refused; lent = t }) (key_signed book l t)

-- "It keys them in order"; a refusal "ends the program".
unfoldable pub go_on : Answer (Unit {0}) → State → (State → Outcome State (Unit {0})) → Outcome State (Unit {0})
go_on (refused r) t next = record { answer = refused r; lent = t }
go_on (accepted u) t next = next t

unfoldable pub all_keyed : List ℕ → List (List ℕ) → State → Outcome State (Unit {0})
all_keyed book [] t = record { answer = accepted tt; lent = t }
all_keyed book (l ∷ ls) t = go_on (keyed book l t).answer (keyed book l t).lent (all_keyed book ls)

-- Document 02, U2: "The desk program begins with an empty list."
unfoldable pub with_no_lines : List ℕ → State
with_no_lines s = record { sheet = s; lines = replicate most_lines (pos 0); count = 0 }

-- The words, in ASCII: refused, contradiction, settled, stopped, open, in, out.
unfoldable pub refused_word : List ℕ
refused_word = 114 ∷ 101 ∷ 102 ∷ 117 ∷ 115 ∷ 101 ∷ 100 ∷ []

unfoldable pub contradiction_word : List ℕ
contradiction_word = 99 ∷ 111 ∷ 110 ∷ 116 ∷ 114 ∷ 97 ∷ 100 ∷ 105 ∷ 99 ∷ 116 ∷ 105 ∷ 111 ∷ 110 ∷ []

unfoldable pub settled_word : List ℕ
settled_word = 115 ∷ 101 ∷ 116 ∷ 116 ∷ 108 ∷ 101 ∷ 100 ∷ []

unfoldable pub stopped_word : List ℕ
stopped_word = 115 ∷ 116 ∷ 111 ∷ 112 ∷ 112 ∷ 101 ∷ 100 ∷ []

unfoldable pub mark_word : ℕ → List ℕ
mark_word m =
    pick (eqb m 1) (105 ∷ 110 ∷ []) (pick (eqb m 2) (111 ∷ 117 ∷ 116 ∷ []) (111 ∷ 112 ∷ 101 ∷ 110 ∷ []))

-- Two words with a space between, as a line.
unfoldable pub line : List ℕ → List ℕ → List ℕ
line a b = a ++ (32 ∷ b ++ (10 ∷ []))

-- "A refusal prints only `refused` and its number, a space between, and ends the program."
unfoldable pub printed : {A : Type 0} → Answer A → (A → List ℕ) → List ℕ
printed (refused r) next = line refused_word (decimal (refusal_number r))
printed (accepted a) next = next a

-- "Line 1: contradiction if reported, else settled or stopped; a space; the steps."
unfoldable pub first_line : Bool → Ran → List ℕ
first_line contradictory ran =
    line (pick contradictory contradiction_word (pick ran.settled settled_word stopped_word)) (decimal ran.count)

-- "A line for each option: code, space, in, out or open."
unfoldable pub option_lines : List (List ℕ) → List ℕ → List ℕ
option_lines [] ms = []
option_lines (c ∷ cs) [] = []
option_lines (c ∷ cs) (m ∷ ms) = line (characters c) (mark_word m) ++ option_lines cs ms

-- "One run with a budget of 100,000."
unfoldable pub desk_budget : ℕ
desk_budget = 100000

-- Document 02, U1: "The desk's screen has one fixed buffer of 512 bytes."
unfoldable pub screen_length : ℕ
screen_length = 512

-- What the program writes.
unfoldable pub desk_of : List ℕ → List ℕ → List ℕ
desk_of book input =
    let loaded = load_of book (replicate sheet_length 0) in
    let chosen = all_keyed book (lines input) (with_no_lines loaded.lent) in
    let done = run_of chosen.lent.sheet desk_budget in
    let told = report_of done.lent (replicate screen_length 0) in
    printed loaded.answer (λ u.
    printed chosen.answer (λ v.
    printed done.answer (λ ran.
    printed told.answer (λ contradictory.
    first_line contradictory ran ++ pick contradictory [] (option_lines (codes_of book) told.lent)))))
