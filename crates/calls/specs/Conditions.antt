-- The conditions that the refusals are due on, each by its name.
use Rattle.std.specs.Prelude.{Bool, false, not, ◌&&◌, List, [], ℕ, ◌+◌, ◌-◌, ◌*◌, eqb, leb, ltb, length, take}
use Rattle.model.specs.Base.{all, is_some, maybe, same_list}
use Rattle.model.specs.Literal.{option}
use Rattle.model.specs.Code.{weight}
use Rattle.model.specs.Rules.{step}
use Rattle.model.specs.Limits.{usual, sheet_length, head_length, literal_weight}
use Rattle.model.specs.Sheet.{options_in, nodes_in}
use Rattle.model.specs.Book.{options_of, size_of, length_due, codes_of, codes_ok, contents_of, in_line, bodies_of, body_ok}
use Rattle.model.specs.Book.{book_nodes, option_of_code}
use Rattle.texts.specs.ClauseFile.{file_of}
use Rattle.texts.specs.ClauseBook.{book_of_file, is_too_large}
use Rattle.calls.specs.Lines.{most_lines, State, counted}
use Rattle.calls.specs.Index.{fresh_count}

-- "1 length (fewer than 8 bytes, or not the length due)."
abbrev pub lacks_head : List ℕ → Bool
lacks_head b = ltb (length b) head_length

abbrev pub is_length_due : List ℕ → Bool
is_length_due b = eqb (length b) (length_due b)

-- "3 a malformed code, or one equal to an earlier."
abbrev pub has_good_codes : List ℕ → Bool
has_good_codes b = codes_ok (codes_of b)

-- "4 a contents pair out of line, or node counts that do not add up to T."
abbrev pub has_good_contents : List ℕ → Bool
has_good_contents b = in_line (size_of b) 0 (contents_of b)

-- "5 a malformed body."
abbrev pub has_good_bodies : List ℕ → Bool
has_good_bodies b = all (body_ok (options_of b)) (bodies_of b)

-- "6 weight over 4,096."
abbrev pub is_light : List ℕ → Bool
is_light b = leb (weight (book_nodes b)) usual.weight

-- "7 no such option number or code."
abbrev pub has_option : List ℕ → ℕ → Bool
has_option s v = ltb v (options_in s)

abbrev pub has_code : List ℕ → List ℕ → Bool
has_code b code = is_some (option_of_code code 0 (codes_of b))

-- "8 sheet full: weight + 2 is over 4,096."
abbrev pub is_full : List ℕ → Bool
is_full s = ltb usual.weight (weight (nodes_in s) + literal_weight)

-- Document 02, U2: "Refusal 8 applies if book weight plus twice the remaining lines is over 4,096."
abbrev pub leaves_too_much : State → List ℕ → Bool
leaves_too_much t b = ltb usual.weight (weight (book_nodes b) + literal_weight * (t.count - 1))

-- "10 the step does not apply."
abbrev pub applies : List ℕ → ℕ → ℕ → ℕ → ℕ → Bool
applies s rule place i j = is_some (step rule place i j (nodes_in s))

-- "11 in writing, a book whose N is not the sheet's"; "the loader's target need only be 4,098 long, else 11".
abbrev pub is_book_of : List ℕ → List ℕ → Bool
is_book_of s b = eqb (options_of b) (options_in s)

abbrev pub is_long_enough : List ℕ → Bool
is_long_enough target = eqb (length target) sheet_length

-- Document 02, U2: "A count over 64, another number of slots, a counted line naming no option .. is refused 11."
abbrev pub has_lines_in_order : State → Bool
has_lines_in_order t =
    eqb (length t.lines) most_lines
    && leb t.count most_lines
    && all (λ l. has_option t.sheet (option l)) (counted t)

-- "12 output shorter than needed."
abbrev pub is_shorter : List ℕ → ℕ → Bool
is_shorter out needed = ltb (length out) needed

-- Document 02, U2: "13 no such line; 14 list full."
abbrev pub has_line : State → ℕ → Bool
has_line t k = ltb k t.count

abbrev pub has_full_list : State → Bool
has_full_list t = eqb t.count most_lines

-- Document 02, U5: "one shorter than twice N 12"; "an index long enough but unequal to the fresh count before the call is refused 11".
-- "Numbers past twice N stay", and are not looked at.
abbrev pub index_length : List ℕ → ℕ
index_length s = 2 * options_in s

abbrev pub has_short_index : List ℕ → List ℕ → Bool
has_short_index s index = is_shorter index (index_length s)

abbrev pub has_stale_index : List ℕ → List ℕ → Bool
has_stale_index s index =
    not (has_short_index s index) && not (same_list (take (index_length s) index) (fresh_count s))

-- Document 02, U7: "15 text of any other form; 16 V over 512, C or the body nodes over 4,095, or weight over 4,096."
abbrev pub is_clause_file : List ℕ → Bool
is_clause_file text = is_some (file_of text)

abbrev pub gives_too_much : List ℕ → Bool
gives_too_much text = maybe false is_too_large (file_of text)

-- The book that a text gives; none where it is no clause file.
abbrev pub imported : List ℕ → List ℕ
imported text = maybe [] book_of_file (file_of text)
