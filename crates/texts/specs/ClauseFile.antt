-- Clause files. Document 02, U7: "They publish their option rules as DIMACS CNF text." From the bytes to lines, from lines to words, from
-- words to marks and clauses; no file where the text is "of any other form".
use Rattle.std.specs.Prelude.{Bool, true, false, ◌&&◌, ◌||◌, ℕ, ◌-◌, eqb, length, get_or}
use mathlib.Core.List.{List, [], ◌∷◌, map, flatten}
use Rattle.std.proofs.Math.Option.{Option, none, some}
use Rattle.model.specs.Base.{pick, only_if, then, same_list}
use Rattle.model.specs.Literal.{Literal, literal}
use Rattle.model.specs.Clauses.{Clause}
use Rattle.model.specs.Book.{between}
use Rattle.texts.specs.Decimals.{is_decimal, number_in}

-- A list cut at each byte for which the test holds; that byte goes, so there is one part more than such bytes.
unfoldable pub before_part : ℕ → List (List ℕ) → List (List ℕ)
before_part x [] = (x ∷ []) ∷ []
before_part x (p ∷ ps) = (x ∷ p) ∷ ps

unfoldable pub parts : (ℕ → Bool) → List ℕ → List (List ℕ)
parts cuts [] = [] ∷ []
parts cuts (x ∷ xs) = pick (cuts x) ([] ∷ parts cuts xs) (before_part x (parts cuts xs))

-- "A line ends at byte 10, with or without 13 before it, or at the end of the text." Each 13 directly before a 10 goes first.
unfoldable pub plain_ends : List ℕ → List ℕ
plain_ends [] = []
plain_ends (x ∷ xs) = pick (eqb x 13 && eqb (get_or xs 0 0) 10) (plain_ends xs) (x ∷ plain_ends xs)

unfoldable pub lines : List ℕ → List (List ℕ)
lines text = parts (λ x. eqb x 10) (plain_ends text)

-- "Import shall accept comment lines starting with c": 99 in ASCII.
unfoldable pub past_comments : List (List ℕ) → List (List ℕ)
past_comments [] = []
past_comments (l ∷ ls) = pick (eqb (get_or l 0 0) 99) (past_comments ls) (l ∷ ls)

-- "Then one line `p cnf V C`"; "the p line has single spaces" (32): cut at them, it has these four parts.
unfoldable pub is_p_line : List (List ℕ) → Bool
is_p_line ps =
    eqb (length ps) 4
    && same_list (get_or ps 0 []) (112 ∷ [])
    && same_list (get_or ps 1 []) (99 ∷ 110 ∷ 102 ∷ [])
    && is_decimal (get_or ps 2 [])
    && is_decimal (get_or ps 3 [])

-- What the p line states: V and C.
pub record Stated : Type 0 where
  pub options : ℕ
  pub clauses : ℕ

unfoldable pub stated : List (List ℕ) → Option Stated
stated ps = only_if (is_p_line ps) (record { options = number_in (get_or ps 2 []); clauses = number_in (get_or ps 3 []) })

-- "After the p line any spaces, tabs and line ends may stand before and after numbers, at least one between two, and nothing else." The
-- words of a line: its parts between spaces (32) and tabs (9) that are not empty.
unfoldable pub is_blank : ℕ → Bool
is_blank x = eqb x 32 || eqb x 9

unfoldable pub with_word : List ℕ → List (List ℕ) → List (List ℕ)
with_word [] ws = ws
with_word (x ∷ xs) ws = (x ∷ xs) ∷ ws

unfoldable pub not_empty : List (List ℕ) → List (List ℕ)
not_empty [] = []
not_empty (w ∷ ws) = with_word w (not_empty ws)

unfoldable pub words_of_line : List ℕ → List (List ℕ)
words_of_line l = not_empty (parts is_blank l)

-- "A clause's numbers are 1 to V, a minus directly before the barred ones" (45). "Option v - 1" is named by the number v.
unfoldable pub mark_by : ℕ → Bool → List ℕ → Option Literal
mark_by n barred ds =
    only_if (is_decimal ds && between 1 n (number_in ds)) (literal (number_in ds - 1) barred)

unfoldable pub mark_of_word : ℕ → List ℕ → Option Literal
mark_of_word n [] = none
mark_of_word n (x ∷ xs) = pick (eqb x 45) (mark_by n true xs) (mark_by n false (x ∷ xs))

-- "Then C clauses, each closed by 0." Read from the last word on: a 0 (48) begins a clause, and a mark goes before those of the clause that
-- was begun last; where none was, it is not closed.
unfoldable pub closes : List ℕ → Bool
closes w = same_list w (48 ∷ [])

unfoldable pub with_mark : Literal → List Clause → Option (List Clause)
with_mark l [] = none
with_mark l (c ∷ cs) = some ((l ∷ c) ∷ cs)

unfoldable pub clauses_of_words : ℕ → List (List ℕ) → Option (List Clause)
clauses_of_words n [] = some []
clauses_of_words n (w ∷ ws) =
    then (clauses_of_words n ws) (λ cs.
    pick (closes w) (some ([] ∷ cs)) (then (mark_of_word n w) (λ l. with_mark l cs)))

-- A file: V, and the clauses, of which there are C.
pub record File : Type 0 where
  pub options : ℕ
  pub clauses : List Clause

unfoldable pub file_stated : Stated → List (List ℕ) → Option File
file_stated s words =
    then (clauses_of_words s.options words) (λ cs.
    only_if (eqb (length cs) s.clauses) (record { options = s.options; clauses = cs }))

unfoldable pub file_of_lines : List (List ℕ) → Option File
file_of_lines [] = none
file_of_lines (l ∷ ls) = then (stated (parts (λ x. eqb x 32) l)) (λ s. file_stated s (flatten (map words_of_line ls)))

unfoldable pub file_of : List ℕ → Option File
file_of text = file_of_lines (past_comments (lines text))
