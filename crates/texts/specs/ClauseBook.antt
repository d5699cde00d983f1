-- The book that a clause file gives, document 02, U7.
use Rattle.std.specs.Prelude.{Bool, ◌||◌, ℕ, suc, ◌-◌, ltb, length, replicate}
use mathlib.Core.List.{List, [], ◌∷◌, ◌++◌, map, flatten}
use Rattle.model.specs.Limits.{usual, most_rules, most_nodes, code_length}
use Rattle.model.specs.Forest.{or, root}
use Rattle.model.specs.Code.{Node, leaf, head, weight, number_of}
use Rattle.model.specs.Clauses.{Clause}
use Rattle.model.specs.Propagation.{count_from}
use Rattle.model.specs.Book.{bytes_of, lined_up}
use Rattle.texts.specs.Decimals.{decimal}
use Rattle.texts.specs.ClauseFile.{File}

-- "Option v - 1 gets as code the letter V and the decimal v" (V is 86 in ASCII); document 01: "then zero bytes".
unfoldable pub padded : List ℕ → List ℕ
padded c = c ++ replicate (code_length - length c) 0

unfoldable pub code_of : ℕ → List ℕ
code_of v = padded (86 ∷ decimal v)

unfoldable pub codes_to : ℕ → List (List ℕ)
codes_to n = map code_of (count_from 1 n)

-- "Each clause becomes one any-of, a lone mark too, clauses and marks in file order."
unfoldable pub nodes_of_clause : Clause → List Node
nodes_of_clause c = head or (length c) ∷ map leaf c

unfoldable pub nodes_of_file : File → List Node
nodes_of_file f = flatten (map nodes_of_clause f.clauses)

-- "The book, written by the writer's rules for its output": head, codes, where each body begins and its node count, the bodies.
unfoldable pub book_of_file : File → List ℕ
book_of_file f =
    bytes_of (f.options ∷ length f.clauses ∷ length (nodes_of_file f) ∷ 0 ∷ [])
    ++ (flatten (codes_to f.options)
    ++ (bytes_of (lined_up 0 (map (λ c. suc (length c)) f.clauses))
    ++ bytes_of (map number_of (nodes_of_file f))))

-- "V over 512, C or the body nodes over 4,095, or weight over 4,096."
unfoldable pub is_too_large : File → Bool
is_too_large f =
    ltb usual.options f.options
    || ltb most_rules (length f.clauses)
    || ltb most_nodes (length (nodes_of_file f))
    || ltb usual.weight (weight (head root (length f.clauses) ∷ nodes_of_file f))
