-- The book file.
use Rattle.std.specs.Prelude.{Bool, true, ◌&&◌, ◌||◌, not, ℕ, zero, suc, ◌+◌, ◌*◌, ◌/◌, ◌%◌, eqb, leb, length, get_or, take, drop}
use mathlib.Core.List.{List, [], ◌∷◌, ◌++◌, map, flatten}
use Rattle.std.proofs.Math.Option.{Option, none, some}
use Rattle.model.specs.Base.{pick, all, any, same_list}
use Rattle.model.specs.Forest.{Forest, nil, lit, node, kids, size, root, all_seated}
use Rattle.model.specs.Code.{Node, head, encode, decode, one_tree, node_of}
use Rattle.model.specs.Clauses.{Clause, clauses}
use Rattle.model.specs.Limits.{usual, most_rules, most_nodes, head_length, code_length}
use Rattle.model.specs.Sheet.{body_node, options_in, numbers_in, nodes_in}

-- "16-bit numbers, low byte first."
unfoldable pub word : List ℕ → ℕ → ℕ
word b k = get_or b k 0 + 256 * get_or b (suc k) 0

unfoldable pub words : ℕ → List ℕ → List ℕ
words zero b = []
words (suc n) b = word b 0 ∷ words n (drop 2 b)

unfoldable pub bytes_of : List ℕ → List ℕ
bytes_of [] = []
bytes_of (x ∷ xs) = x % 256 ∷ x / 256 % 256 ∷ bytes_of xs

-- "Head, four numbers: N options, M rules, T body nodes, zero."
unfoldable pub options_of : List ℕ → ℕ
options_of b = word b 0

unfoldable pub rules_of : List ℕ → ℕ
rules_of b = word b 2

unfoldable pub size_of : List ℕ → ℕ
size_of b = word b 4

unfoldable pub head_in_limits : List ℕ → Bool
head_in_limits b =
    leb (options_of b) usual.options
    && leb (rules_of b) most_rules
    && leb (size_of b) most_nodes
    && eqb (word b 6) 0

-- "The length is exactly 8 + 13N + 4M + 2T."
unfoldable pub codes_end : List ℕ → ℕ
codes_end b = head_length + code_length * options_of b

unfoldable pub contents_end : List ℕ → ℕ
contents_end b = codes_end b + 4 * rules_of b

unfoldable pub length_due : List ℕ → ℕ
length_due b = contents_end b + 2 * size_of b

-- "Contents: N codes of 13 bytes."
unfoldable pub pieces : ℕ → ℕ → List ℕ → List (List ℕ)
pieces k zero b = []
pieces k (suc n) b = take k b ∷ pieces k n (drop k b)

unfoldable pub codes_of : List ℕ → List (List ℕ)
codes_of b = pieces code_length (options_of b) (drop head_length b)

-- "Then M pairs (first node, node count)."
pub record Entry : Type 0 where
  pub first : ℕ
  pub count : ℕ

unfoldable pub entries : ℕ → List ℕ → List Entry
entries zero b = []
entries (suc m) b = record { first = word b 0; count = word b 2 } ∷ entries m (drop 4 b)

unfoldable pub contents_of : List ℕ → List Entry
contents_of b = entries (rules_of b) (drop (codes_end b) b)

-- "Bodies: T nodes."
unfoldable pub numbers_of : List ℕ → List ℕ
numbers_of b = words (size_of b) (drop (contents_end b) b)

-- "Characters from A-Z, a-z, 0-9 and hyphen."
unfoldable pub between : ℕ → ℕ → ℕ → Bool
between lo hi x = leb lo x && leb x hi

unfoldable pub character : ℕ → Bool
character x = between 65 90 x || between 97 122 x || between 48 57 x || eqb x 45

-- "A code has 1 to 13 characters, then zero bytes."
unfoldable pub then_zeros : List ℕ → Bool
then_zeros [] = true
then_zeros (x ∷ xs) = pick (character x) (then_zeros xs) (all (eqb 0) (x ∷ xs))

unfoldable pub code_ok : List ℕ → Bool
code_ok c = character (get_or c 0 0) && then_zeros c

-- "All 13 bytes are compared."
unfoldable pub same_code : List ℕ → List ℕ → Bool
same_code c d = same_list c d

-- "A malformed code, or one equal to an earlier."
unfoldable pub codes_ok : List (List ℕ) → Bool
codes_ok [] = true
codes_ok (c ∷ cs) = code_ok c && not (any (same_code c) cs) && codes_ok cs

-- "A contents pair out of line (its first node is not the sum of the counts before it, or its count is 0), or node counts
-- that do not add up to T (their sum is 0 if M is 0)." The second number is the sum of the counts before.
unfoldable pub in_line : ℕ → ℕ → List Entry → Bool
in_line total sum [] = eqb sum total
in_line total sum (e ∷ es) = eqb e.first sum && leb 1 e.count && in_line total (sum + e.count) es

-- "Bodies follow one another with no gap from node 0."
unfoldable pub cut : List Entry → List ℕ → List (List ℕ)
cut [] xs = []
cut (e ∷ es) xs = take e.count xs ∷ cut es (drop e.count xs)

unfoldable pub bodies_of : List ℕ → List (List ℕ)
bodies_of b = cut (contents_of b) (numbers_of b)

-- "A body is one tree, a node before its children, without kind 5"; "in book and sheet alike" the members of kind 6 are
-- well-formed.
unfoldable pub body_ok : ℕ → List ℕ → Bool
body_ok n xs = all (body_node n) xs && one_tree (map node_of xs) && all_seated (decode (map node_of xs))

-- The nodes of the sheet that the book fills: "the root's children are the rules, in book order".
unfoldable pub book_nodes : List ℕ → List Node
book_nodes b = head root (rules_of b) ∷ map node_of (numbers_of b)

-- "The loaded rules are that book's bodies. They mean these clauses: those of every body."
unfoldable pub clauses_of_body : List ℕ → List Clause
clauses_of_body xs = clauses root (decode (map node_of xs))

unfoldable pub clauses_of_book : List ℕ → List Clause
clauses_of_book b = flatten (map clauses_of_body (bodies_of b))

-- A sheet written as a book. The node counts of its rules, and where each begins.
unfoldable pub counts : Forest → List ℕ
counts nil = []
counts (lit l f) = 1 ∷ counts f
counts (node c k f) = suc (length (encode k)) ∷ counts f

unfoldable pub lined_up : ℕ → List ℕ → List ℕ
lined_up sum [] = []
lined_up sum (k ∷ ks) = sum ∷ k ∷ lined_up (sum + k) ks

unfoldable pub written_rules : List ℕ → Forest
written_rules s = kids (decode (nodes_in s))

-- "The writer takes the codes from a lent book."
unfoldable pub written : List ℕ → List ℕ → List ℕ
written s b =
    bytes_of (options_in s ∷ size (written_rules s) ∷ length (drop 1 (numbers_in s)) ∷ 0 ∷ [])
    ++ (take (code_length * options_in s) (drop head_length b)
    ++ (bytes_of (lined_up 0 (counts (written_rules s))) ++ bytes_of (drop 1 (numbers_in s))))

-- "A code to look up is given as its characters alone": the bytes of a code before its zeros.
unfoldable pub characters : List ℕ → List ℕ
characters [] = []
characters (x ∷ xs) = pick (eqb x 0) [] (x ∷ characters xs)

-- The option whose code it is, if any; the number of the first code is the second argument.
unfoldable pub option_of_code : List ℕ → ℕ → List (List ℕ) → Option ℕ
option_of_code given v [] = none
option_of_code given v (c ∷ cs) = pick (same_code given (characters c)) (some v) (option_of_code given (suc v) cs)
