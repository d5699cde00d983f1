-- Texts, books and sheets for the computed cases, spelled as documents 01 and 02 spell them and by none of the definitions under test.
use Rattle.std.specs.Prelude.{List, [], ◌∷◌, ◌++◌, ℕ, zero, suc, ◌+◌, ◌-◌, ◌*◌, ◌/◌, ◌%◌, length, replicate}
use Prim.Native.Char
use Prim.Native.String.{String}
use Rattle.model.specs.Literal.{Literal, pos}
use Rattle.calls.specs.Refusals.{refusal_number}
use Rattle.calls.specs.Outcomes.{Answer, refused, accepted}
use Rattle.calls.specs.Lines.{State}

-- So many numbers, from one on.
unfoldable pub numbers : ℕ → ℕ → List ℕ
numbers n zero = []
numbers n (suc many) = n ∷ numbers (suc n) many

-- Numbers that 8, 16, 32 and 64 bits take for 0.
unfoldable pub wide : List ℕ
wide = 256 ∷ 65536 ∷ 4294967296 ∷ 18446744073709551616 ∷ []

-- The bytes of a text.
unfoldable pub text : String → List ℕ
text String.[] = []
text (String.◌∷◌ c s) = Char.code c ∷ text s

-- "A node is one number: kind × 4,096 + value. Kind 1 is an option, 2 the same option barred, 3 all-of and 4 any-of (value the
-- number of children), 5 the root."
abbrev pub plain : ℕ → ℕ
plain v = 4096 + v

abbrev pub barred : ℕ → ℕ
barred v = 8192 + v

abbrev pub all_of : ℕ → ℕ
all_of k = 12288 + k

abbrev pub any_of : ℕ → ℕ
any_of k = 16384 + k

abbrev pub root : ℕ → ℕ
root k = 20480 + k

-- Document 02, U4: "A new node kind 6 has value members × 64 + k": at least k of so many members.
abbrev pub at_least : ℕ → ℕ → ℕ
at_least k members = 24576 + members * 64 + k

-- "P, Q, R are options 0, 1, 2"; S is option 3. "An empty all-of is true, an empty any-of is false."
abbrev pub P : ℕ
P = plain 0

abbrev pub Q : ℕ
Q = plain 1

abbrev pub R : ℕ
R = plain 2

abbrev pub S : ℕ
S = plain 3

abbrev pub not_P : ℕ
not_P = barred 0

abbrev pub not_Q : ℕ
not_Q = barred 1

abbrev pub not_R : ℕ
not_R = barred 2

abbrev pub True : ℕ
True = all_of 0

abbrev pub False : ℕ
False = any_of 0

-- "16-bit numbers, low byte first."
unfoldable pub low_first : List ℕ → List ℕ
low_first [] = []
low_first (x ∷ xs) = x % 256 ∷ x / 256 ∷ low_first xs

-- "N codes of 13 bytes": characters, "then zero bytes".
unfoldable pub codes : List String → List ℕ
codes [] = []
codes (c ∷ cs) = text c ++ (replicate (13 - length (text c)) 0 ++ codes cs)

-- A book by its parts, be they right or wrong: its head, its codes, its pairs, its nodes.
unfoldable pub book_of : List ℕ → List ℕ → List ℕ → List ℕ → List ℕ
book_of head codes pairs nodes = low_first head ++ (codes ++ (low_first pairs ++ low_first nodes))

-- "M pairs (first node, node count)" of bodies that "follow one another with no gap".
unfoldable pub pairs : ℕ → List (List ℕ) → List ℕ
pairs sum [] = []
pairs sum (r ∷ rs) = sum ∷ length r ∷ pairs (sum + length r) rs

unfoldable pub joined : List (List ℕ) → List ℕ
joined [] = []
joined (r ∷ rs) = r ++ joined rs

-- The book of these codes and rules.
unfoldable pub book : List String → List (List ℕ) → List ℕ
book cs rs =
    book_of (length cs ∷ length rs ∷ length (joined rs) ∷ 0 ∷ []) (codes cs) (pairs 0 rs) (joined rs)

-- A book of weight 4,097: one any-of with 2,047 marks, and a rule more.
unfoldable pub heavy : ℕ → List ℕ
heavy node = book ("P" ∷ []) ((any_of 2047 ∷ replicate 2047 P) ∷ (node ∷ []) ∷ [])

-- "The first case's book (codes P, Q; bytes in hexadecimal 02 00 01 00 05 00 00 00, 50 and 12 zeros, 51 and 12 zeros, 00 00 05 00,
-- 02 40 00 10 02 30 00 10 01 10)."
unfoldable pub first_book : List ℕ
first_book =
    0x02 ∷ 0x00 ∷ 0x01 ∷ 0x00 ∷ 0x05 ∷ 0x00 ∷ 0x00 ∷ 0x00 ∷ []
    ++ (0x50 ∷ replicate 12 0)
    ++ (0x51 ∷ replicate 12 0)
    ++ (0x00 ∷ 0x00 ∷ 0x05 ∷ 0x00 ∷ [])
    ++ (0x02 ∷ 0x40 ∷ 0x00 ∷ 0x10 ∷ 0x02 ∷ 0x30 ∷ 0x00 ∷ 0x10 ∷ 0x01 ∷ 0x10 ∷ [])

-- "Exactly 4,098 16-bit numbers: N, the count of nodes used, the nodes, then zeros."
unfoldable pub sheet : ℕ → List ℕ → List ℕ
sheet n nodes = n ∷ length nodes ∷ nodes ++ replicate (4096 - length nodes) 0

-- A sheet, lines at the start of "64 slots" and their count; the other slots hold the option 600, taken.
unfoldable pub lined : List ℕ → List Literal → ℕ → State
lined s ls count = record { sheet = s; lines = ls ++ replicate (64 - length ls) (pos 600); count = count }

-- "A refusal is its number alone." Of an answer: 0 where the call is accepted.
unfoldable pub said : {A : Type 0} → Answer A → ℕ
said (refused r) = refusal_number r
said (accepted a) = 0

-- What all of these see through, by one name.
unfoldable pub samples : Unit {0}
unfolding numbers wide text low_first codes book_of pairs joined book heavy first_book sheet lined said
samples = tt
