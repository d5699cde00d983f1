-- The book that a clause file gives is bytes: every number of it is below 256.
use Rattle.std.specs.Prelude.{Bool, true, ◌≡◌, refl, ℕ, suc, ◌-◌, ◌/◌, ◌%◌, ltb, length, replicate}
use mathlib.Core.List.{List, [], ◌∷◌, ◌++◌, map, flatten}
use Rattle.std.proofs.Common.{◌∙◌, arith, ltb-true, lt-ltb}
use Rattle.model.specs.Base.{all}
use Rattle.model.specs.Limits.{code_length}
use Rattle.model.specs.Code.{number_of}
use Rattle.model.specs.Propagation.{count_from}
use Rattle.model.specs.Book.{bytes_of, lined_up}
use Rattle.texts.specs.Decimals.{decimal, is_digit}
use Rattle.texts.specs.ClauseFile.{File}
use Rattle.texts.specs.ClauseBook.{padded, code_of, codes_to, nodes_of_file, book_of_file}
use Rattle.theory_forms.specs.Logic.{and_join}
use Rattle.theory_forms.specs.Lists.{all_append, all_flatten, all_map, all_from, all_weaken, all_replicate}
use Rattle.theory_texts.specs.Figures.{digit_range}
use Rattle.theory_formats.specs.Bytes.{Bytes, below_all}
use Rattle.theory_texts.specs.Decimals.{each_digit}

abbrev is_byte : ℕ → Bool
is_byte x = ltb x 256

numbers_bytes : (xs : List ℕ) → all is_byte (bytes_of xs) ≡ true
unfolding all bytes_of
numbers_bytes [] = refl
numbers_bytes (x ∷ xs) =
    and_join (lt-ltb (x % 256) 256 (omega arith)) (and_join (lt-ltb (x / 256 % 256) 256 (omega arith)) (numbers_bytes xs))

code_bytes : (v : ℕ) → all is_byte (code_of v) ≡ true
unfolding all code_of padded
code_bytes v =
    all_append is_byte (86 ∷ decimal v) (replicate (code_length - length (86 ∷ decimal v)) 0)
    ∙ and_join
    (all_weaken is_digit is_byte (λ x h. lt-ltb x 256 (omega (arith, (digit_range x h).1))) (decimal v) (each_digit v))
    (all_replicate is_byte (code_length - length (86 ∷ decimal v)) 0 refl)

codes_bytes : (n : ℕ) → all is_byte (flatten (codes_to n)) ≡ true
unfolding codes_to
codes_bytes n =
    all_flatten is_byte (map code_of (count_from 1 n))
    ∙ all_map code_of (all is_byte) (count_from 1 n)
    ∙ all_from (λ v. all is_byte (code_of v)) (count_from 1 n) (λ v m. code_bytes v)

pub file_bytes : (f : File) → Bytes (book_of_file f)
unfolding book_of_file
file_bytes f = below_all is_byte (book_of_file f) (omega arith) (λ x. ltb-true x 256) whole
  where
    head : List ℕ
    head = bytes_of (f.options ∷ length f.clauses ∷ length (nodes_of_file f) ∷ 0 ∷ [])

    codes : List ℕ
    codes = flatten (codes_to f.options)

    contents : List ℕ
    contents = bytes_of (lined_up 0 (map (λ c. suc (length c)) f.clauses))

    bodies : List ℕ
    bodies = bytes_of (map number_of (nodes_of_file f))

    whole : all is_byte (head ++ (codes ++ (contents ++ bodies))) ≡ true
    whole =
        all_append is_byte head (codes ++ (contents ++ bodies))
        ∙ and_join (numbers_bytes _)
        (all_append is_byte codes (contents ++ bodies)
        ∙ and_join (codes_bytes f.options)
        (all_append is_byte contents bodies
        ∙ and_join (numbers_bytes _) (numbers_bytes _)))
