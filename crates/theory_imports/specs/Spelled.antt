-- Every clause file can be spelled as a text, and that text is read as the file again.
use Rattle.std.specs.Prelude.{Bool, true, false, ◌≡◌, refl, ℕ, suc, ◌-◌, ◌≤◌, ◌<◌, eqb, ltb, length, get_or}
use mathlib.Core.List.{List, [], ◌∷◌, ◌++◌, map, flatten, append_assoc}
use Rattle.std.proofs.Math.Option.{some}
use Rattle.std.proofs.Common.{sym, ap, ◌∙◌, arith, ltb-true, eq-eqb, ne_eqb, le-leb}
use Rattle.model.specs.Base.{pick, only_if, then, all, same_list}
use Rattle.model.specs.Literal.{Literal, pos, neg, literal, option}
use Rattle.model.specs.Clauses.{Clause}
use Rattle.model.specs.Book.{between}
use Rattle.texts.specs.Decimals.{decimal, is_digit, number_in}
use Rattle.texts.specs.ClauseFile.{is_blank, mark_by, mark_of_word, closes, with_mark, clauses_of_words, File, file_stated, file_of, parts, plain_ends, lines, words_of_line, not_empty, with_word}
use Rattle.theory_forms.specs.Logic.{and_split, and_join, pick_false, fails_if}
use Rattle.theory_forms.specs.Lists.{all_weaken, all_index}
use Rattle.theory_forms.specs.Placed.{same_list_is}
use Rattle.theory_texts.specs.Breaks.{breaks, before_end, words_after, words_past}
use Rattle.theory_texts.specs.Words.{is_solid, whole_word}
use Rattle.theory_texts.specs.Figures.{digit_solid, digit_range}
use Rattle.theory_texts.specs.PLines.{p_line, p_line_read, ends_line}
use Rattle.theory_texts.specs.Decimals.{decimal_number, decimal_inj, each_digit, decimal_some, decimal_is, decimal_small}
use Rattle.theory_imports.specs.Trees.{named_in}

-- A mark: the option's number from 1 on, "a minus directly before the barred ones" (45).
unfoldable pub spelled_mark : Literal → List ℕ
spelled_mark (pos v) = decimal (suc v)
spelled_mark (neg v) = 45 ∷ decimal (suc v)

-- A clause: each mark and a space (32), then the 0 that closes it (48) and a line end (10).
unfoldable pub spelled_clause : Clause → List ℕ
spelled_clause [] = 48 ∷ 10 ∷ []
spelled_clause (l ∷ c) = spelled_mark l ++ (32 ∷ spelled_clause c)

-- "One line `p cnf V C`, then C clauses."
unfoldable pub spelled : File → List ℕ
spelled f =
    p_line (decimal f.options) (decimal (length f.clauses))
    ++ (10 ∷ flatten (map spelled_clause f.clauses))

-- A mark is a word, and read as that mark.
solid_decimal : (n : ℕ) → all is_solid (decimal n) ≡ true
solid_decimal n = all_weaken is_digit is_solid digit_solid (decimal n) (each_digit n)

solid_mark : (l : Literal) → all is_solid (spelled_mark l) ≡ true
unfolding spelled_mark all is_solid is_blank
solid_mark (pos v) = solid_decimal (suc v)
solid_mark (neg v) = solid_decimal (suc v)

some_mark : (l : Literal) → 1 ≤ length (spelled_mark l)
unfolding spelled_mark
some_mark (pos v) = omega (arith, decimal_some (suc v))
some_mark (neg v) = omega arith

digits_mark : (n v : ℕ) (barred : Bool) → v < n → mark_by n barred (decimal (suc v)) ≡ some (literal v barred)
unfolding mark_by between only_if
digits_mark n v barred h =
    let in_range = and_join (le-leb 1 (suc v) (omega arith)) (le-leb (suc v) n (omega arith)) in
    let before : suc v - 1 ≡ v = omega arith in
    rw (decimal_number (suc v), decimal_is (suc v), in_range, before)

plain_mark : (n : ℕ) (w : List ℕ) → 0 < length w → 45 < get_or w 0 0 → mark_of_word n w ≡ mark_by n false w
unfolding mark_of_word
plain_mark n [] s h = absurd (omega arith)
plain_mark n (x ∷ xs) s h = pick_false (eqb x 45) _ _ (ne_eqb x 45 (λ e. absurd (omega arith)))

first_digit : (n : ℕ) → 45 < get_or (decimal n) 0 0
first_digit n =
    omega (arith, (digit_range (get_or (decimal n) 0 0) (all_index is_digit (decimal n) 0 0 (each_digit n) (decimal_some n))).0)

mark_read : (n : ℕ) (l : Literal) → option l < n → mark_of_word n (spelled_mark l) ≡ some l
unfolding spelled_mark option literal pick mark_of_word
mark_read n (pos v) h = plain_mark n (decimal (suc v)) (decimal_some (suc v)) (first_digit (suc v)) ∙ digits_mark n v false h
mark_read n (neg v) h = digits_mark n v true h

-- It is not the 0 that closes a clause.
mark_open : (l : Literal) → closes (spelled_mark l) ≡ false
unfolding spelled_mark closes same_list
mark_open (pos v) =
    fails_if (closes (decimal (suc v))) (λ e.
    let same : decimal (suc v) ≡ decimal 0 = (same_list_is (decimal (suc v)) (48 ∷ [])).0 e ∙ sym (decimal_small 0 (omega arith)) in
    absurd (omega (arith, decimal_inj (suc v) 0 same)))
mark_open (neg v) = refl

-- The words of a clause are its marks and the 0; read, they are the clause before those after it.
unfoldable clause_words : Clause → List (List ℕ)
clause_words [] = (48 ∷ []) ∷ []
clause_words (l ∷ c) = spelled_mark l ∷ clause_words c

words_clause : (c : Clause) (r : List ℕ) → words_after (spelled_clause c ++ r) ≡ clause_words c ++ words_after r
unfolding spelled_clause clause_words breaks is_blank before_end all is_solid
words_clause [] r = whole_word (48 ∷ []) (10 ∷ r) (omega arith) refl refl ∙ ap (λ ws. (48 ∷ []) ∷ ws) (words_past 10 r refl)
words_clause (l ∷ c) r =
    let rest : List ℕ = spelled_clause c ++ r in
    ap words_after (append_assoc (spelled_mark l) (32 ∷ spelled_clause c) r)
    ∙ whole_word (spelled_mark l) (32 ∷ rest) (some_mark l) (solid_mark l) refl
    ∙ ap (λ ws. spelled_mark l ∷ ws) (words_past 32 rest refl ∙ words_clause c r)

clause_read :
    (n : ℕ) (c : Clause) (ws : List (List ℕ)) (cs : List Clause) →
    all (λ l. ltb (option l) n) c ≡ true →
    clauses_of_words n ws ≡ some cs →
    clauses_of_words n (clause_words c ++ ws) ≡ some (c ∷ cs)
unfolding clauses_of_words clause_words all then pick closes same_list with_mark
clause_read n [] ws cs h e = rw e
clause_read n (l ∷ c) ws cs h e =
    let s = and_split (ltb (option l) n) (all (λ x. ltb (option x) n) c) h in
    rw (clause_read n c ws cs s.1 e, mark_open l, mark_read n l (ltb-true (option l) n s.0))

clauses_read : (n : ℕ) (cs : List Clause) → named_in n cs ≡ true → clauses_of_words n (words_after (flatten (map spelled_clause cs))) ≡ some cs
unfolding named_in all flatten clauses_of_words words_after lines parts plain_ends words_of_line not_empty with_word
clauses_read n [] h = refl
clauses_read n (c ∷ cs) h =
    let s = and_split (all (λ l. ltb (option l) n) c) (named_in n cs) h in
    let rest : List ℕ = flatten (map spelled_clause cs) in
    ap (clauses_of_words n) (words_clause c rest) ∙ clause_read n c (words_after rest) cs s.0 (clauses_read n cs s.1)

-- The p line states V and C again.
words_stated :
    (f : File) (ws : List (List ℕ)) →
    clauses_of_words f.options ws ≡ some f.clauses →
    file_stated (record { options = number_in (decimal f.options); clauses = number_in (decimal (length f.clauses)) }) ws ≡ some f
unfolding file_stated then only_if
words_stated f ws e =
    rw (decimal_number f.options, decimal_number (length f.clauses), e, eq-eqb (length f.clauses) (length f.clauses) refl)

pub spelled_read : (f : File) → named_in f.options f.clauses ≡ true → file_of (spelled f) ≡ some f
unfolding spelled ends_line breaks is_blank before_end
spelled_read f h =
    let rest : List ℕ = flatten (map spelled_clause f.clauses) in
    p_line_read (decimal f.options) (decimal (length f.clauses)) (decimal_is _) (decimal_is _) (10 ∷ rest) refl
    ∙ words_stated f (words_after (10 ∷ rest))
    (ap (clauses_of_words f.options) (words_past 10 rest refl) ∙ clauses_read f.options f.clauses h)
