-- Comment lines passed over, byte by byte.
use Rattle.std.specs.Prelude.{Bool, true, not, List, [], ◌∷◌, ◌≡◌, refl, ℕ, zero, suc, ◌+◌, ◌≤◌, eqb, length, get_or, take, drop}
use Rattle.std.proofs.Common.{sym, ap, ◌∙◌, arith}
use Rattle.std.proofs.Math.Option.{Option, none}
use Rattle.model.specs.Base.{pick, only_if, then, all, same_list}
use Rattle.texts.specs.Decimals.{is_decimal}
use Rattle.texts.specs.ClauseFile.{before_part, parts, plain_ends, lines, past_comments, is_p_line, stated, File, file_of_lines, file_of}
use Rattle.theory_forms.specs.Logic.{and_split}
use Rattle.theory_texts.specs.Breaks.{before_end, lines_end, lines_before_end, lines_other, first_byte, some_line}
use Rattle.theory_texts.specs.Spans.{span}

-- The bytes before the end of a line.
abbrev pub on_line : List ℕ → Bool
on_line b = not (eqb (get_or b 0 0) 10)

abbrev pub line_length : List ℕ → ℕ
line_length b = span on_line b

abbrev pub no_end : ℕ → Bool
no_end x = not (eqb x 10)

-- Bytes without a 10 among them are passed together.
pub line_block : (n : ℕ) (b : List ℕ) → n ≤ length b → all no_end (take n b) ≡ true → line_length b ≡ n + line_length (drop n b)
unfolding span all pick
line_block zero b h e = omega arith
line_block (suc n) [] h e = absurd (omega arith)
line_block (suc n) (x ∷ b) h e =
    let s = and_split (no_end x) (all no_end (take n b)) e in
    let more = line_block n b (omega arith) s.1 in
    rw s.0 (omega (arith, more))

-- The file of the lines after the first one is that of what follows its end.
after_line : List ℕ → Option File
after_line b = file_of_lines (past_comments (drop 1 (lines b)))

first_extended : (x : ℕ) (b : List ℕ) → drop 1 (before_part x (lines b)) ≡ drop 1 (lines b)
unfolding before_part
first_extended x b = let (l, ls, g) = some_line b in rw g

pub no_text : file_of [] ≡ none
unfolding file_of lines parts plain_ends past_comments pick file_of_lines stated is_p_line only_if then same_list is_decimal
no_text = refl

no_line : after_line [] ≡ none
unfolding after_line lines parts plain_ends past_comments file_of_lines
no_line = refl

later_lines : (b : List ℕ) → after_line b ≡ file_of (drop (suc (line_length b)) b)
unfolding span pick after_line file_of
later_lines [] = no_line ∙ sym no_text
later_lines (x ∷ b) =
    first_byte x b
    (λ t. rw t (ap (λ ls. file_of_lines (past_comments (drop 1 ls))) (lines_end b)))
    (λ t h. rw t (ap (λ ls. file_of_lines (past_comments (drop 1 ls))) (lines_before_end b h) ∙ later_lines b))
    (λ p q. ap (λ ls. file_of_lines (past_comments (drop 1 ls))) (lines_other x b p q)
    ∙ ap (λ ls. file_of_lines (past_comments ls)) (first_extended x b)
    ∙ rw p (later_lines b))

-- A comment line says nothing.
commented : (b : List ℕ) → file_of (99 ∷ b) ≡ after_line b
unfolding file_of after_line past_comments pick before_part before_end
commented b =
    ap (λ ls. file_of_lines (past_comments ls)) (lines_other 99 b refl refl) ∙ (let (l, ls, g) = some_line b in rw g)

pub comment_passed : (b : List ℕ) → get_or b 0 0 ≡ 99 → file_of b ≡ file_of (drop (suc (line_length b)) b)
unfolding span pick
comment_passed [] h = refl
comment_passed (x ∷ b) h = rw h (commented b ∙ later_lines b)
