-- Document 02, U7: "Import shall accept comment lines starting with c, then one line `p cnf V C`, then C clauses, each closed by 0." Which
-- texts these are, `file_of` says, and with it the V and the clauses of each.
use Rattle.std.specs.Prelude.{true, false, not, ◌||◌, ◌↔◌, ◌≡◌, ℕ, ◌+◌, ◌-◌, ◌*◌, ◌≤◌, ◌<◌, eqb, ltb, length, take, drop, get_or}
use mathlib.Core.List.{List, [], ◌∷◌, ◌++◌, map, flatten}
use Rattle.std.proofs.Math.Option.{some}
use Rattle.model.specs.Base.{all, placed}
use Rattle.model.specs.Literal.{pos, neg, option}
use Rattle.model.specs.Code.{number_of}
use Rattle.model.specs.Clauses.{Derived, Contradictory}
use Rattle.model.specs.Propagation.{report}
use Rattle.model.specs.Book.{options_of, bodies_of, clauses_of_book}
use Rattle.texts.specs.Decimals.{decimal}
use Rattle.texts.specs.ClauseFile.{lines, past_comments, is_blank, words_of_line, File, file_of}
use Rattle.texts.specs.ClauseBook.{code_of, nodes_of_clause, book_of_file, is_too_large}
use Rattle.calls.specs.Outcomes.{accepted}
use Rattle.calls.specs.Calls.{check_of, lookup_of, load_of, write_of, report_of, import_of}
use Rattle.theory_texts.specs.PLines.{p_line}
use Rattle.theory_imports.specs.Layout.{is_layout}
use Rattle.theory_imports.specs.Spelled.{spelled}
use Rattle.promise.specs.Imports as imports

-- A file that is not too large, and an output with room for its book: the answer is the book's length, and its bytes stand at the start of
-- the output, whose rest stays.
pub import_gives :
    (text out : List ℕ) (file : File) →
    (is_file : file_of text ≡ some file) →
    (not_too_large : is_too_large file ≡ false) →
    (out_has_room : length (book_of_file file) ≤ length out) →
    import_of text out ≡ record { answer = accepted (length (book_of_file file)); lent = placed (book_of_file file) out }
import_gives = imports.import_given

-- An accepted import with the answer n: the first n bytes of the output are the book.
module _
    (text out : List ℕ)
    (n : ℕ)
    (import_is_accepted : (import_of text out).answer ≡ accepted n)
  where
    abbrev left : List ℕ
    left = (import_of text out).lent

    abbrev book : List ℕ
    book = take n left

    pub rest_stays : (n ≤ length out) × (length left ≡ length out) × (drop n left ≡ drop n out)
    rest_stays = let w = imports.accepted_import text out n import_is_accepted in (w.within, w.length_stays, w.rest_stays)

    pub accepted_import :
        -- The text is a clause file;
        (file : File)
        × (file_of text ≡ some file)
        -- none of the conditions of 1 to 6 is against its book, which has the file's V options;
        × (check_of book ≡ accepted tt)
        × (options_of book ≡ file.options)
        -- "option v - 1 gets as code the letter V and the decimal v" (86 is V);
        × ((v : ℕ) →
        (from_one : 1 ≤ v) →
        (to_the_last : v ≤ file.options) →
        lookup_of book (86 ∷ decimal v) ≡ accepted (v - 1))
        -- "each clause becomes one any-of, a lone mark too, clauses and marks in file order";
        × (bodies_of book ≡ map (λ c. map number_of (nodes_of_clause c)) file.clauses)
        × (length book
        ≡ 8 + (13 * file.options + (4 * length file.clauses + 2 * (length file.clauses + length (flatten file.clauses)))))
        -- "the book must have exactly the file's clauses as sets": it has them in file order, mark by mark.
        × (clauses_of_book book ≡ file.clauses)
        -- Loaded and reported, in an output of at least V bytes, it is propagation on the file's clauses,
        × ((target out : List ℕ) →
        (target_long_enough : length target ≡ 4098) →
        (out_has_room : file.options ≤ length out) →
        let told = report_of (load_of book target).lent out in
        let due = report file.options file.clauses in
        (told ≡ record { answer = accepted due.contradictory; lent = placed due.marks out })
        × ((told.answer ≡ accepted true) ↔ Contradictory file.clauses)
        × ((consistent : Contradictory file.clauses → ⊥) →
        (v : ℕ) →
        (is_option : v < file.options) →
        ((get_or told.lent v 0 ≡ 1) ↔ Derived file.clauses (pos v))
        × ((get_or told.lent v 0 ≡ 2) ↔ Derived file.clauses (neg v))))
        -- and "written by the writer's rules" it is the book again.
        × ((target out : List ℕ) →
        (target_long_enough : length target ≡ 4098) →
        (out_has_room : length book ≤ length out) →
        write_of (load_of book target).lent book out ≡ record { answer = accepted (length book); lent = placed book out })
    accepted_import =
        let w = imports.accepted_import text out n import_is_accepted in
        let b = w.book in (
          w.file,
          w.is_file,
          b.is_a_book,
          b.options,
          b.code_given,
          b.bodies,
          b.long,
          b.clauses,
          (λ target out long room.
              let s = b.report_says target out long room in
              (b.report_is target out long room, s.says_contradiction, λ fine v h. (s.is_in fine v h, s.is_out fine v h))),
          b.written_again,
        )

-- Codes of different options differ.
pub codes_differ : (v w : ℕ) → (same_code : code_of v ≡ code_of w) → v ≡ w
codes_differ = imports.codes_differ

-- Every file whose marks are 1 to V has a text, which is read as that file.
pub some_text_is_read :
    (file : File) →
    (marks_are_1_to_v : all (all (λ l. ltb (option l) file.options)) file.clauses ≡ true) →
    (text : List ℕ) × (file_of text ≡ some file)
some_text_is_read file h = (spelled file, imports.spelled_is_read file h)

-- An import depends on the text only through its p line and the words after it.
pub p_line_and_words_decide :
    (text other out p_line : List ℕ) (after others_after : List (List ℕ)) →
    (lines_of_text : past_comments (lines text) ≡ p_line ∷ after) →
    (lines_of_other : past_comments (lines other) ≡ p_line ∷ others_after) →
    (same_words : flatten (map words_of_line after) ≡ flatten (map words_of_line others_after)) →
    import_of text out ≡ import_of other out
p_line_and_words_decide = imports.p_line_and_words_decide

-- "Comment lines starting with c" (99): one more in front changes nothing. It ends at byte 10.
pub comment_changes_nothing :
    (comment text out : List ℕ) →
    (comment_is_one_line : all (λ x. not (eqb x 10)) comment ≡ true) →
    import_of (99 ∷ (comment ++ 10 ∷ text)) out ≡ import_of text out
comment_changes_nothing = imports.comment_changes_nothing

-- "A line ends at byte 10, with or without 13 before it": the bytes before it do not end in a 13 of their own.
pub with_or_without_13 :
    (before after out : List ℕ) →
    (no_13_before : (rest : List ℕ) → before ≡ rest ++ (13 ∷ []) → ⊥) →
    import_of (before ++ 13 ∷ 10 ∷ after) out ≡ import_of (before ++ 10 ∷ after) out
with_or_without_13 = imports.with_or_without_13

-- "After the p line any spaces, tabs and line ends may stand before and after numbers, at least one between two." The opening of a text is
-- what stands before the end of its p line: past the comments it holds this one line, and nothing after its end. Blanks are bytes 32, 9
-- and 10.
module _
    (opening p_line : List ℕ)
    (p_line_ends : past_comments (lines (opening ++ 10 ∷ [])) ≡ p_line ∷ [] ∷ [])
  where
    up_to : imports.UpToPLine opening
    up_to = record { p_line = p_line; nothing_else = p_line_ends }

    pub blanks_before_the_first :
        (blanks rest out : List ℕ) →
        (are_blanks : all (λ x. (eqb x 32 || eqb x 9) || eqb x 10) blanks ≡ true) →
        import_of (opening ++ 10 ∷ (blanks ++ rest)) out ≡ import_of (opening ++ 10 ∷ rest) out
    unfolding is_layout is_blank
    blanks_before_the_first blanks rest out = imports.blanks_before_the_first opening blanks rest out up_to

    pub blanks_after_the_last :
        (rest blanks out : List ℕ) →
        (no_13_before : (before : List ℕ) → rest ≡ before ++ (13 ∷ []) → ⊥) →
        (are_blanks : all (λ x. (eqb x 32 || eqb x 9) || eqb x 10) blanks ≡ true) →
        import_of (opening ++ 10 ∷ (rest ++ blanks)) out ≡ import_of (opening ++ 10 ∷ rest) out
    unfolding is_layout is_blank
    blanks_after_the_last rest blanks out = imports.blanks_after_the_last opening rest blanks out up_to

    pub blanks_between :
        (rest blanks others later out : List ℕ) →
        (no_13_before : (before : List ℕ) → rest ≡ before ++ (13 ∷ []) → ⊥) →
        (some_blanks : 1 ≤ length blanks) →
        (are_blanks : all (λ x. (eqb x 32 || eqb x 9) || eqb x 10) blanks ≡ true) →
        (some_others : 1 ≤ length others) →
        (others_are_blanks : all (λ x. (eqb x 32 || eqb x 9) || eqb x 10) others ≡ true) →
        import_of (opening ++ 10 ∷ (rest ++ (blanks ++ later))) out ≡ import_of (opening ++ 10 ∷ (rest ++ (others ++ later))) out
    unfolding is_layout is_blank
    blanks_between rest blanks others later out = imports.blanks_between opening rest blanks others later out up_to

-- Such openings there are: a p line of any V and C (112 32 99 110 102 32 is "p cnf "), and with it every comment line before.
pub p_line_opens :
    (v c : ℕ) →
    let opening : List ℕ = 112 ∷ 32 ∷ 99 ∷ 110 ∷ 102 ∷ 32 ∷ (decimal v ++ 32 ∷ decimal c) in
    (line : List ℕ) × (past_comments (lines (opening ++ 10 ∷ [])) ≡ line ∷ [] ∷ [])
unfolding p_line
p_line_opens v c = let w = imports.p_line_is_such v c in (w.p_line, w.nothing_else)

pub comment_before_opens :
    (comment opening p_line : List ℕ) →
    (comment_is_one_line : all (λ x. not (eqb x 10)) comment ≡ true) →
    (p_line_ends : past_comments (lines (opening ++ 10 ∷ [])) ≡ p_line ∷ [] ∷ []) →
    (line : List ℕ) × (past_comments (lines ((99 ∷ (comment ++ 10 ∷ opening)) ++ 10 ∷ [])) ≡ line ∷ [] ∷ [])
comment_before_opens comment opening p_line h e =
    let w = imports.comment_before_is_such comment opening h (record { p_line = p_line; nothing_else = e }) in
    (w.p_line, w.nothing_else)
