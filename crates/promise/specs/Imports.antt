-- Import of clause files. Document 02, U7: "Import shall accept comment lines starting with c, then one line `p cnf V C`, then C clauses,
-- each closed by 0." Which texts these are, `file_of` says, and with it the V and the clauses of each; which refusal is due, `Due` says.
-- Here: what an accepted import gives, and what it does not depend on.
use Rattle.std.specs.Prelude.{true, false, not, ◌≡◌, ℕ, ◌+◌, ◌-◌, ◌*◌, ◌≤◌, eqb, ltb, length, take, drop}
use mathlib.Core.List.{List, [], ◌∷◌, ◌++◌, map, flatten}
use Rattle.std.proofs.Math.Option.{none, some}
use Rattle.std.proofs.Common.{sym, ap, ap₂, ◌∙◌, arith, le-ltb}
use Rattle.model.specs.Base.{all, maybe, is_some, first_of, only_if, placed}
use Rattle.model.specs.Limits.{sheet_length}
use Rattle.model.specs.Literal.{option}
use Rattle.model.specs.Code.{number_of}
use Rattle.model.specs.Propagation.{report}
use Rattle.model.specs.Sheet.{options_in, sheet_of}
use Rattle.model.specs.Book.{options_of, bodies_of, book_nodes, clauses_of_book}
use Rattle.texts.specs.Decimals.{decimal}
use Rattle.texts.specs.ClauseFile.{lines, past_comments, words_of_line, File, file_of_lines, file_of}
use Rattle.texts.specs.ClauseBook.{code_of, nodes_of_clause, book_of_file, is_too_large}
use Rattle.calls.specs.Conditions.{imported}
use Rattle.calls.specs.Outcomes.{accepted, answer, outcome}
use Rattle.calls.specs.Chains.{book_refusal, lookup_refusal, import_refusal}
use Rattle.calls.specs.Calls.{check_of, lookup_of, load_of, write_of, report_of, import_of}
use Rattle.theory_forms.specs.Placed.{placed_start, placed_rest, placed_length}
use Rattle.theory_forms.specs.Sheets.{options_made}
use Rattle.theory_texts.specs.PLines.{p_line}
use Rattle.theory_formats.specs.Loading.{Accepted, loaded_sheet, loaded_meaning}
use Rattle.theory_texts.specs.Decimals.{decimal_is}
use Rattle.theory_imports.specs.Sizes.{length_nodes}
use Rattle.theory_imports.specs.Codes.{code_inj, code_found}
use Rattle.theory_imports.specs.Trees.{named_in}
use Rattle.theory_imports.specs.Spelled.{spelled, spelled_read}
use Rattle.theory_imports.specs.Reading.{file_named}
use Rattle.theory_imports.specs.Books.{Usable, usable, file_accepted, file_options, file_codes, file_bodies, file_length, file_clauses}
use Rattle.theory_imports.specs.BookBytes.{file_bytes}
use Rattle.theory_imports.specs.Layout.{No13Last, is_layout, comment_before, end_with_13, past_layout, words_between, words_ended}
use Rattle.theory_imports.specs.Layout as layout
use Rattle.call_laws.specs.Accepted.{accepted_due, import_accepted}
use Rattle.call_laws.specs.Books.{book_accepted}
use Rattle.call_laws.specs.LoadingAndWriting.{load_accepted}
use Rattle.promise.specs.Refusals.{check_none}
use Rattle.promise.specs.Reports.{reported, Reported, report_given, propagation_exact}
use Rattle.promise.specs.RoundTrips.{load_then_write}

-- What is asked of the book of a clause file.
pub record BookOf (file : File) (book : List ℕ) : Type 0 where
  -- None of the conditions of 1 to 6 is against it.
  pub is_a_book : check_of book ≡ accepted tt
  -- It has the file's V options, and "option v - 1 gets as code the letter V and the decimal v" (86 is V).
  pub options : options_of book ≡ file.options
  pub code_given :
      (v : ℕ) →
      (from_one : 1 ≤ v) →
      (to_the_last : v ≤ file.options) →
      lookup_of book (86 ∷ decimal v) ≡ accepted (v - 1)
  -- "Each clause becomes one any-of, a lone mark too, clauses and marks in file order."
  pub bodies : bodies_of book ≡ map (λ c. map number_of (nodes_of_clause c)) file.clauses
  -- "8 + 13N + 4M + 2T", where T is an any-of for each clause, and the marks.
  pub long :
      length book
      ≡ 8 + (13 * file.options + (4 * length file.clauses + 2 * (length file.clauses + length (flatten file.clauses))))
  -- It "must have exactly the file's clauses as sets": it has them in file order, mark by mark.
  pub clauses : clauses_of_book book ≡ file.clauses
  -- So a sheet that is loaded from it reports what propagation derives from the file's clauses.
  pub report_is :
      (target out : List ℕ) →
      (target_long_enough : length target ≡ sheet_length) →
      (out_has_room : file.options ≤ length out) →
      report_of (load_of book target).lent out ≡ reported (report file.options file.clauses) out
  pub report_says :
      (target out : List ℕ) →
      (target_long_enough : length target ≡ sheet_length) →
      (out_has_room : file.options ≤ length out) →
      Reported file.options file.clauses out (report_of (load_of book target).lent out)
  -- "Written by the writer's rules": that sheet, written with the book's codes, is the book again.
  pub written_again :
      (target out : List ℕ) →
      (target_long_enough : length target ≡ sheet_length) →
      (out_has_room : length book ≤ length out) →
      write_of (load_of book target).lent book out ≡ record { answer = accepted (length book); lent = placed book out }

-- An import that was accepted with this answer: the text is a clause file, and as many of the output's first bytes as the answer says are
-- the file's book; "bytes beyond stay".
pub record Imported (text out : List ℕ) (n : ℕ) : Type 0 where
  pub file : File
  pub is_file : file_of text ≡ some file
  pub book : BookOf file (take n (import_of text out).lent)
  pub within : n ≤ length out
  pub length_stays : length (import_of text out).lent ≡ length out
  pub rest_stays : drop n (import_of text out).lent ≡ drop n out

-- The book of a file that is not too large is such a book.
module _ (file : File) (ok : Usable file) where
  abbrev b : List ℕ
  b = book_of_file file

  none_due : book_refusal b ≡ none
  none_due = book_accepted b (file_accepted file ok)

  found :
      (v : ℕ) →
      1 ≤ v →
      v ≤ file.options →
      lookup_of b (86 ∷ decimal v) ≡ accepted (v - 1)
  unfolding lookup_of lookup_refusal answer first_of only_if is_some maybe
  found v least most = rw (none_due, file_codes file ok, code_found file.options v least most)

  reports :
      (target out : List ℕ) →
      length target ≡ sheet_length →
      file.options ≤ length out →
      report_of (load_of b target).lent out ≡ reported (report file.options file.clauses) out
  reports target out long room =
      let a : Accepted b = file_accepted file ok in
      let s : List ℕ = sheet_of (options_of b) (book_nodes b) in
      let same : options_in s ≡ file.options = options_made (options_of b) (book_nodes b) ∙ file_options file ok in
      ap (λ o. report_of o.lent out) (load_accepted b target none_due long)
      ∙ report_given s out (loaded_sheet b a) (omega (arith, same, room))
      ∙ ap₂ (λ n cs. reported (report n cs) out) same (loaded_meaning b a ∙ file_clauses file ok)

  book_of_usable : BookOf file b
  book_of_usable =
      record {
        is_a_book = (check_none b).1 none_due;
        options = file_options file ok;
        code_given = found;
        bodies = file_bodies file ok;
        long = omega (arith, file_length file ok, length_nodes file);
        clauses = file_clauses file ok;
        report_is = reports;
        report_says = λ target out long room.
            rw (reports target out long room) (propagation_exact file.options file.clauses out room);
        written_again = λ target out. load_then_write b target out ((check_none b).1 none_due) (file_bytes file);
      }

-- What an import gives where no refusal is due: the book's length, and the book at the start of the output.
pub import_given :
    (text out : List ℕ) (file : File) →
    (is_file : file_of text ≡ some file) →
    (not_too_large : is_too_large file ≡ false) →
    (out_has_room : length (book_of_file file) ≤ length out) →
    import_of text out
    ≡ record { answer = accepted (length (book_of_file file)); lent = placed (book_of_file file) out }
unfolding import_of import_refusal outcome maybe is_some first_of only_if
import_given text out file e small room = rw (e, small, le-ltb (length out) (length (book_of_file file)) room)

-- So that is what every accepted import has done.
pub accepted_import :
    (text out : List ℕ) (n : ℕ) →
    (import_is_accepted : (import_of text out).answer ≡ accepted n) →
    Imported text out n
unfolding import_of
accepted_import text out n e =
    let due = accepted_due (import_refusal text out) (length (imported text)) n out (placed (imported text) out) (sym e) in
    let w = import_accepted text out due.0 in
    let new : List ℕ = book_of_file w.file in
    let given = import_given text out w.file w.read w.small w.room in
    let left : (import_of text out).lent ≡ placed new out = ap (λ o. o.lent) given in
    let long : length new ≡ n = told (sym (ap (λ o. o.answer) given) ∙ e) in
    record {
      file = w.file;
      is_file = w.read;
      book =
          rw (left, placed_start new out long)
          (book_of_usable w.file (usable w.file (file_named text w.read) w.small));
      within = omega (arith, w.room, long);
      length_stays = rw left (placed_length new out long (omega (arith, w.room, long)));
      rest_stays = rw left (placed_rest new out long);
    }
  where
    told : {k m : ℕ} → accepted k ≡ accepted m → k ≡ m
    told h = cc

-- Each file whose marks are 1 to V has a text, `spelled`: the p line, then a line for each clause, its marks and the 0. It is read as that
-- file.
pub spelled_is_read :
    (file : File) →
    (marks_are_1_to_v : all (all (λ l. ltb (option l) file.options)) file.clauses ≡ true) →
    file_of (spelled file) ≡ some file
unfolding named_in
spelled_is_read file h = spelled_read file h

-- Codes of different options differ.
pub codes_differ : (v w : ℕ) → (same_code : code_of v ≡ code_of w) → v ≡ w
codes_differ = code_inj

-- Texts that differ only in comments, blanks and line ends give the same outcome. First, in general: an import depends on the text only
-- through its p line and the words after it.
same_file : (text other out : List ℕ) → file_of text ≡ file_of other → import_of text out ≡ import_of other out
unfolding import_of import_refusal
same_file text other out e = rw e

pub p_line_and_words_decide :
    (text other out p_line : List ℕ) (after others_after : List (List ℕ)) →
    (lines_of_text : past_comments (lines text) ≡ p_line ∷ after) →
    (lines_of_other : past_comments (lines other) ≡ p_line ∷ others_after) →
    (same_words : flatten (map words_of_line after) ≡ flatten (map words_of_line others_after)) →
    import_of text out ≡ import_of other out
unfolding file_of file_of_lines
p_line_and_words_decide text other out p ls ms e f g = same_file text other out (rw (e, f, g))

-- "Comment lines starting with c" (99): one more in front of a text changes nothing. It ends at byte 10.
pub comment_changes_nothing :
    (comment text out : List ℕ) →
    (comment_is_one_line : all (λ x. not (eqb x 10)) comment ≡ true) →
    import_of (99 ∷ (comment ++ 10 ∷ text)) out ≡ import_of text out
comment_changes_nothing comment text out h = same_file _ text out (comment_before comment text h)

-- "A line ends at byte 10, with or without 13 before it": for each line end of a text, in comments and in the p line too. (`No13Last`:
-- the bytes before it do not end in a 13, which would be its own.)
pub with_or_without_13 :
    (before after out : List ℕ) →
    (no_13_before : No13Last before) →
    import_of (before ++ 13 ∷ 10 ∷ after) out ≡ import_of (before ++ 10 ∷ after) out
with_or_without_13 before after out h = same_file _ _ out (end_with_13 before after h)

-- The bytes of a text up to the end of its p line: past the comments they hold this one line, and nothing after its end.
pub record UpToPLine (opening : List ℕ) : Type 0 where
  pub p_line : List ℕ
  pub nothing_else : past_comments (lines (opening ++ 10 ∷ [])) ≡ p_line ∷ [] ∷ []

-- So it is with a p line alone, and with a comment line before such bytes.
pub p_line_is_such : (v c : ℕ) → UpToPLine (p_line (decimal v) (decimal c))
p_line_is_such v c =
    record {
      p_line = p_line (decimal v) (decimal c);
      nothing_else = layout.p_line_alone (decimal v) (decimal c) (decimal_is v) (decimal_is c);
    }

pub comment_before_is_such :
    (comment opening : List ℕ) →
    (comment_is_one_line : all (λ x. not (eqb x 10)) comment ≡ true) →
    (p_line_ends : UpToPLine opening) →
    UpToPLine (99 ∷ (comment ++ 10 ∷ opening))
comment_before_is_such c a h p =
    record { p_line = p.p_line; nothing_else = layout.comment_more c a p.p_line h p.nothing_else }

-- "After the p line any spaces, tabs and line ends may stand before and after numbers, at least one between two". (`is_layout`: a space, a
-- tab or a 10; whether 13 stands before a 10 was said above.) Before the first,
pub blanks_before_the_first :
    (opening blanks rest out : List ℕ) →
    (p_line_ends : UpToPLine opening) →
    (are_blanks : all is_layout blanks ≡ true) →
    import_of (opening ++ 10 ∷ (blanks ++ rest)) out ≡ import_of (opening ++ 10 ∷ rest) out
blanks_before_the_first a s b out p h =
    same_file _ _ out (layout.same_words a (s ++ b) b p.p_line p.nothing_else (past_layout s b h))

-- after the last,
pub blanks_after_the_last :
    (opening rest blanks out : List ℕ) →
    (p_line_ends : UpToPLine opening) →
    (no_13_before : No13Last rest) →
    (are_blanks : all is_layout blanks ≡ true) →
    import_of (opening ++ 10 ∷ (rest ++ blanks)) out ≡ import_of (opening ++ 10 ∷ rest) out
blanks_after_the_last a b s out p n h =
    same_file _ _ out (layout.same_words a (b ++ s) b p.p_line p.nothing_else (words_ended b s n h))

-- and wherever some stand, any others may stand in their place.
pub blanks_between :
    (opening rest blanks others later out : List ℕ) →
    (p_line_ends : UpToPLine opening) →
    (no_13_before : No13Last rest) →
    (some_blanks : 1 ≤ length blanks) →
    (are_blanks : all is_layout blanks ≡ true) →
    (some_others : 1 ≤ length others) →
    (others_are_blanks : all is_layout others ≡ true) →
    import_of (opening ++ 10 ∷ (rest ++ (blanks ++ later))) out ≡ import_of (opening ++ 10 ∷ (rest ++ (others ++ later))) out
blanks_between a b s t c out p n i h j k =
    same_file _ _ out
    (layout.same_words a (b ++ (s ++ c)) (b ++ (t ++ c)) p.p_line p.nothing_else (words_between b s t c n i h j k))
