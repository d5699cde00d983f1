-- The refusals of each call in their order: "11 for the sheet; the book as 1 (under 8), 2, 1, 3, 4, 5, 6; 11 for N; then 7, 8, 9, 10;
-- last 12". Document 02, U2: 13 and 14 "both come after 11 and before 7". The first that is due is the call's answer. Those of a keying, a
-- withdrawal, a step and a run stand here without an index; `index_refusal` puts an index's own among them.
use Rattle.std.specs.Prelude.{Bool, not, ◌||◌, List, ℕ, eqb, leb, length}
use Rattle.std.proofs.Math.Option.{Option}
use Rattle.model.specs.Base.{then}
use Rattle.model.specs.Rules.{is_rule}
use Rattle.model.specs.Sheet.{options_in, is_sheet}
use Rattle.model.specs.Book.{head_in_limits, written}
use Rattle.calls.specs.Refusals.{Refusal, due, ◌or_else◌}
use Rattle.calls.specs.Refusals.{length_refused, head_refused, code_refused, contents_refused, body_refused, weight_refused}
use Rattle.calls.specs.Refusals.{option_refused, full_refused, rule_refused, step_refused, sheet_refused, output_refused}
use Rattle.calls.specs.Conditions.{lacks_head, is_length_due, has_good_codes, has_good_contents, has_good_bodies, is_light}
use Rattle.calls.specs.Refusals.{line_refused, list_refused, text_refused, size_refused, refusal_number}
use Rattle.calls.specs.Lines.{State}
use Rattle.calls.specs.Conditions.{has_option, has_code, is_full, applies, is_book_of, is_long_enough, is_shorter}
use Rattle.calls.specs.Conditions.{leaves_too_much, has_lines_in_order, has_line, has_full_list}
use Rattle.calls.specs.Conditions.{has_short_index, has_stale_index, is_clause_file, gives_too_much, imported}

-- What is tested of a book once its head and its length are right.
unfoldable pub part_refusal : List ℕ → Option Refusal
part_refusal b =
    due (not (has_good_codes b)) code_refused
    or_else due (not (has_good_contents b)) contents_refused
    or_else due (not (has_good_bodies b)) body_refused
    or_else due (not (is_light b)) weight_refused

unfoldable pub book_refusal : List ℕ → Option Refusal
book_refusal b =
    due (lacks_head b) length_refused
    or_else due (not (head_in_limits b)) head_refused
    or_else due (not (is_length_due b)) length_refused
    or_else part_refusal b

unfoldable pub lookup_refusal : List ℕ → List ℕ → Option Refusal
lookup_refusal b code = book_refusal b or_else due (not (has_code b code)) option_refused

unfoldable pub load_refusal : List ℕ → List ℕ → Option Refusal
load_refusal b target = due (not (is_long_enough target)) sheet_refused or_else book_refusal b

unfoldable pub write_refusal : List ℕ → List ℕ → List ℕ → Option Refusal
write_refusal s b out =
    due (not (is_sheet s)) sheet_refused
    or_else book_refusal b
    or_else due (not (is_book_of s b)) sheet_refused
    or_else due (is_shorter out (length (written s b))) output_refused

-- Document 02, U1: "Refusal 12 is now for a shorter output only."
unfoldable pub report_refusal : List ℕ → List ℕ → Option Refusal
report_refusal s out =
    due (not (is_sheet s)) sheet_refused or_else due (is_shorter out (options_in s)) output_refused

unfoldable pub key_refusal : State → ℕ → Option Refusal
key_refusal t v =
    due (not (is_sheet t.sheet)) sheet_refused
    or_else due (not (has_lines_in_order t)) sheet_refused
    or_else due (has_full_list t) list_refused
    or_else due (not (has_option t.sheet v)) option_refused
    or_else due (is_full t.sheet) full_refused

-- A sheet with a book and lines lent beside it. Document 02, U2: "Every 11 but the sheet's own is tested after 6, with that for N."
unfoldable pub order_refusal : State → List ℕ → Option Refusal
order_refusal t b =
    due (not (is_sheet t.sheet)) sheet_refused
    or_else book_refusal b
    or_else due (not (is_book_of t.sheet b)) sheet_refused
    or_else due (not (has_lines_in_order t)) sheet_refused

unfoldable pub withdraw_refusal : State → List ℕ → ℕ → Option Refusal
withdraw_refusal t b k =
    order_refusal t b
    or_else due (not (has_line t k)) line_refused
    or_else due (leaves_too_much t b) full_refused

-- Document 02, U6: book and choices "are lent with the sheet, and checked by 1 to 6 and 11 as for a withdrawal, by no others".
unfoldable pub complete_refusal : State → List ℕ → Option Refusal
complete_refusal t b = order_refusal t b

-- Document 02, U4: "refusal 9 is for rules outside 1 to 17".
unfoldable pub step_refusal : List ℕ → ℕ → ℕ → ℕ → ℕ → Option Refusal
step_refusal s rule place i j =
    due (not (is_sheet s)) sheet_refused
    or_else due (not (is_rule rule)) rule_refused
    or_else due (not (applies s rule place i j)) step_refused

unfoldable pub run_refusal : List ℕ → Option Refusal
run_refusal s = due (not (is_sheet s)) sheet_refused

-- Document 02, U5: the call that fills an index, "from any sheet, whatever it held".
unfoldable pub fill_refusal : List ℕ → List ℕ → Option Refusal
fill_refusal s index =
    due (not (is_sheet s)) sheet_refused or_else due (has_short_index s index) output_refused

-- Document 02, U7: "15 goes first, 12 last."
unfoldable pub import_refusal : List ℕ → List ℕ → Option Refusal
import_refusal text out =
    due (not (is_clause_file text)) text_refused
    or_else due (gives_too_much text) size_refused
    or_else due (is_shorter out (length (imported text))) output_refused

-- The refusals that come before the 11 of an index: a book's, 1 to 6, and every other 11.
unfoldable pub is_early : Refusal → Bool
is_early r = leb (refusal_number r) 6 || eqb (refusal_number r) 11

unfoldable pub early : Option Refusal → Option Refusal
early own = then own (λ r. due (is_early r) r)

-- Document 02, U5: a choice, withdrawal, step or run is lent an index beside the sheet. "An index long enough but unequal to the fresh
-- count before the call is refused 11", with the other 11s; "one shorter than twice N 12", last of all. So by what is due without one:
unfoldable pub index_refusal : List ℕ → List ℕ → Option Refusal → Option Refusal
index_refusal s index own =
    early own
    or_else due (has_stale_index s index) sheet_refused
    or_else own
    or_else due (has_short_index s index) output_refused
