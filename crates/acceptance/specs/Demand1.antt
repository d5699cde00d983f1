-- Demand 1: "The answer to each call, on any input at all, is a result or one refusal numbered 1 to 12, due on its condition in document
-- 01 and on no other. It comes after finitely many steps. After a refusal each lent buffer holds what it held before." (To 16 since
-- document 02, U2 and U7. That each call answers by these definitions, on any input and after finitely many steps, is its contract.)
use Rattle.std.specs.Prelude.{Bool, true, not, List, ◌++◌, ◌↔◌, ◌≡◌, refl, ℕ, ◌≤◌, length}
use Rattle.std.proofs.Common.{sym, ap, ◌∙◌}
use Rattle.model.specs.Base.{all}
use Rattle.model.specs.Code.{weight}
use Rattle.model.specs.Rules.{is_rule}
use Rattle.model.specs.Sheet.{options_in, is_sheet}
use Rattle.model.specs.Book.{options_of, rules_of, size_of, word, length_due, codes_of, codes_ok, contents_of, in_line}
use Rattle.model.specs.Book.{bodies_of, body_ok, book_nodes, head_in_limits, written}
use Rattle.calls.specs.Refusals.{Refusal, refusal_number, due, ◌or_else◌}
use Rattle.calls.specs.Refusals.{length_refused, head_refused, code_refused, contents_refused, body_refused, weight_refused}
use Rattle.calls.specs.Refusals.{option_refused, full_refused, rule_refused, step_refused, sheet_refused, output_refused}
use Rattle.calls.specs.Refusals.{line_refused, list_refused, text_refused, size_refused}
use Rattle.calls.specs.Outcomes.{Answer, refused, accepted, refusal_in}
use Rattle.calls.specs.Lines.{State}
use Rattle.calls.specs.Conditions.{lacks_head, is_length_due, has_good_codes, has_good_contents, has_good_bodies, is_light}
use Rattle.calls.specs.Conditions.{has_option, has_code, is_full, applies, is_book_of, is_long_enough, is_shorter}
use Rattle.calls.specs.Conditions.{leaves_too_much, has_lines_in_order, has_line, has_full_list}
use Rattle.calls.specs.Conditions.{has_short_index, has_stale_index, is_clause_file, gives_too_much, imported}
use Rattle.calls.specs.Calls.{check_of, lookup_of, load_of, write_of, report_of, complete_of, key_of, run_of}
use Rattle.calls.specs.Calls.{import_of, fill_of, key_with, withdraw_with, step_with, run_with}
use Rattle.call_laws.specs.RefusalChains.{Test, first_due, first_is, none_is, first_append, first_last, ByChain}
use Rattle.promise.specs.Refusals as refusals
use Rattle.promise.specs.Due.{of_book, first_due_refused}

-- "Numbered 1 to 12"; to 16.
pub numbered : (r : Refusal) → (1 ≤ refusal_number r) × (refusal_number r ≤ 16)
numbered r = refusals.numbered r

-- An answer by a chain has its first refusal that is due.
by_chain : {A : Type 0} (given : Answer A) (tests : List Test) → ByChain given tests → refusal_in given ≡ first_due tests
unfolding refusal_in
by_chain (refused r) tests h = sym ((first_is r tests).1 ((h.refusal r).0 refl))
by_chain (accepted a) tests h = sym ((none_is tests).1 (h.result.0 (a, refl)))

-- "Due on its condition and on no other": for each call its refusals in their order, each with its condition. (`refusal_in`: why an answer
-- is no result, if it is none; `due`: the refusal, where its condition holds; `or_else`: the first of several. So a call is refused by one
-- exactly if its condition holds and no earlier one does, and gives a result exactly if none holds.) "The book as 1 (under 8), 2, 1, 3, 4,
-- 5, 6."
pub check :
    (book : List ℕ) →
    refusal_in (check_of book)
    ≡ (due (lacks_head book) length_refused
    or_else due (not (head_in_limits book)) head_refused
    or_else due (not (is_length_due book)) length_refused
    or_else due (not (has_good_codes book)) code_refused
    or_else due (not (has_good_contents book)) contents_refused
    or_else due (not (has_good_bodies book)) body_refused
    or_else due (not (is_light book)) weight_refused)
unfolding first_due of_book
check book = by_chain _ _ (first_due_refused.check book) ∙ simp first_last

-- What comes after a book's refusals.
after_book : (b : List ℕ) (ts : List Test) → first_due (of_book b ++ ts) ≡ (refusal_in (check_of b) or_else first_due ts)
after_book b ts = first_append (of_book b) ts ∙ ap (λ o. o or_else first_due ts) (sym (by_chain _ _ (first_due_refused.check b)))

pub lookup :
    (book code : List ℕ) →
    refusal_in (lookup_of book code) ≡ (refusal_in (check_of book) or_else due (not (has_code book code)) option_refused)
unfolding first_due
lookup book code = by_chain _ _ (first_due_refused.lookup book code) ∙ simp (after_book, first_last)

pub load :
    (book target : List ℕ) →
    refusal_in (load_of book target).answer ≡ (due (not (is_long_enough target)) sheet_refused or_else refusal_in (check_of book))
unfolding first_due
load book target =
    by_chain _ _ (first_due_refused.load book target)
    ∙ ap (λ o. due (not (is_long_enough target)) sheet_refused or_else o) (sym (by_chain _ _ (first_due_refused.check book)))

pub write :
    (sheet book out : List ℕ) →
    refusal_in (write_of sheet book out).answer
    ≡ (due (not (is_sheet sheet)) sheet_refused
    or_else refusal_in (check_of book)
    or_else due (not (is_book_of sheet book)) sheet_refused
    or_else due (is_shorter out (length (written sheet book))) output_refused)
unfolding first_due
write sheet book out = by_chain _ _ (first_due_refused.write sheet book out) ∙ simp (after_book, first_last)

-- Document 02, U1: "Refusal 12 is now for a shorter output only."
pub report :
    (sheet out : List ℕ) →
    refusal_in (report_of sheet out).answer
    ≡ (due (not (is_sheet sheet)) sheet_refused or_else due (is_shorter out (options_in sheet)) output_refused)
unfolding first_due
report sheet out = by_chain _ _ (first_due_refused.report sheet out) ∙ simp first_last

-- Document 02, U2: 13 and 14 "both come after 11 and before 7"; U5: an index's 11 stands with the other 11s, its 12 last.
pub key :
    (order : State) (index : List ℕ) (v : ℕ) (negative : Bool) →
    refusal_in (key_with order index v negative).answer
    ≡ (due (not (is_sheet order.sheet)) sheet_refused
    or_else due (not (has_lines_in_order order)) sheet_refused
    or_else due (has_stale_index order.sheet index) sheet_refused
    or_else due (has_full_list order) list_refused
    or_else due (not (has_option order.sheet v)) option_refused
    or_else due (is_full order.sheet) full_refused
    or_else due (has_short_index order.sheet index) output_refused)
unfolding first_due
key order index v negative = by_chain _ _ (first_due_refused.key order index v negative) ∙ simp first_last

pub withdraw :
    (order : State) (book index : List ℕ) (k : ℕ) →
    refusal_in (withdraw_with order book index k).answer
    ≡ (due (not (is_sheet order.sheet)) sheet_refused
    or_else refusal_in (check_of book)
    or_else due (not (is_book_of order.sheet book)) sheet_refused
    or_else due (not (has_lines_in_order order)) sheet_refused
    or_else due (has_stale_index order.sheet index) sheet_refused
    or_else due (not (has_line order k)) line_refused
    or_else due (leaves_too_much order book) full_refused
    or_else due (has_short_index order.sheet index) output_refused)
unfolding first_due
withdraw order book index k = by_chain _ _ (first_due_refused.withdraw order book index k) ∙ simp (after_book, first_last)

-- Document 02, U4: "refusal 9 is for rules outside 1 to 17".
pub step :
    (sheet index : List ℕ) (r p i j : ℕ) →
    refusal_in (step_with sheet index r p i j).answer
    ≡ (due (not (is_sheet sheet)) sheet_refused
    or_else due (has_stale_index sheet index) sheet_refused
    or_else due (not (is_rule r)) rule_refused
    or_else due (not (applies sheet r p i j)) step_refused
    or_else due (has_short_index sheet index) output_refused)
unfolding first_due
step sheet index r p i j = by_chain _ _ (first_due_refused.step sheet index r p i j) ∙ simp first_last

pub run :
    (sheet index : List ℕ) (budget : ℕ) →
    refusal_in (run_with sheet index budget).answer
    ≡ (due (not (is_sheet sheet)) sheet_refused
    or_else due (has_stale_index sheet index) sheet_refused
    or_else due (has_short_index sheet index) output_refused)
unfolding first_due
run sheet index budget = by_chain _ _ (first_due_refused.run sheet index budget) ∙ simp first_last

pub fill :
    (sheet index : List ℕ) →
    refusal_in (fill_of sheet index).answer
    ≡ (due (not (is_sheet sheet)) sheet_refused or_else due (has_short_index sheet index) output_refused)
unfolding first_due
fill sheet index = by_chain _ _ (first_due_refused.fill sheet index) ∙ simp first_last

-- Document 02, U6: book and choices are "checked by 1 to 6 and 11 as for a withdrawal, by no others".
pub complete :
    (order : State) (book : List ℕ) →
    refusal_in (complete_of order book)
    ≡ (due (not (is_sheet order.sheet)) sheet_refused
    or_else refusal_in (check_of book)
    or_else due (not (is_book_of order.sheet book)) sheet_refused
    or_else due (not (has_lines_in_order order)) sheet_refused)
unfolding first_due
complete order book = by_chain _ _ (first_due_refused.complete order book) ∙ simp (after_book, first_last)

-- Document 02, U7: "15 text of any other form; 16 V over 512, C or the body nodes over 4,095, or weight over 4,096; 15 goes first, 12
-- last".
pub import :
    (text out : List ℕ) →
    refusal_in (import_of text out).answer
    ≡ (due (not (is_clause_file text)) text_refused
    or_else due (gives_too_much text) size_refused
    or_else due (is_shorter out (length (imported text))) output_refused)
unfolding first_due
import text out = by_chain _ _ (first_due_refused.import text out) ∙ simp first_last

-- The desk program keeps no index: its keyings, and its run.
pub desk_key :
    (order : State) (v : ℕ) (negative : Bool) →
    refusal_in (key_of order v negative).answer
    ≡ (due (not (is_sheet order.sheet)) sheet_refused
    or_else due (not (has_lines_in_order order)) sheet_refused
    or_else due (has_full_list order) list_refused
    or_else due (not (has_option order.sheet v)) option_refused
    or_else due (is_full order.sheet) full_refused)
unfolding first_due
desk_key order v negative = by_chain _ _ (first_due_refused.desk_key order v negative) ∙ simp first_last

pub desk_run :
    (sheet : List ℕ) (budget : ℕ) →
    refusal_in (run_of sheet budget).answer ≡ due (not (is_sheet sheet)) sheet_refused
unfolding first_due
desk_run sheet budget = by_chain _ _ (first_due_refused.desk_run sheet budget) ∙ simp first_last

-- "A loader that refuses every book (the conditions of 1 to 6)" is not taken: a book is accepted exactly if its head is whole, its numbers
-- are within their limits and the fourth is zero, it has the length due, its codes are good, its contents are in line, its bodies are well
-- formed, and it weighs 4,096 at most.
pub accepted_exactly :
    (book : List ℕ) →
    (check_of book ≡ accepted tt)
    ↔ ((8 ≤ length book)
    × (options_of book ≤ 512)
    × (rules_of book ≤ 4095)
    × (size_of book ≤ 4095)
    × (word book 6 ≡ 0)
    × (length book ≡ length_due book)
    × (codes_ok (codes_of book) ≡ true)
    × (in_line (size_of book) 0 (contents_of book) ≡ true)
    × (all (body_ok (options_of book)) (bodies_of book) ≡ true)
    × (weight (book_nodes book) ≤ 4096))
accepted_exactly book =
    let w = refusals.accepted_exactly book in (
      (λ e.
          let a = w.0 e in
          (a.head, a.options, a.rules, a.nodes, a.fourth, a.long, a.codes, a.contents, a.bodies, a.weight)),
      λ a.
          w.1
          (record {
            head = a.0;
            options = a.1;
            rules = a.2;
            nodes = a.3;
            fourth = a.4;
            long = a.5;
            codes = a.6;
            contents = a.7;
            bodies = a.8;
            weight = a.9;
          }),
    )

-- "After a refusal each lent buffer holds what it held before": all that each call may write.
pub load_keeps :
    (book target : List ℕ) (r : Refusal) →
    (is_refused : (load_of book target).answer ≡ refused r) →
    (load_of book target).lent ≡ target
load_keeps = (refusals.nothing_written).load

pub write_keeps :
    (sheet book out : List ℕ) (r : Refusal) →
    (is_refused : (write_of sheet book out).answer ≡ refused r) →
    (write_of sheet book out).lent ≡ out
write_keeps = (refusals.nothing_written).write

pub report_keeps :
    (sheet out : List ℕ) (r : Refusal) →
    (is_refused : (report_of sheet out).answer ≡ refused r) →
    (report_of sheet out).lent ≡ out
report_keeps = (refusals.nothing_written).report

-- A keying and a withdrawal: the sheet, the lines, the count, and the index.
pub key_keeps :
    (order : State) (index : List ℕ) (v : ℕ) (negative : Bool) (r : Refusal) →
    (is_refused : (key_with order index v negative).answer ≡ refused r) →
    (key_with order index v negative).lent ≡ record { own = order; index = index }
key_keeps = (refusals.nothing_written).key

pub withdraw_keeps :
    (order : State) (book index : List ℕ) (k : ℕ) (r : Refusal) →
    (is_refused : (withdraw_with order book index k).answer ≡ refused r) →
    (withdraw_with order book index k).lent ≡ record { own = order; index = index }
withdraw_keeps = (refusals.nothing_written).withdraw

pub step_keeps :
    (sheet index : List ℕ) (rule p i j : ℕ) (r : Refusal) →
    (is_refused : (step_with sheet index rule p i j).answer ≡ refused r) →
    (step_with sheet index rule p i j).lent ≡ record { own = sheet; index = index }
step_keeps = (refusals.nothing_written).step

pub run_keeps :
    (sheet index : List ℕ) (budget : ℕ) (r : Refusal) →
    (is_refused : (run_with sheet index budget).answer ≡ refused r) →
    (run_with sheet index budget).lent ≡ record { own = sheet; index = index }
run_keeps = (refusals.nothing_written).run

pub fill_keeps :
    (sheet index : List ℕ) (r : Refusal) →
    (is_refused : (fill_of sheet index).answer ≡ refused r) →
    (fill_of sheet index).lent ≡ index
fill_keeps = (refusals.nothing_written).fill

pub import_keeps :
    (text out : List ℕ) (r : Refusal) →
    (is_refused : (import_of text out).answer ≡ refused r) →
    (import_of text out).lent ≡ out
import_keeps = (refusals.nothing_written).import

pub desk_key_keeps :
    (order : State) (v : ℕ) (negative : Bool) (r : Refusal) →
    (is_refused : (key_of order v negative).answer ≡ refused r) →
    (key_of order v negative).lent ≡ order
desk_key_keeps = (refusals.nothing_written).desk_key

pub desk_run_keeps :
    (sheet : List ℕ) (budget : ℕ) (r : Refusal) →
    (is_refused : (run_of sheet budget).answer ≡ refused r) →
    (run_of sheet budget).lent ≡ sheet
desk_run_keeps = (refusals.nothing_written).desk_run
