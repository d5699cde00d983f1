-- Demand 1: "a result or one refusal numbered 1 to 12, due on its condition in document 01 and on no other". For each call its
-- refusals stand here in their order, each with its condition: "11 for the sheet; the book as 1 (under 8), 2, 1, 3, 4, 5, 6; 11 for N;
-- then 7, 8, 9, 10; last 12"; and document 02's 13 and 14, which "both come after 11 and before 7". An index's 11 stands with the other
-- 11s, its 12 last. The call is refused by one exactly if its condition holds and no earlier one does, and gives a result exactly if none
-- holds.
use Rattle.std.specs.Prelude.{Bool, true, not, List, [], ◌∷◌, ◌++◌, ◌≡◌, refl, ℕ, length}
use Rattle.std.proofs.Common.{append_assoc, sym, ap₂, subst, ◌∙◌}
use Rattle.model.specs.Base.{all}
use Rattle.model.specs.Rules.{is_rule}
use Rattle.model.specs.Sheet.{options_in, is_sheet}
use Rattle.model.specs.Book.{head_in_limits, written}
use Rattle.calls.specs.Refusals.{length_refused, head_refused, code_refused, contents_refused, body_refused, weight_refused}
use Rattle.calls.specs.Refusals.{option_refused, full_refused, rule_refused, step_refused, sheet_refused, output_refused}
use Rattle.calls.specs.Conditions.{lacks_head, is_length_due, has_good_codes, has_good_contents, has_good_bodies, is_light}
use Rattle.calls.specs.Refusals.{due, ◌or_else◌, line_refused, list_refused, text_refused, size_refused, refusal_number}
use Rattle.calls.specs.Lines.{State}
use Rattle.calls.specs.Conditions.{has_option, has_code, is_full, applies, is_book_of, is_long_enough, is_shorter}
use Rattle.calls.specs.Conditions.{leaves_too_much, has_lines_in_order, has_line, has_full_list}
use Rattle.calls.specs.Conditions.{has_short_index, has_stale_index, is_clause_file, gives_too_much, imported}
use Rattle.calls.specs.Chains.{part_refusal, book_refusal, lookup_refusal, load_refusal, write_refusal, report_refusal}
use Rattle.calls.specs.Chains.{complete_refusal, key_refusal, order_refusal, withdraw_refusal, step_refusal, run_refusal, fill_refusal, import_refusal, is_early}
use Rattle.calls.specs.Calls.{check_of, lookup_of, load_of, write_of, report_of, complete_of, key_of, withdraw_of, step_of, run_of}
use Rattle.calls.specs.Calls.{import_of, fill_of, key_with, withdraw_with, step_with, run_with}
use Rattle.call_laws.specs.RefusalChains.{Test, ◌on◌, first_due, ByChain, first_append, first_last, answered, answered_lent, answered_with}

-- "The book as 1 (under 8), 2, 1, 3, 4, 5, 6."
unfoldable pub of_book : List ℕ → List Test
of_book b =
    length_refused on lacks_head b
    ∷ head_refused on not (head_in_limits b)
    ∷ length_refused on not (is_length_due b)
    ∷ code_refused on not (has_good_codes b)
    ∷ contents_refused on not (has_good_contents b)
    ∷ body_refused on not (has_good_bodies b)
    ∷ weight_refused on not (is_light b)
    ∷ []

-- "11 for the sheet."
abbrev pub of_sheet : List ℕ → Test
of_sheet s = sheet_refused on not (is_sheet s)

pub record FirstDue : Type 0 where
  pub check : (book : List ℕ) → ByChain (check_of book) (of_book book)
  pub lookup :
      (book code : List ℕ) →
      ByChain
      (lookup_of book code)
      (of_book book
      ++ (option_refused on not (has_code book code)
      ∷ []))
  pub load :
      (book target : List ℕ) →
      ByChain
      (load_of book target).answer
      (sheet_refused on not (is_long_enough target)
      ∷ of_book book)
  pub write :
      (s book out : List ℕ) →
      ByChain
      (write_of s book out).answer
      (of_sheet s
      ∷ (of_book book
      ++ (sheet_refused on not (is_book_of s book)
      ∷ output_refused on is_shorter out (length (written s book))
      ∷ [])))
  pub report :
      (s out : List ℕ) →
      ByChain
      (report_of s out).answer
      (of_sheet s
      ∷ output_refused on is_shorter out (options_in s)
      ∷ [])
  -- Document 02, U7: "15 text of any other form; 16 V over 512, C or the body nodes over 4,095, or weight over 4,096; 15 goes first, 12
  -- last".
  pub import :
      (text out : List ℕ) →
      ByChain
      (import_of text out).answer
      (text_refused on not (is_clause_file text)
      ∷ size_refused on gives_too_much text
      ∷ output_refused on is_shorter out (length (imported text))
      ∷ [])
  -- Document 02, U6: "both are lent with the sheet, and checked by 1 to 6 and 11 as for a withdrawal, by no others".
  pub complete :
      (order : State) (book : List ℕ) →
      ByChain
      (complete_of order book)
      (of_sheet order.sheet
      ∷ (of_book book
      ++ (sheet_refused on not (is_book_of order.sheet book)
      ∷ sheet_refused on not (has_lines_in_order order)
      ∷ [])))
  -- Document 02, U5: "An index long enough but unequal to the fresh count before the call is refused 11", with the other 11s; "one shorter
  -- than twice N 12", which is last.
  pub key :
      (t : State) (index : List ℕ) (v : ℕ) (negative : Bool) →
      ByChain
      (key_with t index v negative).answer
      (of_sheet t.sheet
      ∷ sheet_refused on not (has_lines_in_order t)
      ∷ sheet_refused on has_stale_index t.sheet index
      ∷ list_refused on has_full_list t
      ∷ option_refused on not (has_option t.sheet v)
      ∷ full_refused on is_full t.sheet
      ∷ output_refused on has_short_index t.sheet index
      ∷ [])
  pub withdraw :
      (order : State) (book index : List ℕ) (k : ℕ) →
      ByChain
      (withdraw_with order book index k).answer
      (of_sheet order.sheet
      ∷ (of_book book
      ++ (sheet_refused on not (is_book_of order.sheet book)
      ∷ sheet_refused on not (has_lines_in_order order)
      ∷ sheet_refused on has_stale_index order.sheet index
      ∷ line_refused on not (has_line order k)
      ∷ full_refused on leaves_too_much order book
      ∷ output_refused on has_short_index order.sheet index
      ∷ [])))
  -- Document 02, U4: "refusal 9 is for rules outside 1 to 17", those that the table has no row for.
  pub step :
      (s index : List ℕ) (r p i j : ℕ) →
      ByChain
      (step_with s index r p i j).answer
      (of_sheet s
      ∷ sheet_refused on has_stale_index s index
      ∷ rule_refused on not (is_rule r)
      ∷ step_refused on not (applies s r p i j)
      ∷ output_refused on has_short_index s index
      ∷ [])
  pub run :
      (sheet index : List ℕ) (budget : ℕ) →
      ByChain
      (run_with sheet index budget).answer
      (of_sheet sheet
      ∷ sheet_refused on has_stale_index sheet index
      ∷ output_refused on has_short_index sheet index
      ∷ [])
  -- The call that fills an index, "whatever it held".
  pub fill :
      (s index : List ℕ) →
      ByChain
      (fill_of s index).answer
      (of_sheet s
      ∷ output_refused on has_short_index s index
      ∷ [])
  -- The desk keeps no index: its keyings, and its run.
  pub desk_key :
      (order : State) (v : ℕ) (negative : Bool) →
      ByChain
      (key_of order v negative).answer
      (of_sheet order.sheet
      ∷ sheet_refused on not (has_lines_in_order order)
      ∷ list_refused on has_full_list order
      ∷ option_refused on not (has_option order.sheet v)
      ∷ full_refused on is_full order.sheet
      ∷ [])
  pub desk_run : (s : List ℕ) (budget : ℕ) → ByChain (run_of s budget).answer (of_sheet s ∷ [])

-- A book's refusals are those of its chain.
book_chain : (b : List ℕ) → book_refusal b ≡ first_due (of_book b)
unfolding book_refusal part_refusal first_due of_book
book_chain b = simp first_last

-- What is tested of a sheet with a book and lines beside it: in a withdrawal, what comes before the 11 of an index. Then what comes after.
abbrev of_order : State → List ℕ → List Test
of_order order b =
    of_sheet order.sheet
    ∷ (of_book b
    ++ (sheet_refused on not (is_book_of order.sheet b)
    ∷ sheet_refused on not (has_lines_in_order order)
    ∷ []))

abbrev after_index : State → List ℕ → ℕ → List Test
after_index order b k = line_refused on not (has_line order k) ∷ full_refused on leaves_too_much order b ∷ []

order_early : (order : State) (b : List ℕ) → all (λ t. is_early t.refusal) (of_order order b) ≡ true
unfolding is_early refusal_number all of_book
order_early order b = refl

order_chain : (order : State) (b : List ℕ) → order_refusal order b ≡ first_due (of_order order b)
unfolding order_refusal first_due
order_chain order b = simp (first_append, first_last, book_chain)

line_chain :
    (order : State) (b : List ℕ) (k : ℕ) →
    (due (not (has_line order k)) line_refused or_else due (leaves_too_much order b) full_refused) ≡ first_due (after_index order b k)
unfolding first_due
line_chain order b k = simp first_last

withdraw_chain :
    (order : State) (b : List ℕ) (k : ℕ) →
    withdraw_refusal order b k ≡ first_due (of_order order b ++ after_index order b k)
unfolding withdraw_refusal
withdraw_chain order b k =
    ap₂ ◌or_else◌ (order_chain order b) (line_chain order b k) ∙ sym (first_append (of_order order b) (after_index order b k))

pub first_due_refused : FirstDue
unfolding check_of lookup_of load_of write_of report_of import_of complete_of key_of withdraw_of step_of run_of key_with withdraw_with step_with run_with fill_of
    lookup_refusal load_refusal write_refusal report_refusal complete_refusal key_refusal withdraw_refusal step_refusal run_refusal
    fill_refusal import_refusal is_early refusal_number all first_due
first_due_refused =
    record {
      check = λ b. answered _ _ (book_chain b);
      lookup = λ b code. answered _ _ (simp (first_append, first_last, book_chain));
      load = λ b target. answered_lent _ _ _ _ (simp book_chain);
      write = λ s b out. answered_lent _ _ _ _ (simp (first_append, first_last, book_chain));
      report = λ s out. answered_lent _ _ _ _ (simp first_last);
      import = λ text out. answered_lent _ _ _ _ (simp first_last);
      complete = λ order b. answered _ _ (order_chain order b);
      key = λ order index v negative.
          answered_with (λ u. u.sheet) order index tt _ (key_refusal order v)
          (of_sheet order.sheet ∷ sheet_refused on not (has_lines_in_order order) ∷ [])
          (list_refused on has_full_list order
          ∷ option_refused on not (has_option order.sheet v)
          ∷ full_refused on is_full order.sheet
          ∷ [])
          (simp first_last) refl refl;
      withdraw = λ order b index k.
          subst (λ rest. ByChain (withdraw_with order b index k).answer (of_sheet order.sheet ∷ rest))
          (append_assoc (of_book b) _ _)
          (answered_with (λ u. u.sheet) order index tt _ (withdraw_refusal order b k) (of_order order b) (after_index order b k)
          (withdraw_chain order b k) (order_early order b) refl);
      step = λ s index r p i j.
          answered_with (λ u. u) s index tt _ (step_refusal s r p i j)
          (of_sheet s ∷ [])
          (rule_refused on not (is_rule r) ∷ step_refused on not (applies s r p i j) ∷ [])
          (simp first_last) refl refl;
      run = λ s index budget. answered_with (λ u. u) s index _ _ (run_refusal s) (of_sheet s ∷ []) [] (simp first_last) refl refl;
      fill = λ s index. answered_lent _ _ _ _ (simp first_last);
      desk_key = λ t v negative. answered_lent _ _ _ _ (simp first_last);
      desk_run = λ s budget. answered_lent _ _ _ _ (simp first_last);
    }
