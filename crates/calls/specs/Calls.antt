-- What each call answers, and what each lent buffer holds after it.
use Rattle.std.specs.Prelude.{Bool, List, ℕ, ◌+◌, ◌-◌, length, set}
use Rattle.model.specs.Base.{maybe, placed}
use Rattle.model.specs.Literal.{literal}
use Rattle.model.specs.Strategy.{run}
use Rattle.model.specs.Sheet.{options_in, nodes_in, sheet_of, report_in}
use Rattle.model.specs.Results.{appended, stepped, run_through}
use Rattle.model.specs.Book.{options_of, codes_of, book_nodes, written, option_of_code}
use Rattle.calls.specs.Outcomes.{Answer, answer, Outcome, outcome, refusal_in, unless}
use Rattle.calls.specs.Chains.{book_refusal, lookup_refusal, load_refusal, write_refusal, report_refusal}
use Rattle.calls.specs.Chains.{complete_refusal, key_refusal, withdraw_refusal, step_refusal, run_refusal}
use Rattle.calls.specs.Chains.{fill_refusal, index_refusal, import_refusal}
use Rattle.calls.specs.Conditions.{imported}
use Rattle.calls.specs.Lines.{State, counted, without, moved_up, with_marks}
use Rattle.calls.specs.Index.{fresh_count, Indexed}
use Rattle.calls.specs.Named.{is_named, complete_among}

-- The book check.
unfoldable pub check_of : List ℕ → Answer (Unit {0})
check_of b = answer (book_refusal b) tt

-- The code lookup: "one that equals no code of the book, an empty or over-long one too, is refused 7".
unfoldable pub lookup_of : List ℕ → List ℕ → Answer ℕ
lookup_of b code = answer (lookup_refusal b code) (maybe 0 (λ v. v) (option_of_code code 0 (codes_of b)))

-- The loader: "the target need only be 4,098 long, else 11; it is wholly filled".
unfoldable pub load_of : List ℕ → List ℕ → Outcome (List ℕ) (Unit {0})
load_of book target =
    outcome (load_refusal book target) tt target (sheet_of (options_of book) (book_nodes book))

-- The writer: "fills from the start and returns the length; bytes beyond stay".
unfoldable pub write_of : List ℕ → List ℕ → List ℕ → Outcome (List ℕ) ℕ
write_of s book out =
    outcome (write_refusal s book out) (length (written s book)) out (placed (written s book) out)

-- "A report writes N bytes", and "contradictory, which its result says too". Document 02, U1: it "shall accept any output of at
-- least N bytes, fill the first N and keep the rest".
unfoldable pub report_of : List ℕ → List ℕ → Outcome (List ℕ) Bool
report_of s out =
    outcome (report_refusal s out) (report_in s).contradictory out (placed (report_in s).marks out)

-- The "complete" question. Document 02, U6: the book and the choices "are lent with the sheet", and the mention is judged on them.
unfoldable pub complete_of : State → List ℕ → Answer Bool
complete_of t book =
    answer
    (complete_refusal t book)
    (complete_among (is_named book (counted t)) (options_in t.sheet) (report_in t.sheet))

-- Document 02, U7: the import of a clause file. It "fills from the start and returns the length; bytes beyond stay", as the writer does.
unfoldable pub import_of : List ℕ → List ℕ → Outcome (List ℕ) ℕ
import_of text out =
    outcome (import_refusal text out) (length (imported text)) out (placed (imported text) out)

-- The next four are without an index, as the desk program makes them; with one they stand at the end. A keying. Document 02, U2: "keying
-- adds a line and the mark".
unfoldable pub key_of : State → ℕ → Bool → Outcome State (Unit {0})
key_of t v negative =
    outcome (key_refusal t v) tt t
    (record {
      sheet = appended t.sheet (literal v negative);
      lines = set t.lines t.count (literal v negative);
      count = t.count + 1;
    })

-- A withdrawal. Document 02, U2: "Taking line k back (counted from 0) removes it, moves later lines up, loads the sheet afresh and keys
-- the remaining lines in order."
unfoldable pub withdraw_of : State → List ℕ → ℕ → Outcome State (Unit {0})
withdraw_of t book k =
    outcome (withdraw_refusal t book k) tt t
    (record {
      sheet = with_marks (sheet_of (options_of book) (book_nodes book)) (without k (counted t));
      lines = moved_up k t.count t.lines;
      count = t.count - 1;
    })

-- A single step.
unfoldable pub step_of : List ℕ → ℕ → ℕ → ℕ → ℕ → Outcome (List ℕ) (Unit {0})
step_of s rule place i j = outcome (step_refusal s rule place i j) tt s (stepped s rule place i j)

-- A run: settled or stopped, and the count.
pub record Ran : Type 0 where
  pub settled : Bool
  pub count : ℕ

unfoldable pub run_of : List ℕ → ℕ → Outcome (List ℕ) Ran
run_of s budget =
    outcome
    (run_refusal s)
    (record { settled = (run budget (nodes_in s)).settled; count = (run budget (nodes_in s)).count })
    s
    (run_through s budget)

-- Document 02, U5: "One call fills it from any sheet, whatever it held." "Numbers past twice N stay."
unfoldable pub fill_of : List ℕ → List ℕ → Outcome (List ℕ) (Unit {0})
fill_of s index = outcome (fill_refusal s index) tt index (placed (fresh_count s) index)

-- Document 02, U5: "Every choice, withdrawal, step and run brings the index up to date, and it must then equal a fresh count of the
-- sheet." A call with an index, by the call without one: all that it may write has a sheet, and it held this before.
unfoldable pub with_index : {L A : Type 0} → (L → List ℕ) → L → List ℕ → Outcome L A → Outcome (Indexed L) A
with_index sheet held index o =
    unless
    (index_refusal (sheet held) index (refusal_in o.answer))
    (record { own = held; index = index })
    (record {
      answer = o.answer;
      lent = record { own = o.lent; index = placed (fresh_count (sheet o.lent)) index };
    })

unfoldable pub key_with : State → List ℕ → ℕ → Bool → Outcome (Indexed State) (Unit {0})
key_with t index v negative = with_index (λ u. u.sheet) t index (key_of t v negative)

unfoldable pub withdraw_with : State → List ℕ → List ℕ → ℕ → Outcome (Indexed State) (Unit {0})
withdraw_with t book index k = with_index (λ u. u.sheet) t index (withdraw_of t book k)

unfoldable pub step_with : List ℕ → List ℕ → ℕ → ℕ → ℕ → ℕ → Outcome (Indexed (List ℕ)) (Unit {0})
step_with s index rule place i j = with_index (λ u. u) s index (step_of s rule place i j)

unfoldable pub run_with : List ℕ → List ℕ → ℕ → Outcome (Indexed (List ℕ)) Ran
run_with s index budget = with_index (λ u. u) s index (run_of s budget)
