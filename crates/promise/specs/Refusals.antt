-- Demand 1, as far as it is about the definitions: every answer is a result or one refusal by document 01's number, and a refusal
-- changes no buffer. (That the calls answer by these definitions, on any input and after finitely many steps, is what their
-- contracts say.)
use Rattle.std.specs.Prelude.{Bool, List, ◌↔◌, ◌≡◌, refl, ℕ, ◌≤◌}
use Rattle.std.proofs.Math.Option.{Option, none, some}
use Rattle.std.proofs.Common.{arith}
use Rattle.calls.specs.Refusals.{Refusal, length_refused, head_refused, code_refused, contents_refused, body_refused, weight_refused}
use Rattle.calls.specs.Refusals.{option_refused, full_refused, rule_refused, step_refused, sheet_refused, output_refused}
use Rattle.calls.specs.Refusals.{line_refused, list_refused, text_refused, size_refused, refusal_number}
use Rattle.calls.specs.Outcomes.{refused, accepted, answer, Outcome, outcome}
use Rattle.calls.specs.Chains.{book_refusal, key_refusal, withdraw_refusal, step_refusal, run_refusal}
use Rattle.calls.specs.Lines.{State}
use Rattle.calls.specs.Calls.{check_of, load_of, write_of, report_of, key_of, withdraw_of, step_of, run_of}
use Rattle.calls.specs.Calls.{import_of, fill_of, with_index, key_with, withdraw_with, step_with, run_with}
use Rattle.theory_formats.specs.Loading.{Accepted}
use Rattle.theory_index.specs.WithIndex.{with_cases}
use Rattle.call_laws.specs.Books.{accepted_book, book_accepted}

-- "A result or one refusal numbered 1 to 12"; with 13 and 14 since document 02, U2, and 15 and 16 since U7.
pub numbered : (r : Refusal) → (1 ≤ refusal_number r) × (refusal_number r ≤ 16)
unfolding refusal_number
numbered length_refused = omega arith
numbered head_refused = omega arith
numbered code_refused = omega arith
numbered contents_refused = omega arith
numbered body_refused = omega arith
numbered weight_refused = omega arith
numbered option_refused = omega arith
numbered full_refused = omega arith
numbered rule_refused = omega arith
numbered step_refused = omega arith
numbered sheet_refused = omega arith
numbered output_refused = omega arith
numbered line_refused = omega arith
numbered list_refused = omega arith
numbered text_refused = omega arith
numbered size_refused = omega arith

-- An outcome whose answer is a refusal has left what was lent as it was.
abbrev pub Keeps : {L A : Type 0} → Outcome L A → L → Type 0
Keeps o kept =
    (r : Refusal) →
    (is_refused : o.answer ≡ refused r) →
    o.lent ≡ kept

outcome_keeps :
    {L A : Type 0} (due : Option Refusal) (a : A) (kept filled : L) →
    Keeps (outcome due a kept filled) kept
unfolding outcome
outcome_keeps none a kept filled r e = let z : ◌≡◌ {A = ℕ} 0 1 = cc in absurd (omega arith)
outcome_keeps (some x) a kept filled r e = refl

with_keeps :
    {L A : Type 0} (sheet : L → List ℕ) (held : L) (index : List ℕ) (own : Option Refusal) (a : A) (filled : L) →
    Keeps (with_index sheet held index (outcome own a held filled)) (record { own = held; index = index })
with_keeps sheet held index own a filled r =
    with_cases sheet held index a filled own (λ o. o.answer ≡ refused r → o.lent ≡ record { own = held; index = index })
    (λ x e. refl)
    (λ none right e. let z : ◌≡◌ {A = ℕ} 0 1 = cc in absurd (omega arith))

-- "After a refusal each lent buffer holds what it held before": all that each call may write, for a keying and a withdrawal the sheet,
-- the lines and the count. (The others it only reads.) Document 02, U5: the index too.
pub record NothingWritten : Type 0 where
  pub load : (book target : List ℕ) → Keeps (load_of book target) target
  pub write : (sheet book out : List ℕ) → Keeps (write_of sheet book out) out
  pub report : (sheet out : List ℕ) → Keeps (report_of sheet out) out
  pub import : (text out : List ℕ) → Keeps (import_of text out) out
  pub fill : (sheet index : List ℕ) → Keeps (fill_of sheet index) index
  pub key :
      (order : State) (index : List ℕ) (v : ℕ) (negative : Bool) →
      Keeps (key_with order index v negative) (record { own = order; index = index })
  pub withdraw :
      (order : State) (book index : List ℕ) (k : ℕ) →
      Keeps (withdraw_with order book index k) (record { own = order; index = index })
  pub step :
      (sheet index : List ℕ) (r p i j : ℕ) →
      Keeps (step_with sheet index r p i j) (record { own = sheet; index = index })
  pub run : (sheet index : List ℕ) (b : ℕ) → Keeps (run_with sheet index b) (record { own = sheet; index = index })
  -- The desk keeps no index: its keyings, and its run.
  pub desk_key : (order : State) (v : ℕ) (negative : Bool) → Keeps (key_of order v negative) order
  pub desk_run : (sheet : List ℕ) (b : ℕ) → Keeps (run_of sheet b) sheet

pub nothing_written : NothingWritten
unfolding load_of write_of report_of import_of fill_of key_of withdraw_of step_of run_of key_with withdraw_with step_with run_with
nothing_written =
    record {
      load = λ b t. outcome_keeps _ _ _ _;
      write = λ s b o. outcome_keeps _ _ _ _;
      report = λ s o. outcome_keeps _ _ _ _;
      import = λ text o. outcome_keeps _ _ _ _;
      fill = λ s x. outcome_keeps _ _ _ _;
      key = λ t x v n. with_keeps (λ u. u.sheet) t x (key_refusal t v) tt _;
      withdraw = λ t b x k. with_keeps (λ u. u.sheet) t x (withdraw_refusal t b k) tt _;
      step = λ s x r p i j. with_keeps (λ u. u) s x (step_refusal s r p i j) tt _;
      run = λ s x b. with_keeps (λ u. u) s x (run_refusal s) _ _;
      desk_key = λ t v n. outcome_keeps _ _ _ _;
      desk_run = λ s b. outcome_keeps _ _ _ _;
    }

-- The book check accepts exactly where no refusal is due.
pub check_none : (book : List ℕ) → (check_of book ≡ accepted tt) ↔ (book_refusal book ≡ none)
unfolding check_of answer
check_none book = (go (book_refusal book), λ e. rw e)
  where
    go :
        (o : Option Refusal) →
        answer {A = Unit {0}} o tt ≡ accepted tt →
        o ≡ none
    go none e = refl
    go (some r) e = let z : ◌≡◌ {A = ℕ} 0 1 = cc in absurd (omega arith)

-- "A loader that refuses every book (the conditions of 1 to 6)": a book is accepted exactly if it meets them all.
pub accepted_exactly : (book : List ℕ) → (check_of book ≡ accepted tt) ↔ Accepted book
accepted_exactly book =
    ((λ e. accepted_book book ((check_none book).0 e)), λ a. (check_none book).1 (book_accepted book a))
