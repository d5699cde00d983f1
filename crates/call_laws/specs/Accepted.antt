-- What is known where a call is accepted: none of its refusals is due.
use Rattle.std.specs.Prelude.{true, false, not, ◌&&◌, List, [], ◌≡◌, refl, ℕ, ◌+◌, ◌-◌, ◌*◌, ◌≤◌, ◌<◌, eqb, leb, length}
use Rattle.std.proofs.Math.Option.{Option, none, some}
use Rattle.std.proofs.Common.{sym, ap, ◌∙◌, arith, eqb-true, eq-eqb, leb-true, le-leb, ltb-true, ltb-false}
use Rattle.std.proofs.lemmas.Bool.{eqb-false, not-false}
use Rattle.model.specs.Base.{all, maybe}
use Rattle.model.specs.Literal.{option}
use Rattle.model.specs.Code.{weight}
use Rattle.model.specs.Limits.{most_weight, literal_weight}
use Rattle.model.specs.Rules.{is_rule}
use Rattle.model.specs.Sheet.{options_in, nodes_in, is_sheet}
use Rattle.model.specs.Book.{options_of, book_nodes, written}
use Rattle.texts.specs.ClauseFile.{File, file_of}
use Rattle.texts.specs.ClauseBook.{book_of_file, is_too_large}
use Rattle.calls.specs.Refusals.{Refusal, sheet_refused, output_refused, option_refused, full_refused, rule_refused, step_refused}
use Rattle.calls.specs.Refusals.{line_refused, list_refused, text_refused, size_refused}
use Rattle.calls.specs.Outcomes.{accepted, outcome}
use Rattle.calls.specs.Lines.{most_lines, State, counted}
use Rattle.calls.specs.Conditions.{has_option, is_book_of, is_shorter, applies, has_lines_in_order, has_line, has_full_list}
use Rattle.calls.specs.Conditions.{is_clause_file, gives_too_much, imported}
use Rattle.calls.specs.Chains.{book_refusal, write_refusal, key_refusal, order_refusal, withdraw_refusal, step_refusal, run_refusal}
use Rattle.calls.specs.Chains.{import_refusal}
use Rattle.theory_forms.specs.Logic.{and_split, and_join, first_none, only_none, none_due, is_some_of}

-- An accepted outcome: nothing was due, and the value is the one given.
pub accepted_due :
    {L A : Type 0} (due : Option Refusal) (a v : A) (kept filled : L) →
    accepted v ≡ (outcome due a kept filled).answer →
    (due ≡ none) × (v ≡ a)
unfolding outcome
accepted_due none a v kept filled e = (refl, cc)
accepted_due (some r) a v kept filled e = let z : ◌≡◌ {A = ℕ} 0 1 = cc in absurd (omega arith)

-- A sheet written with a book's codes.
pub record Writable (s b out : List ℕ) : Type 0 where
  pub sheet : is_sheet s ≡ true
  pub book : book_refusal b ≡ none
  pub same : options_of b ≡ options_in s
  pub room : length (written s b) ≤ length out

pub write_accepted : (s b out : List ℕ) → write_refusal s b out ≡ none → Writable s b out
unfolding write_refusal
write_accepted s b out e =
    let p = none_due (not (is_sheet s)) sheet_refused _ e in
    let q = first_none (book_refusal b) _ p.1 in
    let r = none_due (not (is_book_of s b)) sheet_refused _ q.1 in
    record {
      sheet = not-false (is_sheet s) p.0;
      book = q.0;
      same = eqb-true (options_of b) (options_in s) (not-false (is_book_of s b) r.0);
      room = ltb-false (length out) (length (written s b)) (only_none (is_shorter out (length (written s b))) output_refused r.1);
    }

-- Lines that are in order.
pub record InOrder (t : State) : Type 0 where
  pub slots : length t.lines ≡ most_lines
  pub few : t.count ≤ most_lines
  pub known : all (λ l. has_option t.sheet (option l)) (counted t) ≡ true

pub lines_in_order : (t : State) → has_lines_in_order t ≡ true → InOrder t
lines_in_order t e =
    let p = and_split (eqb (length t.lines) most_lines && leb t.count most_lines) _ e in
    let q = and_split (eqb (length t.lines) most_lines) _ p.0 in
    record {
      slots = eqb-true (length t.lines) most_lines q.0;
      few = leb-true t.count most_lines q.1;
      known = p.1;
    }

pub in_order_lines : (t : State) → InOrder t → has_lines_in_order t ≡ true
in_order_lines t o =
    and_join
    (and_join (eq-eqb (length t.lines) most_lines o.slots) (le-leb t.count most_lines o.few))
    o.known

-- A keying.
pub record Keyable (t : State) (v : ℕ) : Type 0 where
  pub sheet : is_sheet t.sheet ≡ true
  pub lines : InOrder t
  pub free : t.count < most_lines
  pub known : v < options_in t.sheet
  pub room : weight (nodes_in t.sheet) + literal_weight ≤ most_weight

pub key_accepted : (t : State) (v : ℕ) → key_refusal t v ≡ none → Keyable t v
unfolding key_refusal
key_accepted t v e =
    let s = t.sheet in
    let p = none_due (not (is_sheet s)) sheet_refused _ e in
    let q = none_due (not (has_lines_in_order t)) sheet_refused _ p.1 in
    let r = none_due (has_full_list t) list_refused _ q.1 in
    let u = none_due (not (has_option s v)) option_refused _ r.1 in
    let lines = lines_in_order t (not-false (has_lines_in_order t) q.0) in
    record {
      sheet = not-false (is_sheet s) p.0;
      lines = lines;
      free = below t.count lines.few (eqb-false t.count most_lines r.0);
      known = ltb-true v (options_in s) (not-false (has_option s v) u.0);
      room = ltb-false most_weight (weight (nodes_in s) + literal_weight) (only_none _ full_refused u.1);
    }
  where
    below : (c : ℕ) → c ≤ most_lines → (c ≡ most_lines → ⊥) → c < most_lines
    below c few other = omega arith

-- A sheet with a book and lines beside it.
pub record Orderly (t : State) (b : List ℕ) : Type 0 where
  pub sheet : is_sheet t.sheet ≡ true
  pub book : book_refusal b ≡ none
  pub same : options_of b ≡ options_in t.sheet
  pub lines : InOrder t

pub order_accepted : (t : State) (b : List ℕ) → order_refusal t b ≡ none → Orderly t b
unfolding order_refusal
order_accepted t b e =
    let s = t.sheet in
    let p = none_due (not (is_sheet s)) sheet_refused _ e in
    let q = first_none (book_refusal b) _ p.1 in
    let r = none_due (not (is_book_of s b)) sheet_refused _ q.1 in
    record {
      sheet = not-false (is_sheet s) p.0;
      book = q.0;
      same = eqb-true (options_of b) (options_in s) (not-false (is_book_of s b) r.0);
      lines = lines_in_order t (not-false (has_lines_in_order t) (only_none (not (has_lines_in_order t)) sheet_refused r.1));
    }

-- A withdrawal.
pub record Withdrawable (t : State) (b : List ℕ) (k : ℕ) : Type 0 where
  pub order : Orderly t b
  pub line : k < t.count
  pub room : weight (book_nodes b) + literal_weight * (t.count - 1) ≤ most_weight

pub withdraw_accepted : (t : State) (b : List ℕ) (k : ℕ) → withdraw_refusal t b k ≡ none → Withdrawable t b k
unfolding withdraw_refusal
withdraw_accepted t b k e =
    let p = first_none (order_refusal t b) _ e in
    let q = none_due (not (has_line t k)) line_refused _ p.1 in
    record {
      order = order_accepted t b p.0;
      line = ltb-true k t.count (not-false (has_line t k) q.0);
      room = ltb-false most_weight (weight (book_nodes b) + literal_weight * (t.count - 1)) (only_none _ full_refused q.1);
    }

-- A step.
pub record Steppable (s : List ℕ) (r p i j : ℕ) : Type 0 where
  pub sheet : is_sheet s ≡ true
  pub rule : is_rule r ≡ true
  pub there : applies s r p i j ≡ true

pub step_accepted : (s : List ℕ) (r p i j : ℕ) → step_refusal s r p i j ≡ none → Steppable s r p i j
unfolding step_refusal
step_accepted s r p i j e =
    let a = none_due (not (is_sheet s)) sheet_refused _ e in
    let b = none_due (not (is_rule r)) rule_refused _ a.1 in
    record {
      sheet = not-false (is_sheet s) a.0;
      rule = not-false (is_rule r) b.0;
      there = not-false (applies s r p i j) (only_none _ step_refused b.1);
    }

-- A run.
pub run_accepted : (s : List ℕ) → run_refusal s ≡ none → is_sheet s ≡ true
unfolding run_refusal
run_accepted s e = not-false (is_sheet s) (only_none _ sheet_refused e)

-- An import.
pub record Importable (text out : List ℕ) : Type 0 where
  pub file : File
  pub read : file_of text ≡ some file
  pub small : is_too_large file ≡ false
  pub room : length (book_of_file file) ≤ length out

pub import_accepted : (text out : List ℕ) → import_refusal text out ≡ none → Importable text out
unfolding import_refusal maybe
import_accepted text out e =
    let a = none_due (not (is_clause_file text)) text_refused _ e in
    let b = none_due (gives_too_much text) size_refused _ a.1 in
    let c = only_none (is_shorter out (length (imported text))) output_refused b.1 in
    let (f, g) = is_some_of (file_of text) (not-false (is_clause_file text) a.0) in
    record {
      file = f;
      read = g;
      small = sym (ap (maybe false is_too_large) g) ∙ b.0;
      room = ltb-false (length out) (length (book_of_file f)) (sym (ap (λ o. is_shorter out (length (maybe [] book_of_file o))) g) ∙ c);
    }
