-- What the loader and the writer answer, by the first refusal that is due.
use mathlib.Core.Bool.{true, false}
use mathlib.Core.List.{List}
use mathlib.Core.Option.{none, some}
use mathlib.Core.Path.{◌≡◌}
use Prim.Native.Nat.{ℕ, ◌≤◌, ◌<◌}
use borrow.Author.Tests.{eq-eqb, ne_eqb, lt-ltb, le-ltb}
use lib.ListN.{length}
use Rattle.model.specs.Base.{only_if, first_of, placed}
use Rattle.model.specs.Limits.{sheet_length}
use Rattle.model.specs.Sheet.{options_in, is_sheet, sheet_of}
use Rattle.model.specs.Book.{options_of, book_nodes, written}
use Rattle.calls.specs.Refusals.{Refusal, sheet_refused, output_refused}
use Rattle.calls.specs.Outcomes.{refused, accepted, outcome}
use Rattle.calls.specs.Chains.{book_refusal, load_refusal, write_refusal}
use Rattle.calls.specs.Calls.{load_of, write_of}
use Rattle.call_answers.specs.AnswerMeaning.{after_call}

module _ (b target : List ℕ) where
  pub load_short : (length target ≡ sheet_length → ⊥) → after_call (refused sheet_refused) target ≡ load_of b target
  unfolding load_of load_refusal outcome first_of only_if
  load_short h = rw (ne_eqb (length target) sheet_length h)

  pub load_refused : {r : Refusal} → length target ≡ sheet_length → book_refusal b ≡ some r → after_call (refused r) target ≡ load_of b target
  unfolding load_of load_refusal outcome first_of only_if
  load_refused h e = rw (eq-eqb (length target) sheet_length h, e)

  pub load_done :
      length target ≡ sheet_length →
      book_refusal b ≡ none →
      after_call (accepted tt) (sheet_of (options_of b) (book_nodes b)) ≡ load_of b target
  unfolding load_of load_refusal outcome first_of only_if
  load_done h e = rw (eq-eqb (length target) sheet_length h, e)

module _ (s b out : List ℕ) where
  pub write_none : is_sheet s ≡ false → after_call (refused sheet_refused) out ≡ write_of s b out
  unfolding write_of write_refusal outcome first_of only_if
  write_none h = rw h

  pub write_refused : {r : Refusal} → is_sheet s ≡ true → book_refusal b ≡ some r → after_call (refused r) out ≡ write_of s b out
  unfolding write_of write_refusal outcome first_of only_if
  write_refused h e = rw (h, e)

  pub write_other :
      is_sheet s ≡ true →
      book_refusal b ≡ none →
      (options_of b ≡ options_in s → ⊥) →
      after_call (refused sheet_refused) out ≡ write_of s b out
  unfolding write_of write_refusal outcome first_of only_if
  write_other h e n = rw (h, e, ne_eqb (options_of b) (options_in s) n)

  pub write_short :
      is_sheet s ≡ true →
      book_refusal b ≡ none →
      options_of b ≡ options_in s →
      length out < length (written s b) →
      after_call (refused output_refused) out ≡ write_of s b out
  unfolding write_of write_refusal outcome first_of only_if
  write_short h e n l =
      rw (h, e, eq-eqb (options_of b) (options_in s) n, lt-ltb (length out) (length (written s b)) l)

  pub write_done :
      is_sheet s ≡ true →
      book_refusal b ≡ none →
      options_of b ≡ options_in s →
      length (written s b) ≤ length out →
      after_call (accepted (length (written s b))) (placed (written s b) out) ≡ write_of s b out
  unfolding write_of write_refusal outcome first_of only_if
  write_done h e n l =
      rw (h, e, eq-eqb (options_of b) (options_in s) n, le-ltb (length out) (length (written s b)) l)
