-- The answers of a run, by its test.
use mathlib.Core.Bool.{Bool, true, false, not}
use mathlib.Core.List.{List}
use mathlib.Core.Option.{none, some}
use mathlib.Core.Path.{◌≡◌, ap, ◌∙◌}
use Prim.Native.Nat.{ℕ, ◌≤◌}
use lib.ListN.{length}
use Rattle.model.specs.Base.{only_if, placed}
use Rattle.model.specs.Sheet.{is_sheet}
use Rattle.model.specs.Results.{run_through}
use Rattle.calls.specs.Refusals.{Refusal, due, sheet_refused}
use Rattle.calls.specs.Outcomes.{refused, accepted, outcome}
use Rattle.calls.specs.Index.{fresh_count}
use Rattle.calls.specs.Conditions.{index_length}
use Rattle.calls.specs.Chains.{run_refusal, early, index_refusal}
use Rattle.calls.specs.Calls.{run_of, run_with}
use Rattle.call_answers.specs.AnswerMeaning.{after_call, beside_index}
use Rattle.theory_rewriting.specs.Reached.{Ends}
use Rattle.theory_index.specs.IndexedCalls.{sheet_first, index_accepted, refused_with, accepted_with}
use Rattle.theory_index.specs.Left.{left_room, run_left}
use Rattle.call_laws.specs.RefusalChains.{first_last}
use Rattle.call_laws.specs.Accepted.{run_accepted}

module _ (s : List ℕ) where
  pub no_sheet : is_sheet s ≡ false → some sheet_refused ≡ run_refusal s
  unfolding run_refusal only_if
  no_sheet h = rw h

  pub none_refused : is_sheet s ≡ true → none ≡ run_refusal s
  unfolding run_refusal only_if
  none_refused h = rw h

  -- Where none is due that comes before an index's, it is a sheet.
  pub sheet_tested : early (run_refusal s) ≡ none → is_sheet s ≡ true
  unfolding run_refusal
  sheet_tested e = sheet_first s none (ap early (first_last (due (not (is_sheet s)) sheet_refused)) ∙ e)

-- The answer by the refusal that is due.
module _ (s : List ℕ) (budget : ℕ) where
  pub refused_by : {x : Refusal} → run_refusal s ≡ some x → after_call (refused x) s ≡ run_of s budget
  unfolding run_of outcome
  refused_by e = rw e

  pub done_by :
      {settled : Bool} {count : ℕ} {t : List ℕ} →
      run_refusal s ≡ none →
      Ends s budget settled count t →
      after_call (accepted (record { settled = settled; count = count })) t ≡ run_of s budget
  unfolding run_of outcome
  done_by h e = rw (h, e.says, e.counts, e.leaves)

-- The answer by the refusal that is due with the index.
module _ (s index : List ℕ) (budget : ℕ) where
  pub refused_with_index :
      {x : Refusal} →
      index_refusal s index (run_refusal s) ≡ some x →
      after_call (refused x) (beside_index s index) ≡ run_with s index budget
  unfolding run_with run_of
  refused_with_index = refused_with (λ u. u) s index (run_refusal s) _ (run_through s budget)

  pub done_with_index :
      {settled : Bool} {count : ℕ} {t counted : List ℕ} →
      index_refusal s index (run_refusal s) ≡ none →
      Ends s budget settled count t →
      counted ≡ placed (fresh_count t) index →
      after_call (accepted (record { settled = settled; count = count })) (beside_index t counted) ≡ run_with s index budget
  unfolding run_with run_of
  done_with_index h e c =
      rw (c, e.says, e.counts, e.leaves) (accepted_with (λ u. u) s index (run_refusal s) _ (run_through s budget) h)

  -- Nothing was refused: it is a sheet, and the index is long enough for the sheet left.
  pub record Runnable : Type 0 where
    pub sheet : is_sheet s ≡ true
    pub fits : (is_sheet (run_through s budget) ≡ true) × (index_length (run_through s budget) ≤ length index)

  pub runnable : index_refusal s index (run_refusal s) ≡ none → Runnable
  runnable e =
      let w = index_accepted s index (run_refusal s) e in
      let sheet = run_accepted s w.own_none in
      record { sheet = sheet; fits = left_room index (run_left s sheet budget) w.room }
