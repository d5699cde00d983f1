-- The answers of a step: what is due, in the order of its tests.
use mathlib.Core.Bool.{true, false}
use mathlib.Core.List.{List}
use mathlib.Core.Option.{none, some}
use mathlib.Core.Path.{◌≡◌}
use Prim.Native.Nat.{ℕ, ◌≤◌}
use native.Mathlib.Omega.{arith}
use lib.ListN.{length}
use Rattle.model.specs.Base.{only_if, first_of, placed}
use Rattle.model.specs.Rules.{is_rule}
use Rattle.model.specs.Sheet.{used_in, is_sheet}
use Rattle.model.specs.Results.{stepped}
use Rattle.calls.specs.Refusals.{Refusal, sheet_refused, rule_refused, step_refused}
use Rattle.calls.specs.Outcomes.{refused, accepted}
use Rattle.calls.specs.Index.{fresh_count}
use Rattle.calls.specs.Conditions.{applies, index_length}
use Rattle.calls.specs.Chains.{step_refusal, early, index_refusal}
use Rattle.calls.specs.Calls.{step_of, step_with}
use Rattle.call_answers.specs.AnswerMeaning.{after_call, beside_index}
use Rattle.call_laws.specs.Accepted.{Steppable, step_accepted}
use Rattle.theory_forms.specs.Logic.{fails_if}
use Rattle.theory_rewriting.specs.SheetPlaces.{place_used}
use Rattle.theory_forms.specs.Sheets.{sheet_formed}
use Rattle.theory_index.specs.IndexedCalls.{sheet_first, index_accepted, refused_with, accepted_with}
use Rattle.theory_index.specs.Left.{left_room, stepped_left}

module _ (s : List ℕ) (r p i j : ℕ) where
  pub no_sheet : is_sheet s ≡ false → some sheet_refused ≡ step_refusal s r p i j
  unfolding step_refusal first_of only_if
  no_sheet h = rw h

  module _ (h : is_sheet s ≡ true) where
    pub no_rule : is_rule r ≡ false → some rule_refused ≡ step_refusal s r p i j
    unfolding step_refusal first_of only_if
    no_rule bad = rw (h, bad)

    module _ (rule : is_rule r ≡ true) where
      pub no_step : applies s r p i j ≡ false → some step_refused ≡ step_refusal s r p i j
      unfolding step_refusal first_of only_if
      no_step e = rw (h, rule, e)

      pub no_place : used_in s ≤ p → some step_refused ≡ step_refusal s r p i j
      no_place past = no_step (fails_if (applies s r p i j) (λ t. let l = place_used s (sheet_formed s h) r p i j t in omega arith))

      pub none_refused : applies s r p i j ≡ true → none ≡ step_refusal s r p i j
      unfolding step_refusal first_of only_if
      none_refused e = rw (h, rule, e)

  -- Where none is due that comes before an index's, it is a sheet.
  pub sheet_tested : early (step_refusal s r p i j) ≡ none → is_sheet s ≡ true
  unfolding step_refusal
  sheet_tested = sheet_first s _

-- The answer by the refusal that is due with the index.
module _ (s index : List ℕ) (r p i j : ℕ) where
  pub refused_by :
      {x : Refusal} →
      index_refusal s index (step_refusal s r p i j) ≡ some x →
      after_call (refused x) (beside_index s index) ≡ step_with s index r p i j
  unfolding step_with step_of
  refused_by = refused_with (λ u. u) s index (step_refusal s r p i j) tt (stepped s r p i j)

  pub done_by :
      {t counted : List ℕ} →
      index_refusal s index (step_refusal s r p i j) ≡ none →
      t ≡ stepped s r p i j →
      counted ≡ placed (fresh_count t) index →
      after_call (accepted tt) (beside_index t counted) ≡ step_with s index r p i j
  unfolding step_with step_of
  done_by h e c = rw (c, e) (accepted_with (λ u. u) s index (step_refusal s r p i j) tt (stepped s r p i j) h)

  -- Nothing was refused: the step applies on a sheet, and the index is long enough for the sheet left.
  pub record Doable : Type 0 where
    pub step : Steppable s r p i j
    pub fits : (is_sheet (stepped s r p i j) ≡ true) × (index_length (stepped s r p i j) ≤ length index)

  pub doable : index_refusal s index (step_refusal s r p i j) ≡ none → Doable
  doable e =
      let w = index_accepted s index (step_refusal s r p i j) e in
      let step = step_accepted s r p i j w.own_none in
      record { step = step; fits = left_room index (stepped_left s step.sheet r p i j step.there) w.room }
