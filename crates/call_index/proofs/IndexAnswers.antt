-- The answers of a call with an index, in the order of its tests; those of the call that fills one.
use mathlib.Core.Bool.{Bool, true, false}
use mathlib.Core.List.{List}
use mathlib.Core.Option.{Option, none, some}
use mathlib.Core.Path.{◌≡◌, refl, sym, ap, ◌∙◌}
use Prim.Native.Nat.{ℕ}
use Rattle.model.specs.Base.{only_if, first_of, is_some, then, placed}
use Rattle.model.specs.Sheet.{is_sheet}
use Rattle.calls.specs.Refusals.{Refusal, due, ◌or_else◌, sheet_refused, output_refused}
use Rattle.calls.specs.Outcomes.{refused, accepted, outcome}
use Rattle.calls.specs.Index.{fresh_count}
use Rattle.calls.specs.Conditions.{has_short_index, has_stale_index}
use Rattle.calls.specs.Chains.{fill_refusal, is_early, early, index_refusal}
use Rattle.calls.specs.Calls.{fill_of}
use Rattle.theory_forms.specs.Logic.{true_false, is_some_only}
use Rattle.call_answers.specs.AnswerMeaning.{after_call}

-- Whether the refusal that is due comes before the 11 of an index.
pub none_early : is_some (early none) ≡ false
unfolding early then is_some
none_early = refl

pub some_early : (r : Refusal) → is_some (early (some r)) ≡ is_early r
unfolding early then
some_early r = is_some_only (is_early r) r

pub not_early : (own : Option Refusal) → is_some (early own) ≡ false → early own ≡ none
unfolding is_some
not_early own = go (early own)
  where
    go : (o : Option Refusal) → is_some o ≡ false → o ≡ none
    go none e = refl
    go (some r) e = true_false e

-- The chain, by the two tests of the index.
module _ (stale short : Bool) where
  abbrev chain : Option Refusal → Option Refusal
  chain own = early own or_else due stale sheet_refused or_else own or_else due short output_refused

  early_first : (own : Option Refusal) → is_some (early own) ≡ true → own ≡ chain own
  unfolding early then only_if first_of
  early_first none e = true_false (sym e ∙ none_early)
  early_first (some r) e = rw (sym (some_early r) ∙ e)

  stale_next : (own : Option Refusal) → early own ≡ none → stale ≡ true → some sheet_refused ≡ chain own
  unfolding only_if first_of
  stale_next own late e = rw (late, e)

  own_next : (own : Option Refusal) {r : Refusal} → early own ≡ none → stale ≡ false → own ≡ some r → own ≡ chain own
  unfolding only_if first_of
  own_next own late e which = rw (late, e, which)

  short_last : (own : Option Refusal) → early own ≡ none → stale ≡ false → own ≡ none → due short output_refused ≡ chain own
  unfolding only_if first_of
  short_last own late e which = rw (late, e, which)

module _ (s index : List ℕ) (own : Option Refusal) where
  pub refused_early : is_some (early own) ≡ true → own ≡ index_refusal s index own
  unfolding index_refusal
  refused_early = early_first (has_stale_index s index) (has_short_index s index) own

  module _ (late : early own ≡ none) where
    pub refused_stale : has_stale_index s index ≡ true → some sheet_refused ≡ index_refusal s index own
    unfolding index_refusal
    refused_stale = stale_next (has_stale_index s index) (has_short_index s index) own late

    module _ (fresh : has_stale_index s index ≡ false) where
      pub refused_late : {r : Refusal} → own ≡ some r → own ≡ index_refusal s index own
      unfolding index_refusal
      refused_late = own_next (has_stale_index s index) (has_short_index s index) own late fresh

      module _ (unrefused : own ≡ none) where
        pub refused_short : has_short_index s index ≡ true → some output_refused ≡ index_refusal s index own
        unfolding index_refusal only_if
        refused_short e =
            ap (λ b. due b output_refused) (sym e)
            ∙ short_last (has_stale_index s index) (has_short_index s index) own late fresh unrefused

        pub accepted_with : has_short_index s index ≡ false → none ≡ index_refusal s index own
        unfolding index_refusal only_if
        accepted_with e =
            ap (λ b. due b output_refused) (sym e)
            ∙ short_last (has_stale_index s index) (has_short_index s index) own late fresh unrefused

-- The call that fills an index.
module _ (s index : List ℕ) where
  pub fill_no_sheet : is_sheet s ≡ false → after_call (refused sheet_refused) index ≡ fill_of s index
  unfolding fill_of fill_refusal outcome first_of only_if
  fill_no_sheet h = rw h

  module _ (h : is_sheet s ≡ true) where
    pub fill_short : has_short_index s index ≡ true → after_call (refused output_refused) index ≡ fill_of s index
    unfolding fill_of fill_refusal outcome first_of only_if
    fill_short e = rw (h, e)

    pub filled :
        has_short_index s index ≡ false →
        {new : List ℕ} →
        new ≡ placed (fresh_count s) index →
        after_call (accepted tt) new ≡ fill_of s index
    unfolding fill_of fill_refusal outcome first_of only_if
    filled e p = rw (h, e, p)
