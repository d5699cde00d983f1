-- The answers of a keying in the order of its tests.
use mathlib.Core.Bool.{Bool, true, false}
use mathlib.Core.List.{List}
use mathlib.Core.Option.{none, some}
use mathlib.Core.Path.{◌≡◌, refl, sym, ap, ◌∙◌}
use Prim.Native.Nat.{ℕ, ◌+◌, ◌*◌, ◌≤◌, ◌<◌}
use native.Mathlib.Omega.{arith}
use borrow.Author.Tests.{eq-eqb, ne_eqb, lt-ltb, le-ltb}
use lib.ListN.{length, get_or}
use Rattle.model.specs.Base.{first_of, only_if}
use Rattle.model.specs.Literal.{Literal, literal, option}
use Rattle.model.specs.Code.{weight}
use Rattle.model.specs.Limits.{most_weight, literal_weight, sheet_length, sheet_room}
use Rattle.model.specs.Sheet.{options_in, used_in, nodes_in, is_sheet}
use Rattle.model.specs.Results.{appended}
use Rattle.calls.specs.Refusals.{Refusal, sheet_refused, list_refused, option_refused, full_refused}
use Rattle.calls.specs.Outcomes.{refused, accepted, outcome}
use Rattle.calls.specs.Lines.{most_lines, State}
use Rattle.calls.specs.Conditions.{has_lines_in_order}
use Rattle.calls.specs.Index.{no_place}
use Rattle.calls.specs.Chains.{key_refusal, early, index_refusal}
use Rattle.calls.specs.Calls.{key_of, key_with}
use Rattle.theory_index.specs.Entries.{mentioned_last}
use Rattle.theory_index.specs.Appended.{entry_within, count_fits, appended_index}
use Rattle.theory_index.specs.IndexedCalls.{sheet_first as sheet_due, index_accepted, refused_with, accepted_with}
use Rattle.call_laws.specs.Accepted.{Keyable, key_accepted}
use Rattle.call_laws.specs.OrderLines.{option_literal}
use Rattle.call_laws.specs.Rekeyed.{keyed_state}
use Rattle.call_answers.specs.AnswerMeaning.{after_call, on_sheet, beside_index, on_indexed_sheet}
use Rattle.call_keying.specs.Marks.{mark_refusal}
use Rattle.theory_forms.specs.Sheets.{sheet_formed}

-- The last tests, once the sheet and the lines are known to be good: the list, the option, the room.
module _ (s : List ℕ) (c v : ℕ) where
  pub list_full : c ≡ most_lines → some list_refused ≡ mark_refusal s c v
  unfolding mark_refusal first_of only_if
  list_full e = rw (eq-eqb c most_lines e)

  module _ (free : c ≡ most_lines → ⊥) where
    pub no_option : options_in s ≤ v → some option_refused ≡ mark_refusal s c v
    unfolding mark_refusal first_of only_if
    no_option le = rw (ne_eqb c most_lines free, le-ltb v (options_in s) le)

    pub no_room :
        v < options_in s →
        most_weight < weight (nodes_in s) + literal_weight →
        some full_refused ≡ mark_refusal s c v
    unfolding mark_refusal first_of only_if
    no_room lt over =
        rw (
          ne_eqb c most_lines free,
          lt-ltb v (options_in s) lt,
          lt-ltb most_weight (weight (nodes_in s) + literal_weight) over,
        )

    pub room : v < options_in s → weight (nodes_in s) + literal_weight ≤ most_weight → none ≡ mark_refusal s c v
    unfolding mark_refusal first_of only_if
    room lt light =
        rw (
          ne_eqb c most_lines free,
          lt-ltb v (options_in s) lt,
          le-ltb most_weight (weight (nodes_in s) + literal_weight) light,
        )

-- The tests before them: the sheet, then the lines.
module _ (t : State) (v : ℕ) where
  pub no_sheet : is_sheet t.sheet ≡ false → some sheet_refused ≡ key_refusal t v
  unfolding key_refusal first_of only_if
  no_sheet h = rw h

  module _ (sheet : is_sheet t.sheet ≡ true) where
    pub no_order : has_lines_in_order t ≡ false → some sheet_refused ≡ key_refusal t v
    unfolding key_refusal first_of only_if
    no_order o = rw (sheet, o)

    pub in_order : has_lines_in_order t ≡ true → mark_refusal t.sheet t.count v ≡ key_refusal t v
    unfolding key_refusal mark_refusal first_of only_if
    in_order o = rw (sheet, o)

-- The answer by the refusal that is due.
module _ (t : State) (v : ℕ) (negative : Bool) where
  pub refused_by : {r : Refusal} → key_refusal t v ≡ some r → after_call (refused r) t.sheet ≡ on_sheet (key_of t v negative)
  unfolding key_of outcome
  refused_by e = rw e

  pub keyed : key_refusal t v ≡ none → after_call (accepted tt) (appended t.sheet (literal v negative)) ≡ on_sheet (key_of t v negative)
  unfolding key_of outcome
  keyed e = rw e

-- The answer with an index, by the refusal that is due with it.
module _ (t : State) (index : List ℕ) (v : ℕ) (negative : Bool) where
  abbrev s : List ℕ
  s = t.sheet

  abbrev mark : Literal
  mark = literal v negative

  pub refused_with_index :
      {r : Refusal} →
      index_refusal s index (key_refusal t v) ≡ some r →
      after_call (refused r) (beside_index s index) ≡ on_indexed_sheet (key_with t index v negative)
  unfolding key_with key_of
  refused_with_index e = ap on_indexed_sheet (refused_with (λ u. u.sheet) t index (key_refusal t v) tt (keyed_state t mark) e)

  -- The mark stands after all others: its option's entry alone changes.
  pub keyed_with_index :
      index_refusal s index (key_refusal t v) ≡ none →
      after_call (accepted tt) (beside_index (appended s mark) (mentioned_last v (used_in s) index))
      ≡ on_indexed_sheet (key_with t index v negative)
  unfolding key_with key_of
  keyed_with_index e =
      let w = index_accepted s index (key_refusal t v) e in
      let may = key_accepted t v w.own_none in
      let named = option_literal v negative in
      let known : option mark < options_in s = omega (arith, named, may.known) in
      let counted = appended_index s may.sheet mark known may.room index w.right in
      ap (λ i. after_call (accepted tt) (beside_index (appended s mark) i))
      (ap (λ x. mentioned_last x (used_in s) index) (sym named) ∙ sym counted)
      ∙ ap on_indexed_sheet (accepted_with (λ u. u.sheet) t index (key_refusal t v) tt (keyed_state t mark) e)

-- Nothing was refused: the mark has room on a sheet, and its option's entry stands in the index and may rise.
pub record Countable (t : State) (index : List ℕ) (v : ℕ) : Type 0 where
  pub key : Keyable t v
  pub entry : (2 * v + 1 < length index) × (get_or index (2 * v) 0 < no_place)

pub countable : (t : State) (index : List ℕ) (v : ℕ) → index_refusal t.sheet index (key_refusal t v) ≡ none → Countable t index v
countable t index v e =
    let w = index_accepted t.sheet index (key_refusal t v) e in
    let may = key_accepted t v w.own_none in
    record {
      key = may;
      entry = (
        entry_within t.sheet index w.right may.sheet may.known,
        count_fits t.sheet index w.right may.sheet may.known,
      );
    }

-- Where none is due that comes before an index's, it is a sheet.
pub sheet_tested : (t : State) (v : ℕ) → early (key_refusal t v) ≡ none → is_sheet t.sheet ≡ true
unfolding key_refusal
sheet_tested t v = sheet_due t.sheet _

-- What is known of a sheet's first numbers.
pub sheet_first : (s : List ℕ) → is_sheet s ≡ true → (length s ≡ sheet_length) × (used_in s ≤ sheet_room) × (get_or s 0 0 ≡ options_in s)
unfolding options_in
sheet_first s h = let facts = sheet_formed s h in (facts.whole, facts.used, refl)

-- The second number of a sheet is the place after its last node.
pub place_read : (s : List ℕ) → get_or s 1 0 ≡ used_in s
unfolding used_in
place_read s = refl
