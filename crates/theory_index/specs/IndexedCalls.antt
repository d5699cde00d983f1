-- Calls with an index: what is due, answered and left, by what is due without one.
use Rattle.std.specs.Prelude.{Bool, true, false, not, List, ◌≡◌, refl, ℕ, ◌≤◌, length}
use Rattle.std.proofs.Math.Option.{Option, none, some}
use Rattle.std.proofs.Common.{sym, arith}
use Rattle.model.specs.Base.{only_if, first_of, then, placed}
use Rattle.model.specs.Sheet.{is_sheet}
use Rattle.calls.specs.Refusals.{Refusal, due, ◌or_else◌, sheet_refused, refusal_number}
use Rattle.calls.specs.Outcomes.{refused, accepted, Outcome, outcome, refusal_in, unless}
use Rattle.calls.specs.Index.{fresh_count, Indexed}
use Rattle.calls.specs.Conditions.{index_length}
use Rattle.calls.specs.Chains.{is_early, early, index_refusal}
use Rattle.calls.specs.Calls.{with_index}
use Rattle.theory_forms.specs.Logic.{none_some}
use Rattle.theory_index.specs.Right.{Right, right_long}
use Rattle.theory_index.specs.WithIndex.{none_right, with_index_is}

-- The first refusal of a choice, withdrawal, step or run is the sheet's 11, which is early: where no early one is due, it is a sheet.
pub sheet_first :
    (s : List ℕ) (later : Option Refusal) →
    early (due (not (is_sheet s)) sheet_refused or_else later) ≡ none →
    is_sheet s ≡ true
unfolding early is_early refusal_number then first_of only_if
sheet_first s later e = go (is_sheet s) e
  where
    go : (b : Bool) → then (first_of (only_if (not b) sheet_refused) later) (λ r. only_if (is_early r) r) ≡ none → b ≡ true
    go true e = refl
    go false e = none_some (sym e)

-- What is known where no refusal is due: none is due without an index, and the index is right, so long enough.
pub record Indexable (s index : List ℕ) (own : Option Refusal) : Type 0 where
  pub own_none : own ≡ none
  pub right : Right s index
  pub room : index_length s ≤ length index

pub index_accepted : (s index : List ℕ) (own : Option Refusal) → index_refusal s index own ≡ none → Indexable s index own
index_accepted s index own e =
    let w = none_right s index own e in
    record { own_none = w.0; right = w.1; room = right_long s index w.1 }

-- A call that without an index is refused by `own`, or else answers `a` and leaves `filled` of what it held.
module _ {L A : Type 0} (sheet : L → List ℕ) (held : L) (index : List ℕ) (own : Option Refusal) (a : A) (filled : L) where
  -- Refused, it keeps its own and the index.
  pub refused_with :
      {r : Refusal} →
      index_refusal (sheet held) index own ≡ some r →
      record { answer = refused r; lent = record { own = held; index = index } }
      ≡ with_index sheet held index (outcome own a held filled)
  unfolding outcome
  refused_with e = rw (with_index_is sheet held index a filled own, e)

  -- Accepted, it leaves its own as without an index, and in the index the fresh count of the sheet left.
  pub accepted_with :
      index_refusal (sheet held) index own ≡ none →
      record { answer = accepted a; lent = record { own = filled; index = placed (fresh_count (sheet filled)) index } }
      ≡ with_index sheet held index (outcome own a held filled)
  unfolding outcome
  accepted_with e = rw (with_index_is sheet held index a filled own, e)

-- A result with an index is the result without one.
pub result_with :
    {L A : Type 0} (sheet : L → List ℕ) (held : L) (index : List ℕ) (o : Outcome L A) {a : A} →
    accepted a ≡ (with_index sheet held index o).answer →
    accepted a ≡ o.answer
unfolding with_index unless
result_with {L} {A} sheet held index o {a} = go (index_refusal (sheet held) index (refusal_in o.answer))
  where
    left : Indexed L
    left = record { own = o.lent; index = placed (fresh_count (sheet o.lent)) index }

    go :
        (due : Option Refusal) →
        accepted a ≡ (unless due (record { own = held; index = index }) (record { answer = o.answer; lent = left })).answer →
        accepted a ≡ o.answer
    go none e = e
    go (some r) e = let z : ◌≡◌ {A = ℕ} 0 1 = cc in absurd (omega arith)
