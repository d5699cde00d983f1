-- "The loader's target need only be 4,098 long, else 11; it is wholly filled." Cases load a few books; here book and target are any.
use Rattle.std.specs.Prelude.{not, List, map, ◌≡◌, refl, ℕ, ◌-◌, ◌≤◌, length, replicate}
use Rattle.std.proofs.Math.Option.{Option, none, some}
use Rattle.std.proofs.Common.{sym, ◌∙◌, arith, eqb-true, leb-true, length-append}
use Rattle.std.proofs.lemmas.Bool.{not-false}
use Rattle.std.proofs.lemmas.List.{length-map, length-replicate}
use Rattle.model.specs.Code.{Node, weight, number_of}
use Rattle.model.specs.Limits.{sheet_length, sheet_room, most_weight}
use Rattle.model.specs.Sheet.{sheet_of}
use Rattle.model.specs.Book.{options_of, book_nodes}
use Rattle.calls.specs.Refusals.{Refusal}
use Rattle.calls.specs.Outcomes.{outcome}
use Rattle.calls.specs.Conditions.{is_light, is_long_enough}
use Rattle.calls.specs.Chains.{part_refusal, book_refusal, load_refusal}
use Rattle.calls.specs.Calls.{load_of}
use Rattle.theory_forms.specs.Logic.{only_none, first_none, none_due}

-- A book that is not refused has no more nodes than a sheet has room for.
few_nodes : (b : List ℕ) → book_refusal b ≡ none → length (book_nodes b) ≤ sheet_room
unfolding book_refusal part_refusal weight
few_nodes b e =
    let parts = (first_none _ _ (first_none _ _ (first_none _ _ e).1).1).1 in
    let last = (first_none _ _ (first_none _ _ (first_none _ _ parts).1).1).1 in
    let light = leb-true (weight (book_nodes b)) most_weight (not-false (is_light b) (only_none (not (is_light b)) _ last)) in
    omega arith

sheet_filled : (n : ℕ) (ns : List Node) → length ns ≤ sheet_room → length (sheet_of n ns) ≡ sheet_length
unfolding sheet_of
sheet_filled n ns h =
    omega (
      arith,
      length-append (map number_of ns) (replicate (sheet_room - length ns) 0),
      length-map ns number_of,
      length-replicate {A = ℕ} (sheet_room - length ns) 0,
    )

-- A load leaves as many numbers as it was lent, whether it is accepted or not.
pub load_leaves_as_many : (book target : List ℕ) → length (load_of book target).lent ≡ length target
unfolding load_of outcome load_refusal
load_leaves_as_many book target = go (load_refusal book target) refl
  where
    go :
        (o : Option Refusal) →
        load_refusal book target ≡ o →
        length (outcome o (tt {0}) target (sheet_of (options_of book) (book_nodes book))).lent ≡ length target
    go none e =
        let due = none_due (not (is_long_enough target)) _ _ e in
        sheet_filled (options_of book) (book_nodes book) (few_nodes book due.1)
        ∙ sym (eqb-true (length target) sheet_length (not-false (is_long_enough target) due.0))
    go (some r) e = refl
