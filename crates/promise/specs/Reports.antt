-- Demand 2, reports: "Unless it says contradiction, a report marks an option in or out precisely when unit propagation derives it
-- from the sheet's rules multiplied out, and says contradiction precisely when propagation makes a clause false." Document 02, U1: "A
-- report shall accept any output of at least N bytes, fill the first N and keep the rest. Calls with exactly N bytes answer as before."
use Rattle.std.specs.Prelude.{Bool, true, false, not, List, ◌⊎◌, ◌↔◌, ◌≡◌, refl, ℕ, ◌≤◌, ◌<◌, length, take, drop, get_or, replicate}
use Rattle.std.proofs.Common.{inl, inr, ap, ◌∙◌, arith, le-ltb}
use Rattle.model.specs.Base.{only_if, first_of, placed}
use Rattle.model.specs.Literal.{pos, neg}
use Rattle.model.specs.Clauses.{Clause, Derived, Contradictory}
use Rattle.model.specs.Propagation.{Report, report}
use Rattle.model.specs.Sheet.{is_sheet, options_in, clauses_in, report_in}
use Rattle.calls.specs.Refusals.{due, sheet_refused}
use Rattle.calls.specs.Outcomes.{accepted, Outcome, outcome}
use Rattle.calls.specs.Chains.{report_refusal}
use Rattle.calls.specs.Calls.{report_of}
use Rattle.theory_meaning.specs.ExactReports.{report_tells}
use Rattle.call_laws.specs.RefusalChains.{first_last}
use Rattle.theory_forms.specs.Placed.{placed_start, placed_rest, placed_at, placed_length, placed_whole}

-- The outcome of an accepted report that gives this result, and these bytes at the start of an output.
abbrev pub reported : Report → List ℕ → Outcome (List ℕ) Bool
reported r out = record { answer = accepted r.contradictory; lent = placed r.marks out }

-- What a report's outcome, for an output, says of the clauses of n options.
pub record Reported (n : ℕ) (cs : List Clause) (out : List ℕ) (o : Outcome (List ℕ) Bool) : Type 0 where
  -- It is accepted, and its result says contradiction exactly where the clauses are contradictory.
  pub result : (o.answer ≡ accepted true) ⊎ (o.answer ≡ accepted false)
  pub says_contradiction : (o.answer ≡ accepted true) ↔ Contradictory cs
  -- It "shall keep the rest".
  pub length_stays : length o.lent ≡ length out
  pub rest_stays : drop n o.lent ≡ drop n out
  -- "A report writes N bytes: all 3 when contradictory,"
  pub all_three :
      (contradictory : Contradictory cs) →
      take n o.lent ≡ replicate n 3
  -- "1 in, 2 out, 0 open."
  pub is_in :
      (consistent : Contradictory cs → ⊥) →
      (v : ℕ) →
      (is_option : v < n) →
      (get_or o.lent v 0 ≡ 1) ↔ Derived cs (pos v)
  pub is_out :
      (consistent : Contradictory cs → ⊥) →
      (v : ℕ) →
      (is_option : v < n) →
      (get_or o.lent v 0 ≡ 2) ↔ Derived cs (neg v)
  pub is_open :
      (consistent : Contradictory cs → ⊥) →
      (v : ℕ) →
      (is_option : v < n) →
      (get_or o.lent v 0 ≡ 0) ↔ ((Derived cs (pos v) → ⊥) × (Derived cs (neg v) → ⊥))

-- The literal propagation on the clauses says exactly what they mean.
pub propagation_exact :
    (n : ℕ) (cs : List Clause) (out : List ℕ) →
    (out_has_room : n ≤ length out) →
    Reported n cs out (reported (report n cs) out)
propagation_exact n cs out room =
    let t = report_tells n cs in
    let marks = (report n cs).marks in
    record {
      result = go (report n cs).contradictory;
      says_contradiction = ((λ e. t.conflicts.0 (cc)), λ c. ap accepted (t.conflicts.1 c));
      length_stays = placed_length marks out t.width room;
      rest_stays = placed_rest marks out t.width;
      all_three = λ c. placed_start marks out t.width ∙ t.all_three c;
      is_in = λ fine v h. rw (placed_at marks out t.width v h) (t.is_in fine v h);
      is_out = λ fine v h. rw (placed_at marks out t.width v h) (t.is_out fine v h);
      is_open = λ fine v h. rw (placed_at marks out t.width v h) (t.is_open fine v h);
    }
  where
    go : (b : Bool) → (accepted b ≡ accepted true) ⊎ (accepted b ≡ accepted false)
    go true = inl refl
    go false = inr refl

-- A report on a sheet, into an output of at least its N bytes, gives what propagation on the multiplied-out rules gives.
pub report_given :
    (sheet out : List ℕ) →
    (sheet_is_one : is_sheet sheet ≡ true) →
    (out_has_room : options_in sheet ≤ length out) →
    report_of sheet out ≡ reported (report (options_in sheet) (clauses_in sheet)) out
unfolding report_of report_refusal report_in outcome only_if first_of
report_given sheet out h room = rw (h, le-ltb (length out) (options_in sheet) room)

-- So it says exactly what the sheet's rules mean.
pub report_exact :
    (sheet out : List ℕ) →
    (sheet_is_one : is_sheet sheet ≡ true) →
    (out_has_room : options_in sheet ≤ length out) →
    Reported (options_in sheet) (clauses_in sheet) out (report_of sheet out)
report_exact sheet out h room =
    rw (report_given sheet out h room) (propagation_exact (options_in sheet) (clauses_in sheet) out room)

-- "Calls with exactly N bytes answer as before": 11 where there is no sheet, and else the report is all that the output holds.
pub exactly_n_as_before :
    (sheet out : List ℕ) →
    (out_is_n_long : length out ≡ options_in sheet) →
    report_of sheet out
    ≡ outcome (due (not (is_sheet sheet)) sheet_refused) (report_in sheet).contradictory out (report_in sheet).marks
unfolding report_of report_refusal report_in only_if
exactly_n_as_before sheet out e =
    let width = (report_tells (options_in sheet) (clauses_in sheet)).width in
    rw (
      le-ltb (length out) (options_in sheet) (omega (arith, e)),
      placed_whole (report (options_in sheet) (clauses_in sheet)).marks out width e,
      first_last (due (not (is_sheet sheet)) sheet_refused),
    )
