-- Demand 2: "Unless it says contradiction, a report marks an option in or out precisely when unit propagation derives it from the sheet's
-- rules multiplied out, and says contradiction precisely when propagation makes a clause false. A book loaded and written is the same
-- bytes; a sheet written and loaded is the same sheet."
use Rattle.std.specs.Prelude.{true, false, not, List, ◌⊎◌, ◌↔◌, ◌≡◌, ℕ, ◌≤◌, ◌<◌, length, take, drop, replicate, get_or}
use Rattle.model.specs.Base.{placed}
use Rattle.model.specs.Literal.{pos, neg}
use Rattle.model.specs.Code.{weight}
use Rattle.model.specs.Clauses.{Derived, Contradictory}
use Rattle.model.specs.Sheet.{options_in, nodes_in, is_sheet, clauses_in, report_in}
use Rattle.model.specs.Book.{options_of, written}
use Rattle.calls.specs.Refusals.{due, sheet_refused}
use Rattle.calls.specs.Outcomes.{accepted, outcome}
use Rattle.calls.specs.Calls.{check_of, load_of, write_of, report_of, step_with, run_of, run_with}
use Rattle.promise.specs.Reports as reports
use Rattle.promise.specs.RoundTrips as round
use Rattle.promise.specs.Weights.{no_step_raises_the_weight}

-- Reports. Document 02, U1: "A report shall accept any output of at least N bytes, fill the first N and keep the rest."
module _
    (sheet out : List ℕ)
    (sheet_is_one : is_sheet sheet ≡ true)
    (out_has_room : options_in sheet ≤ length out)
  where
    -- A report is accepted, and "says contradiction precisely when propagation makes a clause false".
    pub report_accepted : ((report_of sheet out).answer ≡ accepted true) ⊎ ((report_of sheet out).answer ≡ accepted false)
    report_accepted = (reports.report_exact sheet out sheet_is_one out_has_room).result

    pub says_contradiction : ((report_of sheet out).answer ≡ accepted true) ↔ Contradictory (clauses_in sheet)
    says_contradiction = (reports.report_exact sheet out sheet_is_one out_has_room).says_contradiction

    -- "All 3 when contradictory."
    pub all_three :
        (contradictory : Contradictory (clauses_in sheet)) →
        take (options_in sheet) (report_of sheet out).lent ≡ replicate (options_in sheet) 3
    all_three = (reports.report_exact sheet out sheet_is_one out_has_room).all_three

    -- Otherwise it "marks an option in or out precisely when unit propagation derives it from the sheet's rules multiplied out": "0 open,
    -- 1 in, 2 out".
    pub marks_in :
        (consistent : Contradictory (clauses_in sheet) → ⊥) →
        (v : ℕ) →
        (is_option : v < options_in sheet) →
        (get_or (report_of sheet out).lent v 0 ≡ 1) ↔ Derived (clauses_in sheet) (pos v)
    marks_in = (reports.report_exact sheet out sheet_is_one out_has_room).is_in

    pub marks_out :
        (consistent : Contradictory (clauses_in sheet) → ⊥) →
        (v : ℕ) →
        (is_option : v < options_in sheet) →
        (get_or (report_of sheet out).lent v 0 ≡ 2) ↔ Derived (clauses_in sheet) (neg v)
    marks_out = (reports.report_exact sheet out sheet_is_one out_has_room).is_out

    pub marks_open :
        (consistent : Contradictory (clauses_in sheet) → ⊥) →
        (v : ℕ) →
        (is_option : v < options_in sheet) →
        (get_or (report_of sheet out).lent v 0 ≡ 0)
        ↔ ((Derived (clauses_in sheet) (pos v) → ⊥) × (Derived (clauses_in sheet) (neg v) → ⊥))
    marks_open = (reports.report_exact sheet out sheet_is_one out_has_room).is_open

    -- "Fill the first N and keep the rest."
    pub output_keeps_its_length : length (report_of sheet out).lent ≡ length out
    output_keeps_its_length = (reports.report_exact sheet out sheet_is_one out_has_room).length_stays

    pub rest_stays : drop (options_in sheet) (report_of sheet out).lent ≡ drop (options_in sheet) out
    rest_stays = (reports.report_exact sheet out sheet_is_one out_has_room).rest_stays

    -- The same as one equation: the report that literal propagation on the clauses gives (`report_in`).
    pub report_is :
        report_of sheet out
        ≡ record { answer = accepted (report_in sheet).contradictory; lent = placed (report_in sheet).marks out }
    unfolding report_in
    report_is = reports.report_given sheet out sheet_is_one out_has_room

-- Document 02, U1: "Calls with exactly N bytes answer as before": 11 where there is no sheet, else the report is all that the output holds.
pub exactly_n_as_before :
    (sheet out : List ℕ) →
    (out_is_n_long : length out ≡ options_in sheet) →
    report_of sheet out
    ≡ outcome (due (not (is_sheet sheet)) sheet_refused) (report_in sheet).contradictory out (report_in sheet).marks
exactly_n_as_before = reports.exactly_n_as_before

-- "A book loaded and written is the same bytes": the length, the bytes, and what the output holds beyond them. (A slice of bytes holds
-- numbers below 256.)
pub loaded_and_written :
    (book target out : List ℕ) →
    (book_accepted : check_of book ≡ accepted tt) →
    (book_is_bytes : (i : ℕ) → get_or book i 0 < 256) →
    (target_long_enough : length target ≡ 4098) →
    (out_has_room : length book ≤ length out) →
    write_of (load_of book target).lent book out ≡ record { answer = accepted (length book); lent = placed book out }
loaded_and_written = round.load_then_write

-- "A sheet written and loaded is the same sheet": every sheet, and every accepted book of its N.
pub written_and_loaded :
    (sheet book target out : List ℕ) →
    (sheet_is_one : is_sheet sheet ≡ true) →
    (book_accepted : check_of book ≡ accepted tt) →
    (book_of_its_n : options_of book ≡ options_in sheet) →
    (out_has_room : length (written sheet book) ≤ length out) →
    (target_long_enough : length target ≡ 4098) →
    (write_of sheet book out ≡ record { answer = accepted (length (written sheet book)); lent = placed (written sheet book) out })
    × (check_of (written sheet book) ≡ accepted tt)
    × (load_of (written sheet book) target ≡ record { answer = accepted tt; lent = sheet })
written_and_loaded sheet book target out h ok same room long =
    let w = round.write_then_load sheet book target out h ok same room long in
    ((λ i. record { answer = w.length_given i; lent = w.bytes_given i }), w.is_book, w.same_sheet)

-- "No step raises the weight": whatever is lent to a single step or to a run, and whatever it answers.
pub no_step_is_heavier :
    (sheet index : List ℕ) (r p i j : ℕ) →
    weight (nodes_in (step_with sheet index r p i j).lent.own) ≤ weight (nodes_in sheet)
no_step_is_heavier = no_step_raises_the_weight.step

pub no_run_is_heavier :
    (sheet index : List ℕ) (budget : ℕ) →
    weight (nodes_in (run_with sheet index budget).lent.own) ≤ weight (nodes_in sheet)
no_run_is_heavier = no_step_raises_the_weight.run

pub no_desk_run_is_heavier : (sheet : List ℕ) (budget : ℕ) → weight (nodes_in (run_of sheet budget).lent) ≤ weight (nodes_in sheet)
no_desk_run_is_heavier = no_step_raises_the_weight.desk_run
