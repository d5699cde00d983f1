-- Document 02, U5: the index of mentions, number by number. "Two 16-bit numbers each: the count of its marks and the place of the first
-- (65,535 if none)."
use Rattle.std.specs.Prelude.{true, false, List, [], ◌∷◌, ◌++◌, map, ◌≡◌, refl, ℕ, replicate}
use Rattle.model.specs.Literal.{pos, neg}
use Rattle.calls.specs.Refusals.{option_refused, sheet_refused, output_refused}
use Rattle.calls.specs.Outcomes.{Outcome, refused, accepted}
use Rattle.calls.specs.Lines.{State}
use Rattle.calls.specs.Index.{fresh_count, Indexed}
use Rattle.calls.specs.Calls.{Ran, fill_of, key_with, withdraw_with, step_with, run_with}
use Rattle.case_samples.specs.Opened.{definitions}
use Rattle.case_samples.specs.Samples.{P, Q, R, not_P, not_Q, True, plain, barred, all_of, any_of, root, at_least, joined, book, sheet}
use Rattle.case_samples.specs.Samples.{lined, samples}

-- "Not P or (R and P)", and R, of P, Q and R: P is named barred and plain, Q not at all, and the first R stands inside a nest.
unfoldable pub nested : List ℕ
nested = sheet 3 (root 2 ∷ any_of 2 ∷ not_P ∷ all_of 2 ∷ R ∷ P ∷ R ∷ [])

unfoldable pub of_nested : List ℕ
of_nested = 2 ∷ 2 ∷ 0 ∷ 65535 ∷ 2 ∷ 4 ∷ []

-- "The count of its marks", either sense, and "the place of the first", the root at 0. A member of kind 6 is a mark like others; an option
-- that the sheet does not name has no place; a sheet of no options has no numbers.
unfoldable pub counted : List (List ℕ)
counted =
    map fresh_count
    (nested
    ∷ sheet 1 (root 2 ∷ P ∷ not_P ∷ [])
    ∷ sheet 2 (root 1 ∷ at_least 1 2 ∷ not_Q ∷ P ∷ [])
    ∷ sheet 1 (root 1 ∷ True ∷ [])
    ∷ sheet 0 (root 0 ∷ [])
    ∷ [])

pub counted_so :
    counted
    ≡ of_nested
    ∷ (2 ∷ 1 ∷ [])
    ∷ (1 ∷ 3 ∷ 1 ∷ 2 ∷ [])
    ∷ (0 ∷ 65535 ∷ [])
    ∷ []
    ∷ []
unfolding definitions samples nested of_nested counted
counted_so = refl

-- Counts, places and options past 256: P stands 300 times from place 300 on, Q once at place 600; of 512 options one mark names the one
-- after the first 300, another the last.
unfoldable pub counted_far : List (List ℕ)
counted_far =
    fresh_count (sheet 2 (root 600 ∷ replicate 299 True ++ replicate 300 P ++ (not_Q ∷ [])))
    ∷ fresh_count (sheet 512 (root 2 ∷ barred 511 ∷ plain 300 ∷ []))
    ∷ []

abbrev pub unnamed : ℕ → List ℕ
unnamed many = joined (replicate many (0 ∷ 65535 ∷ []))

pub counted_far_so :
    counted_far
    ≡ (300 ∷ 300 ∷ 1 ∷ 600 ∷ [])
    ∷ (unnamed 300 ++ (1 ∷ 2 ∷ []) ++ unnamed 210 ++ (1 ∷ 1 ∷ []))
    ∷ []
unfolding definitions samples counted_far
counted_far_so = refl

-- "One call fills it from any sheet, whatever it held": six numbers, or more, of which the others stay; one fewer is 12, and no sheet 11.
unfoldable pub fills : List (Outcome (List ℕ) (Unit {0}))
fills =
    fill_of nested (replicate 6 9)
    ∷ fill_of nested (replicate 6 9 ++ (7 ∷ 65536 ∷ []))
    ∷ fill_of nested (replicate 5 9)
    ∷ fill_of [] (replicate 6 9)
    ∷ fill_of (sheet 0 (root 0 ∷ [])) (5 ∷ [])
    ∷ []

pub fills_so :
    fills
    ≡ record { answer = accepted tt; lent = of_nested }
    ∷ record { answer = accepted tt; lent = of_nested ++ (7 ∷ 65536 ∷ []) }
    ∷ record { answer = refused output_refused; lent = replicate 5 9 }
    ∷ record { answer = refused sheet_refused; lent = replicate 6 9 }
    ∷ record { answer = accepted tt; lent = 5 ∷ [] }
    ∷ []
unfolding definitions samples nested of_nested fills
fills_so = refl

-- "Every choice, withdrawal, step and run brings the index up to date." Not Q keyed; R, which stands alone, put for true inside the nest
-- (rule 10); a run to the end, which leaves R. Each is lent an index with numbers past twice N, which are neither looked at nor written.
unfoldable pub on_orders : List (Outcome (Indexed State) (Unit {0}))
on_orders =
    key_with (lined nested [] 0) (of_nested ++ (7 ∷ [])) 1 true
    ∷ withdraw_with
    (lined (sheet 2 (root 2 ∷ P ∷ not_Q ∷ [])) (neg 1 ∷ pos 0 ∷ []) 2)
    (book ("P" ∷ "Q" ∷ []) ((any_of 2 ∷ P ∷ Q ∷ []) ∷ []))
    (1 ∷ 1 ∷ 1 ∷ 2 ∷ 0 ∷ 65535 ∷ [])
    0
    ∷ []

pub on_orders_so :
    on_orders
    ≡ record {
      answer = accepted tt;
      lent =
          record {
            own = lined (sheet 3 (root 3 ∷ any_of 2 ∷ not_P ∷ all_of 2 ∷ R ∷ P ∷ R ∷ not_Q ∷ [])) (neg 1 ∷ []) 1;
            index = 2 ∷ 2 ∷ 1 ∷ 7 ∷ 2 ∷ 4 ∷ 7 ∷ [];
          };
    }
    ∷ record {
      answer = accepted tt;
      lent =
          record {
            own = lined (sheet 2 (root 2 ∷ any_of 2 ∷ P ∷ Q ∷ P ∷ [])) (pos 0 ∷ pos 0 ∷ []) 1;
            index = 2 ∷ 2 ∷ 1 ∷ 3 ∷ 0 ∷ 65535 ∷ [];
          };
    }
    ∷ []
unfolding definitions samples nested of_nested on_orders
on_orders_so = refl

unfoldable pub one_step : Outcome (Indexed (List ℕ)) (Unit {0})
one_step = step_with nested (of_nested ++ (7 ∷ [])) 10 0 1 0

pub one_step_so :
    one_step
    ≡ record {
      answer = accepted tt;
      lent =
          record {
            own = sheet 3 (root 2 ∷ any_of 2 ∷ not_P ∷ all_of 2 ∷ True ∷ P ∷ R ∷ []);
            index = 2 ∷ 2 ∷ 0 ∷ 65535 ∷ 1 ∷ 6 ∷ 7 ∷ [];
          };
    }
unfolding definitions samples nested of_nested one_step
one_step_so = refl

unfoldable pub one_run : Outcome (Indexed (List ℕ)) Ran
one_run = run_with nested (of_nested ++ (7 ∷ [])) 20

pub one_run_so :
    one_run
    ≡ record {
      answer = accepted (record { settled = true; count = 7 });
      lent = record { own = sheet 3 (root 1 ∷ R ∷ []); index = 0 ∷ 65535 ∷ 0 ∷ 65535 ∷ 1 ∷ 1 ∷ 7 ∷ [] };
    }
unfolding definitions samples nested of_nested one_run
one_run_so = refl

-- A refused call leaves the index with the rest: for no such option, for an index that is not the fresh count (by its last number, or by
-- the count of an option that is not named), for one that is too short.
unfoldable pub kept : List (Outcome (Indexed State) (Unit {0}))
kept =
    let t = lined nested (pos 0 ∷ []) 1 in
    key_with t of_nested 3 false
    ∷ key_with t (2 ∷ 2 ∷ 0 ∷ 65535 ∷ 2 ∷ 6 ∷ []) 1 false
    ∷ key_with t (2 ∷ 2 ∷ 1 ∷ 65535 ∷ 2 ∷ 4 ∷ []) 1 false
    ∷ key_with t (2 ∷ 2 ∷ 0 ∷ 65535 ∷ 2 ∷ []) 1 false
    ∷ []

pub kept_so :
    let t = lined nested (pos 0 ∷ []) 1 in
    kept
    ≡ record { answer = refused option_refused; lent = record { own = t; index = of_nested } }
    ∷ record { answer = refused sheet_refused; lent = record { own = t; index = 2 ∷ 2 ∷ 0 ∷ 65535 ∷ 2 ∷ 6 ∷ [] } }
    ∷ record { answer = refused sheet_refused; lent = record { own = t; index = 2 ∷ 2 ∷ 1 ∷ 65535 ∷ 2 ∷ 4 ∷ [] } }
    ∷ record { answer = refused output_refused; lent = record { own = t; index = 2 ∷ 2 ∷ 0 ∷ 65535 ∷ 2 ∷ [] } }
    ∷ []
unfolding definitions samples nested of_nested kept
kept_so = refl
