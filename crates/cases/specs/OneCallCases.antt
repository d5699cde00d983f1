-- One call at a time: reports on sheets with kind 6 before any step, of a chain, into outputs of any length; runs with any budget; choices
-- of high options, and the last that fits.
use Rattle.std.specs.Prelude.{Bool, true, false, List, [], ◌∷◌, ◌++◌, map, ◌≡◌, refl, ℕ, ◌+◌, replicate}
use Rattle.calls.specs.Refusals.{output_refused}
use Rattle.calls.specs.Outcomes.{refused, accepted, Outcome}
use Rattle.calls.specs.Calls.{Ran, key_of, run_of, report_of}
use Rattle.case_samples.specs.Opened.{definitions}
use Rattle.case_samples.specs.Samples.{P, Q, R, not_P, not_Q, True, False, plain, barred, all_of, any_of, root, at_least, numbers, wide}
use Rattle.case_samples.specs.Samples.{joined, sheet, lined, said, samples}

-- What a run and a report answer and leave.
abbrev pub settled : ℕ → ℕ → List ℕ → Outcome (List ℕ) Ran
settled n count nodes = record { answer = accepted (record { settled = true; count = count }); lent = sheet n nodes }

abbrev pub stopped : ℕ → ℕ → List ℕ → Outcome (List ℕ) Ran
stopped n count nodes = record { answer = accepted (record { settled = false; count = count }); lent = sheet n nodes }

abbrev pub tells : Bool → List ℕ → Outcome (List ℕ) Bool
tells contradictory marks = record { answer = accepted contradictory; lent = marks }

-- Reports on kind 6 before any step: "every union of members' clauses over members - k + 1 of them; none if k is 0; the empty clause if k
-- exceeds the members".
unfoldable pub least_reports : List (Outcome (List ℕ) Bool)
least_reports =
    map
    (λ ns. report_of (sheet 3 ns) (7 ∷ 7 ∷ 7 ∷ []))
    -- 0, 1, 2, 3 and 4 of (P, not Q, R).
    ((root 1 ∷ at_least 0 3 ∷ P ∷ not_Q ∷ R ∷ [])
    ∷ (root 1 ∷ at_least 1 3 ∷ P ∷ not_Q ∷ R ∷ [])
    ∷ (root 1 ∷ at_least 2 3 ∷ P ∷ not_Q ∷ R ∷ [])
    ∷ (root 1 ∷ at_least 3 3 ∷ P ∷ not_Q ∷ R ∷ [])
    ∷ (root 1 ∷ at_least 4 3 ∷ P ∷ not_Q ∷ R ∷ [])
    -- The same with not P: 1, 2 and 3 of them.
    ∷ (root 2 ∷ at_least 1 3 ∷ P ∷ not_Q ∷ R ∷ not_P ∷ [])
    ∷ (root 2 ∷ at_least 2 3 ∷ P ∷ not_Q ∷ R ∷ not_P ∷ [])
    ∷ (root 2 ∷ at_least 3 3 ∷ P ∷ not_Q ∷ R ∷ not_P ∷ [])
    -- A true member is one of those asked for, a false one is none: 2 of (P, true), of (P, false, Q), of (P, false).
    ∷ (root 1 ∷ at_least 2 2 ∷ P ∷ True ∷ [])
    ∷ (root 1 ∷ at_least 2 3 ∷ P ∷ False ∷ Q ∷ [])
    ∷ (root 1 ∷ at_least 2 2 ∷ P ∷ False ∷ [])
    -- No members: 0 and 1 of them.
    ∷ (root 1 ∷ at_least 0 0 ∷ [])
    ∷ (root 1 ∷ at_least 1 0 ∷ [])
    -- P or 2 of (P, Q); 2 of (P, Q) or 2 of (P, R); P or 2 of (Q, R), with not P.
    ∷ (root 1 ∷ any_of 2 ∷ P ∷ at_least 2 2 ∷ P ∷ Q ∷ [])
    ∷ (root 1 ∷ any_of 2 ∷ at_least 2 2 ∷ P ∷ Q ∷ at_least 2 2 ∷ P ∷ R ∷ [])
    ∷ (root 2 ∷ any_of 2 ∷ P ∷ at_least 2 2 ∷ Q ∷ R ∷ not_P ∷ [])
    ∷ [])

pub least_reports_told :
    least_reports
    ≡ tells false (0 ∷ 0 ∷ 0 ∷ [])
    ∷ tells false (0 ∷ 0 ∷ 0 ∷ [])
    ∷ tells false (0 ∷ 0 ∷ 0 ∷ [])
    ∷ tells false (1 ∷ 2 ∷ 1 ∷ [])
    ∷ tells true (3 ∷ 3 ∷ 3 ∷ [])
    ∷ tells false (2 ∷ 0 ∷ 0 ∷ [])
    ∷ tells false (2 ∷ 2 ∷ 1 ∷ [])
    ∷ tells true (3 ∷ 3 ∷ 3 ∷ [])
    ∷ tells false (1 ∷ 0 ∷ 0 ∷ [])
    ∷ tells false (1 ∷ 1 ∷ 0 ∷ [])
    ∷ tells true (3 ∷ 3 ∷ 3 ∷ [])
    ∷ tells false (0 ∷ 0 ∷ 0 ∷ [])
    ∷ tells true (3 ∷ 3 ∷ 3 ∷ [])
    ∷ tells false (1 ∷ 0 ∷ 0 ∷ [])
    ∷ tells false (1 ∷ 0 ∷ 0 ∷ [])
    ∷ tells false (2 ∷ 1 ∷ 1 ∷ [])
    ∷ []
unfolding definitions samples least_reports
least_reports_told = refl

-- "Facts are the least set such that a mark of a clause is a fact when the opposite of every other mark in that clause is a fact": a
-- chain of 20 options, each of which the one before forces.
unfoldable pub chain : List ℕ
chain = sheet 20 (root 20 ∷ joined (map (λ v. any_of 2 ∷ barred v ∷ plain (v + 1) ∷ []) (numbers 0 19)) ++ (P ∷ []))

pub chain_told : report_of chain (replicate 20 7) ≡ tells false (replicate 20 1)
unfolding definitions samples chain
chain_told = refl

-- Document 02, U1: "A report shall accept any output of at least N bytes, fill the first N and keep the rest. Calls with exactly N
-- bytes answer as before. Refusal 12 is now for a shorter output only." P in, Q out, into outputs about the two bytes due; a
-- contradiction of one option; no option, consistent and not.
unfoldable pub outputs : List (Outcome (List ℕ) Bool)
outputs =
    map
    (report_of (sheet 2 (root 2 ∷ any_of 2 ∷ P ∷ Q ∷ not_Q ∷ [])))
    ([] ∷ (7 ∷ []) ∷ (7 ∷ 8 ∷ []) ∷ (7 ∷ 8 ∷ 9 ∷ []) ∷ (7 ∷ 8 ∷ 9 ∷ 0 ∷ 3 ∷ []) ∷ [])
    ++ (report_of (sheet 1 (root 2 ∷ P ∷ not_P ∷ [])) (7 ∷ 8 ∷ 9 ∷ [])
    ∷ map (λ s. report_of s (7 ∷ [])) (sheet 0 (root 0 ∷ []) ∷ sheet 0 (root 1 ∷ False ∷ []) ∷ []))

abbrev pub too_short : List ℕ → Outcome (List ℕ) Bool
too_short out = record { answer = refused output_refused; lent = out }

pub outputs_filled :
    outputs
    ≡ too_short []
    ∷ too_short (7 ∷ [])
    ∷ tells false (1 ∷ 2 ∷ [])
    ∷ tells false (1 ∷ 2 ∷ 9 ∷ [])
    ∷ tells false (1 ∷ 2 ∷ 9 ∷ 0 ∷ 3 ∷ [])
    ∷ tells true (3 ∷ 8 ∷ 9 ∷ [])
    ∷ tells false (7 ∷ [])
    ∷ tells true (7 ∷ [])
    ∷ []
unfolding definitions samples outputs
outputs_filled = refl

-- The first case with budgets about its 5 steps and with budgets that fewer bits would take for 0, and what is left with a budget for 0.
-- "A run has a 64-bit budget. It says settled when no rule applies; it says stopped when the budget's steps are done and a rule still
-- applies."
unfoldable pub budgets : List (Outcome (List ℕ) Ran)
budgets =
    map (run_of (sheet 2 (root 1 ∷ any_of 2 ∷ P ∷ all_of 2 ∷ P ∷ Q ∷ []))) (0 ∷ 4 ∷ 5 ∷ 256 ∷ 65536 ∷ 4294967296 ∷ [])
    ++ (run_of (sheet 2 (root 1 ∷ P ∷ [])) 0 ∷ [])

pub budgets_kept :
    budgets
    ≡ stopped 2 0 (root 1 ∷ any_of 2 ∷ P ∷ all_of 2 ∷ P ∷ Q ∷ [])
    ∷ stopped 2 4 (root 1 ∷ any_of 1 ∷ P ∷ [])
    ∷ replicate 4 (settled 2 5 (root 1 ∷ P ∷ []))
    ++ (settled 2 0 (root 1 ∷ P ∷ []) ∷ [])
unfolding definitions samples budgets
budgets_kept = refl

-- "7 no such option number": on a sheet of one option, its own, the next, and numbers that fewer bits would take for 0.
unfoldable pub options_keyed : List ℕ
options_keyed = map (λ v. said (key_of (lined (sheet 1 (root 0 ∷ [])) [] 0) v false).answer) (0 ∷ 1 ∷ wide)

pub options_keyed_so : options_keyed ≡ 0 ∷ replicate 5 7
unfolding definitions samples options_keyed
options_keyed_so = refl

-- Of 512 options, 300 and the last: keyed, and reported.
unfoldable pub high_options : List (List ℕ)
high_options =
    map (λ v. (key_of (lined (sheet 512 (root 0 ∷ [])) [] 0) v true).lent.sheet) (300 ∷ 511 ∷ [])
    ++ ((report_of (sheet 512 (root 2 ∷ plain 300 ∷ barred 511 ∷ [])) (replicate 512 7)).lent ∷ [])

pub high_options_so :
    high_options
    ≡ sheet 512 (root 1 ∷ barred 300 ∷ [])
    ∷ sheet 512 (root 1 ∷ barred 511 ∷ [])
    ∷ (replicate 300 0 ++ (1 ∷ []) ++ replicate 210 0 ++ (2 ∷ []))
    ∷ []
unfolding definitions samples high_options
high_options_so = refl

-- "8 sheet full: weight + 2 is over 4,096." Of an any-of with 2,046 marks the weight is 4,094 with the root, so a choice still fits;
-- "one any-of with 2,047 marks is accepted and a choice is then refused 8".
unfoldable pub last_choices : List ℕ
last_choices =
    said (key_of (lined (sheet 1 (root 1 ∷ any_of 2046 ∷ replicate 2046 P)) [] 0) 0 true).answer
    ∷ said (key_of (lined (sheet 1 (root 1 ∷ any_of 2047 ∷ replicate 2047 P)) [] 0) 0 true).answer
    ∷ []

pub last_choices_answered : last_choices ≡ 0 ∷ 8 ∷ []
unfolding definitions samples last_choices
last_choices_answered = refl
