-- Document 01's starred cases by the calls, and cases of document 02, U4: each is loaded from its book's bytes, chosen on, run and
-- reported. (What is said of its sheet before the run is computed in `Cases`.)
use Rattle.std.specs.Prelude.{Bool, true, false, List, [], ◌∷◌, map, ◌≡◌, refl, ℕ, length, replicate}
use Prim.Native.String.{String}
use Rattle.calls.specs.Outcomes.{accepted, Outcome}
use Rattle.calls.specs.Lines.{State}
use Rattle.calls.specs.Calls.{Ran, load_of, key_of, run_of, report_of}
use Rattle.case_samples.specs.Opened.{definitions}
use Rattle.case_samples.specs.Samples.{P, Q, R, S, not_P, not_Q, not_R, True, False, all_of, any_of, root, at_least, book, sheet}
use Rattle.case_samples.specs.Samples.{lined, samples}
use Rattle.cases.specs.OneCallCases.{settled, tells}

-- A case: its codes, its rules, its choices (the option, and whether it is barred).
pub record Order : Type 0 where
  pub codes : List String
  pub rules : List (List ℕ)
  pub choices : List (ℕ × Bool)

-- What the calls answer and leave.
pub record Called : Type 0 where
  pub loaded : Outcome (List ℕ) (Unit {0})
  pub chosen : List (Outcome (List ℕ) (Unit {0}))
  pub ran : Outcome (List ℕ) Ran
  pub told : Outcome (List ℕ) Bool

-- The choices keyed from an empty list on: each answer, and the sheet after it. (The lines are in `LineCases`.)
unfoldable pub key_all : List (ℕ × Bool) → State → List (Outcome (List ℕ) (Unit {0}))
key_all [] t = []
key_all (c ∷ cs) t =
    let o = key_of t c.0 c.1 in record { answer = o.answer; lent = o.lent.sheet } ∷ key_all cs o.lent

-- The sheet as the last choice left it.
unfoldable pub left_by : List ℕ → List (Outcome (List ℕ) (Unit {0})) → List ℕ
left_by s [] = s
left_by s (o ∷ os) = left_by o.lent os

-- The target and the report's bytes hold other numbers before.
unfoldable pub call : Order → Called
call c =
    let bytes = book c.codes c.rules in
    let loaded = load_of bytes (replicate 4098 7) in
    let chosen = key_all c.choices (lined loaded.lent [] 0) in
    let ran = run_of (left_by loaded.lent chosen) 100 in
    record {
      loaded = loaded;
      chosen = chosen;
      ran = ran;
      told = report_of ran.lent (replicate (length c.codes) 9);
    }

abbrev pub order : List String → List (List ℕ) → Order
order cs rs = record { codes = cs; rules = rs; choices = [] }

unfoldable pub orders : List Order
orders =
    -- "P or (P and Q)"
    order ("P" ∷ "Q" ∷ []) ((any_of 2 ∷ P ∷ all_of 2 ∷ P ∷ Q ∷ []) ∷ [])
    -- "Rules P; ((not P and Q) or false)"
    ∷ order ("P" ∷ "Q" ∷ []) ((P ∷ []) ∷ (any_of 2 ∷ all_of 2 ∷ not_P ∷ Q ∷ False ∷ []) ∷ [])
    -- "(P and Q) or (P and R)"
    ∷ order ("P" ∷ "Q" ∷ "R" ∷ []) ((any_of 2 ∷ all_of 2 ∷ P ∷ Q ∷ all_of 2 ∷ P ∷ R ∷ []) ∷ [])
    -- "Rules not P; P or not Q; P or not R; Q or R"
    ∷ order ("P" ∷ "Q" ∷ "R" ∷ []) ((not_P ∷ []) ∷ (any_of 2 ∷ P ∷ not_Q ∷ []) ∷ (any_of 2 ∷ P ∷ not_R ∷ []) ∷ (any_of 2 ∷ Q ∷ R ∷ []) ∷ [])
    -- "P or Q; not P or Q"
    ∷ order ("P" ∷ "Q" ∷ []) ((any_of 2 ∷ P ∷ Q ∷ []) ∷ (any_of 2 ∷ not_P ∷ Q ∷ []) ∷ [])
    -- "(P and not P) or Q"
    ∷ order ("P" ∷ "Q" ∷ []) ((any_of 2 ∷ all_of 2 ∷ P ∷ not_P ∷ Q ∷ []) ∷ [])
    -- "P or Q, choice not Q"
    ∷ record { codes = "P" ∷ "Q" ∷ []; rules = (any_of 2 ∷ P ∷ Q ∷ []) ∷ []; choices = (1, true) ∷ [] }
    -- "Eight zero bytes: a book"
    ∷ order [] []
    -- "Only rule false"; "only rule true"
    ∷ order [] ((False ∷ []) ∷ [])
    ∷ order [] ((True ∷ []) ∷ [])
    ∷ []

abbrev pub filled : ℕ → List ℕ → Outcome (List ℕ) (Unit {0})
filled n nodes = record { answer = accepted tt; lent = sheet n nodes }

-- The nodes loaded; the steps and the nodes that they leave; the report's result and bytes. No choices.
abbrev pub comes_to : List ℕ → ℕ → List ℕ → Bool → List ℕ → Called
comes_to nodes count left contradictory marks =
    record {
      loaded = filled (length marks) nodes;
      chosen = [];
      ran = settled (length marks) count left;
      told = tells contradictory marks;
    }

pub starred_by_calls :
    map call orders
    -- "P in, Q open. Steps 9, 1, 7, 5, 8."
    ≡ comes_to (root 1 ∷ any_of 2 ∷ P ∷ all_of 2 ∷ P ∷ Q ∷ []) 5 (root 1 ∷ P ∷ []) false (1 ∷ 0 ∷ [])
    -- "Contradiction. Steps 5, 8, 10, 1, 7, 3."
    ∷ comes_to (root 2 ∷ P ∷ any_of 2 ∷ all_of 2 ∷ not_P ∷ Q ∷ False ∷ []) 6 (root 1 ∷ False ∷ []) true (3 ∷ 3 ∷ [])
    -- "Steps 14, 7, 7, 8, 12, 7 leave P; (Q or R)."
    ∷ comes_to (root 1 ∷ any_of 2 ∷ all_of 2 ∷ P ∷ Q ∷ all_of 2 ∷ P ∷ R ∷ []) 6 (root 2 ∷ P ∷ any_of 2 ∷ Q ∷ R ∷ []) false (1 ∷ 0 ∷ 0 ∷ [])
    -- "Contradiction."
    ∷ comes_to (root 4 ∷ not_P ∷ any_of 2 ∷ P ∷ not_Q ∷ any_of 2 ∷ P ∷ not_R ∷ any_of 2 ∷ Q ∷ R ∷ []) 10 (root 1 ∷ False ∷ []) true
    (3 ∷ 3 ∷ 3 ∷ [])
    -- "All open, although Q follows by truth table."
    ∷ comes_to (root 2 ∷ any_of 2 ∷ P ∷ Q ∷ any_of 2 ∷ not_P ∷ Q ∷ []) 0 (root 2 ∷ any_of 2 ∷ P ∷ Q ∷ any_of 2 ∷ not_P ∷ Q ∷ []) false
    (0 ∷ 0 ∷ [])
    -- "Q open."
    ∷ comes_to (root 1 ∷ any_of 2 ∷ all_of 2 ∷ P ∷ not_P ∷ Q ∷ []) 0 (root 1 ∷ any_of 2 ∷ all_of 2 ∷ P ∷ not_P ∷ Q ∷ []) false (0 ∷ 0 ∷ [])
    -- "P in, Q out."
    ∷ record {
      loaded = filled 2 (root 1 ∷ any_of 2 ∷ P ∷ Q ∷ []);
      chosen = filled 2 (root 2 ∷ any_of 2 ∷ P ∷ Q ∷ not_Q ∷ []) ∷ [];
      ran = settled 2 3 (root 2 ∷ P ∷ not_Q ∷ []);
      told = tells false (1 ∷ 2 ∷ []);
    }
    -- "The sheet is 0, 1, 20480, zeros."
    ∷ comes_to (20480 ∷ []) 0 (20480 ∷ []) false []
    -- "Contradiction, 0 steps"; "1 step, no children."
    ∷ comes_to (root 1 ∷ False ∷ []) 0 (root 1 ∷ False ∷ []) true []
    ∷ comes_to (root 1 ∷ True ∷ []) 1 (root 0 ∷ []) false []
    ∷ []
unfolding definitions samples key_all left_by call orders
starred_by_calls = refl

-- Document 02, U4: 2 of (P, Q, R, S) with the choices not P, not Q; the same where not R is chosen too; 0 of 0 as the only rule; 1 of 0
-- or P. The last two have no member, and a rule applies.
unfoldable pub least_orders : List Order
least_orders =
    let seals = (at_least 2 4 ∷ P ∷ Q ∷ R ∷ S ∷ []) ∷ [] in
    let codes : List String = "P" ∷ "Q" ∷ "R" ∷ "S" ∷ [] in
    record { codes = codes; rules = seals; choices = (0, true) ∷ (1, true) ∷ [] }
    ∷ record { codes = codes; rules = seals; choices = (0, true) ∷ (1, true) ∷ (2, true) ∷ [] }
    ∷ order [] ((at_least 0 0 ∷ []) ∷ [])
    ∷ order ("P" ∷ []) ((any_of 2 ∷ at_least 1 0 ∷ P ∷ []) ∷ [])
    ∷ []

pub least_by_calls :
    map call least_orders
    ≡ record {
      loaded = filled 4 (root 1 ∷ at_least 2 4 ∷ P ∷ Q ∷ R ∷ S ∷ []);
      chosen =
          filled 4 (root 2 ∷ at_least 2 4 ∷ P ∷ Q ∷ R ∷ S ∷ not_P ∷ [])
          ∷ filled 4 (root 3 ∷ at_least 2 4 ∷ P ∷ Q ∷ R ∷ S ∷ not_P ∷ not_Q ∷ [])
          ∷ [];
      ran = settled 4 7 (root 4 ∷ R ∷ S ∷ not_P ∷ not_Q ∷ []);
      told = tells false (2 ∷ 2 ∷ 1 ∷ 1 ∷ []);
    }
    ∷ record {
      loaded = filled 4 (root 1 ∷ at_least 2 4 ∷ P ∷ Q ∷ R ∷ S ∷ []);
      chosen =
          filled 4 (root 2 ∷ at_least 2 4 ∷ P ∷ Q ∷ R ∷ S ∷ not_P ∷ [])
          ∷ filled 4 (root 3 ∷ at_least 2 4 ∷ P ∷ Q ∷ R ∷ S ∷ not_P ∷ not_Q ∷ [])
          ∷ filled 4 (root 4 ∷ at_least 2 4 ∷ P ∷ Q ∷ R ∷ S ∷ not_P ∷ not_Q ∷ not_R ∷ [])
          ∷ [];
      ran = settled 4 8 (root 1 ∷ False ∷ []);
      told = tells true (3 ∷ 3 ∷ 3 ∷ 3 ∷ []);
    }
    -- Steps 16, 6; 16, 5, 8.
    ∷ comes_to (root 1 ∷ at_least 0 0 ∷ []) 2 (root 0 ∷ []) false []
    ∷ comes_to (root 1 ∷ any_of 2 ∷ at_least 1 0 ∷ P ∷ []) 3 (root 1 ∷ P ∷ []) false (1 ∷ [])
    ∷ []
unfolding definitions samples key_all left_by call orders least_orders
least_by_calls = refl
