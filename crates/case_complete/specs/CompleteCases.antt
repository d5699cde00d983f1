-- Document 02, U6: the "complete" question, book by book and line by line. "A sheet is complete from now on if it is not contradictory and
-- every option that some rule of the loaded book or some choice names is marked 1 or 2."
use Rattle.std.specs.Prelude.{Bool, true, false, List, [], ◌∷◌, ◌++◌, map, ◌≡◌, refl, ℕ, replicate}
use Rattle.model.specs.Literal.{Literal, pos, neg}
use Rattle.model.specs.Propagation.{complete}
use Rattle.model.specs.Sheet.{report_in}
use Rattle.calls.specs.Refusals.{sheet_refused}
use Rattle.calls.specs.Outcomes.{Answer, refused, accepted}
use Rattle.calls.specs.Calls.{complete_of}
use Rattle.case_samples.specs.Opened.{definitions}
use Rattle.case_samples.specs.Samples.{P, Q, R, not_P, not_Q, not_R, True, False, all_of, any_of, root, at_least, book, sheet, lined, samples}

-- A sheet's nodes, on P, Q and R, with a book of these rules and these lines, of which so many count.
unfoldable pub asked : List ℕ → List (List ℕ) → List Literal → ℕ → Answer Bool
asked nodes rules lines count = complete_of (lined (sheet 3 nodes) lines count) (book ("P" ∷ "Q" ∷ "R" ∷ []) rules)

-- P is in, Q and R are open. Reserved codes that nothing names are not waited for, and no name at all is none; an option that some rule
-- names is: the first rule or a later one, plain or barred, in a nest, as a member of kind 6.
unfoldable pub by_rules : List (Answer Bool)
by_rules =
    map
    (λ rules. asked (root 1 ∷ P ∷ []) rules [] 0)
    ([]
    ∷ ((P ∷ []) ∷ [])
    ∷ ((not_P ∷ []) ∷ (True ∷ []) ∷ [])
    ∷ ((Q ∷ []) ∷ (P ∷ []) ∷ [])
    ∷ ((P ∷ []) ∷ (R ∷ []) ∷ [])
    ∷ ((any_of 2 ∷ P ∷ all_of 2 ∷ P ∷ not_Q ∷ []) ∷ [])
    ∷ ((at_least 1 2 ∷ P ∷ R ∷ []) ∷ [])
    ∷ [])

pub by_rules_so :
    by_rules
    ≡ accepted true
    ∷ accepted true
    ∷ accepted true
    ∷ accepted false
    ∷ accepted false
    ∷ accepted false
    ∷ accepted false
    ∷ []
unfolding definitions samples asked by_rules
by_rules_so = refl

-- "Or some choice": a counted line names its option, in either sense, whether its mark stands on the sheet or not; a slot past the count
-- names none.
unfoldable pub by_lines : List (Answer Bool)
by_lines =
    asked (root 1 ∷ P ∷ []) [] (pos 0 ∷ []) 1
    ∷ asked (root 1 ∷ P ∷ []) [] (neg 1 ∷ []) 1
    ∷ asked (root 1 ∷ P ∷ []) [] (pos 0 ∷ pos 2 ∷ []) 2
    ∷ asked (root 1 ∷ P ∷ []) [] (pos 0 ∷ pos 2 ∷ []) 1
    ∷ asked (root 2 ∷ P ∷ not_R ∷ []) ((P ∷ []) ∷ []) (neg 2 ∷ []) 1
    ∷ asked (root 1 ∷ P ∷ []) ((P ∷ []) ∷ []) (replicate 64 (neg 0)) 64
    ∷ asked (root 1 ∷ P ∷ []) ((Q ∷ []) ∷ []) (pos 0 ∷ []) 1
    ∷ []

pub by_lines_so :
    by_lines
    ≡ accepted true
    ∷ accepted false
    ∷ accepted false
    ∷ accepted true
    ∷ accepted true
    ∷ accepted true
    ∷ accepted false
    ∷ []
unfolding definitions samples asked by_lines
by_lines_so = refl

-- However far off it is named: by the 64th line, by the last of 300 rules, by the last of 300 nodes of a rule.
unfoldable pub far_off : List (Answer Bool)
far_off =
    asked (root 1 ∷ P ∷ []) [] (replicate 63 (neg 0) ++ (pos 2 ∷ [])) 64
    ∷ asked (root 1 ∷ P ∷ []) (replicate 299 (P ∷ []) ++ ((R ∷ []) ∷ [])) [] 0
    ∷ asked (root 1 ∷ P ∷ []) ((any_of 299 ∷ replicate 298 P ++ (not_R ∷ [])) ∷ []) [] 0
    ∷ []

pub far_off_so : far_off ≡ replicate 3 (accepted false)
unfolding definitions samples asked far_off
far_off_so = refl

-- "The mention is judged on the book and the choices, since a step can remove the last mark of an option": P takes the rule "P or Q" off the
-- sheet, and Q is still waited for. What the sheet alone names is not.
unfoldable pub not_by_sheets : List (Answer Bool)
not_by_sheets =
    asked (root 1 ∷ P ∷ []) ((P ∷ []) ∷ (any_of 2 ∷ P ∷ Q ∷ []) ∷ []) [] 0
    ∷ asked (root 2 ∷ P ∷ any_of 2 ∷ Q ∷ R ∷ []) ((P ∷ []) ∷ []) [] 0
    ∷ asked (root 2 ∷ P ∷ any_of 2 ∷ Q ∷ R ∷ []) ((P ∷ []) ∷ (any_of 2 ∷ Q ∷ R ∷ []) ∷ []) [] 0
    ∷ []

pub not_by_sheets_so : not_by_sheets ≡ accepted false ∷ accepted true ∷ accepted false ∷ []
unfolding definitions samples asked not_by_sheets
not_by_sheets_so = refl

-- "Marked 1 or 2": in, out, the last option of all and the first, and what propagation derives; not where the sheet is contradictory, though every
-- option is forced, and though nothing is named.
unfoldable pub by_marks : List (Answer Bool)
by_marks =
    asked (root 3 ∷ P ∷ not_Q ∷ R ∷ []) ((any_of 3 ∷ P ∷ Q ∷ R ∷ []) ∷ []) [] 0
    ∷ asked (root 2 ∷ P ∷ not_Q ∷ []) ((any_of 3 ∷ P ∷ Q ∷ R ∷ []) ∷ []) [] 0
    ∷ asked (root 2 ∷ not_Q ∷ R ∷ []) ((any_of 3 ∷ P ∷ Q ∷ R ∷ []) ∷ []) [] 0
    ∷ asked (root 2 ∷ any_of 2 ∷ P ∷ Q ∷ not_Q ∷ []) ((any_of 2 ∷ P ∷ Q ∷ []) ∷ (not_Q ∷ []) ∷ []) [] 0
    ∷ asked (root 1 ∷ any_of 2 ∷ P ∷ all_of 2 ∷ P ∷ Q ∷ []) ((Q ∷ []) ∷ []) [] 0
    ∷ asked (root 2 ∷ P ∷ not_P ∷ []) ((P ∷ []) ∷ []) [] 0
    ∷ asked (root 1 ∷ False ∷ []) [] [] 0
    ∷ []

pub by_marks_so :
    by_marks
    ≡ accepted true
    ∷ accepted false
    ∷ accepted false
    ∷ accepted true
    ∷ accepted false
    ∷ accepted false
    ∷ accepted false
    ∷ []
unfolding definitions samples asked by_marks
by_marks_so = refl

-- No option at all.
unfoldable pub without_options : List (Answer Bool)
without_options =
    map (λ nodes. complete_of (lined (sheet 0 nodes) [] 0) (replicate 8 0)) ((root 0 ∷ []) ∷ (root 1 ∷ False ∷ []) ∷ [])

pub without_options_so : without_options ≡ accepted true ∷ accepted false ∷ []
unfolding definitions samples without_options
without_options_so = refl

-- Document 01's words, which are enough now and not needed: "A sheet is complete if it is not contradictory and every option is 1 or 2."
unfoldable pub as_before : List Bool
as_before =
    map (λ nodes. complete (report_in (sheet 2 nodes)))
    ((root 2 ∷ P ∷ not_Q ∷ []) ∷ (root 1 ∷ P ∷ []) ∷ (root 1 ∷ not_Q ∷ []) ∷ (root 3 ∷ P ∷ not_P ∷ Q ∷ []) ∷ [])
    ++ map (λ nodes. complete (report_in (sheet 0 nodes))) ((root 0 ∷ []) ∷ (root 1 ∷ False ∷ []) ∷ [])

pub as_before_so : as_before ≡ true ∷ false ∷ false ∷ false ∷ true ∷ false ∷ []
unfolding definitions samples as_before
as_before_so = refl

-- Lines that are not in order: 65 counted, a counted one that names no option (past the count it may stand), 63 slots and 65.
unfoldable pub lines_lent : List (Answer Bool)
lines_lent =
    asked (root 1 ∷ P ∷ []) [] (replicate 64 (pos 0)) 65
    ∷ asked (root 1 ∷ P ∷ []) [] (pos 3 ∷ []) 1
    ∷ asked (root 1 ∷ P ∷ []) [] (pos 3 ∷ []) 0
    ∷ complete_of (record { sheet = sheet 0 (root 0 ∷ []); lines = replicate 63 (pos 0); count = 0 }) (replicate 8 0)
    ∷ complete_of (record { sheet = sheet 0 (root 0 ∷ []); lines = replicate 65 (pos 0); count = 0 }) (replicate 8 0)
    ∷ []

pub lines_lent_so :
    lines_lent
    ≡ refused sheet_refused
    ∷ refused sheet_refused
    ∷ accepted true
    ∷ refused sheet_refused
    ∷ refused sheet_refused
    ∷ []
unfolding definitions samples asked lines_lent
lines_lent_so = refl
