-- Document 02, U4: which nodes of kind 6 are well-formed, "in book and sheet alike".
use Rattle.std.specs.Prelude.{true, false, List, [], ◌∷◌, ◌++◌, map, ◌≡◌, refl, ℕ, ◌+◌, replicate}
use Rattle.model.specs.Sheet.{is_sheet}
use Rattle.calls.specs.Calls.{check_of}
use Rattle.case_samples.specs.Opened.{definitions}
use Rattle.case_samples.specs.Samples.{P, Q, R, not_P, not_Q, True, False, plain, all_of, any_of, root, at_least, book, sheet}
use Rattle.case_samples.specs.Samples.{numbers, joined, said, samples}

-- "Its members are true, false, or marks, the marks of distinct options." Plain and barred ones; constants, each twice; no members;
-- k over the members; below other nodes and beside a mark of the same option; "both 0 to 63".
unfoldable pub good : List (List ℕ)
good =
    (at_least 2 3 ∷ P ∷ not_Q ∷ R ∷ [])
    ∷ (at_least 2 5 ∷ True ∷ P ∷ False ∷ True ∷ False ∷ [])
    ∷ (at_least 0 0 ∷ [])
    ∷ (at_least 63 0 ∷ [])
    ∷ (at_least 3 2 ∷ P ∷ Q ∷ [])
    ∷ (any_of 3 ∷ at_least 1 2 ∷ P ∷ Q ∷ P ∷ all_of 2 ∷ at_least 1 1 ∷ not_P ∷ not_P ∷ [])
    ∷ (at_least 63 63 ∷ replicate 63 True)
    ∷ []

unfoldable pub bad : List (List ℕ)
bad =
    -- An option twice: side by side, with a mark or a constant between, plain beside barred; as the children of any-of and all-of.
    (at_least 1 2 ∷ P ∷ P ∷ [])
    ∷ (at_least 1 3 ∷ P ∷ Q ∷ P ∷ [])
    ∷ (at_least 1 3 ∷ not_P ∷ True ∷ not_P ∷ [])
    ∷ (at_least 1 2 ∷ P ∷ not_P ∷ [])
    ∷ (at_least 1 3 ∷ not_Q ∷ R ∷ Q ∷ [])
    ∷ (any_of 2 ∷ P ∷ at_least 1 2 ∷ Q ∷ Q ∷ [])
    ∷ (all_of 2 ∷ at_least 1 2 ∷ Q ∷ Q ∷ True ∷ [])
    -- A member with children, be they constants; a kind 6, be it without members; the root.
    ∷ (at_least 1 1 ∷ all_of 1 ∷ P ∷ [])
    ∷ (at_least 1 2 ∷ P ∷ any_of 1 ∷ False ∷ [])
    ∷ (at_least 1 1 ∷ at_least 1 1 ∷ P ∷ [])
    ∷ (at_least 1 1 ∷ at_least 0 0 ∷ [])
    ∷ (at_least 1 1 ∷ root 0 ∷ [])
    -- A member too few, one too many; no such option; 64 members, which is kind 7.
    ∷ (at_least 1 2 ∷ P ∷ [])
    ∷ (at_least 1 1 ∷ P ∷ Q ∷ [])
    ∷ (at_least 1 1 ∷ plain 3 ∷ [])
    ∷ (at_least 0 64 ∷ replicate 64 True)
    ∷ []

-- As the body of a book of three options: "5 a malformed body".
pub bodies_judged :
    map (λ ns. said (check_of (book ("P" ∷ "Q" ∷ "R" ∷ []) (ns ∷ [])))) (good ++ bad) ≡ replicate 7 0 ++ replicate 16 5
unfolding definitions samples good bad
bodies_judged = refl

-- As the only rule of a sheet.
pub sheets_judged : map (λ ns. is_sheet (sheet 3 (root 1 ∷ ns))) (good ++ bad) ≡ replicate 7 true ++ replicate 16 false
unfolding definitions samples good bad
sheets_judged = refl

-- 63 members of distinct options, and with the last the same as the first.
pub most_members :
    is_sheet (sheet 63 (root 1 ∷ at_least 63 63 ∷ map (λ v. plain v) (numbers 0 63)))
    ∷ is_sheet (sheet 63 (root 1 ∷ at_least 63 63 ∷ map (λ v. plain v) (numbers 0 62) ++ (P ∷ [])))
    ∷ []
    ≡ true ∷ false ∷ []
unfolding definitions samples
most_members = refl

-- "The weight is nodes plus marks (root counted)": a node of kind 6 is one node. With an any-of of 2,046 marks the root makes 4,094, so two
-- of them still fit, and three do not.
unfoldable pub with_leasts : ℕ → List (List ℕ)
with_leasts n = (any_of 2046 ∷ replicate 2046 P) ∷ replicate n (at_least 0 0 ∷ [])

pub weights_judged :
    map (λ n. said (check_of (book ("P" ∷ []) (with_leasts n)))) (2 ∷ 3 ∷ []) ≡ 0 ∷ 6 ∷ []
unfolding definitions samples with_leasts
weights_judged = refl

pub weights_of_sheets :
    map (λ n. is_sheet (sheet 1 (root (1 + n) ∷ joined (with_leasts n)))) (2 ∷ 3 ∷ []) ≡ true ∷ false ∷ []
unfolding definitions samples with_leasts
weights_of_sheets = refl
