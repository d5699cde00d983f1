-- The refusals for an index among the others, in the order that `OrderCases` and `LineOrderCases` show without one.
use Rattle.std.specs.Prelude.{false, List, [], ◌∷◌, map, ◌≡◌, refl, ℕ, ◌+◌, replicate, take}
use Rattle.model.specs.Literal.{pos}
use Rattle.calls.specs.Calls.{fill_of, key_with, withdraw_with, step_with, run_with}
use Rattle.case_samples.specs.Opened.{definitions}
use Rattle.case_samples.specs.Samples.{P, True, any_of, root, book, heavy, sheet, lined, said, samples}

-- Document 02, U5: a call with an index. What it answers to one that is right, to one that is long enough but not the fresh count, and to
-- one that is too short: 11 with the other 11s, so after a book's numbers and before 14, 13, 7, 8, 9 and 10; 12 after all of them.
unfoldable pub judged : List ℕ → (List ℕ → ℕ) → List ℕ
judged right call = call right ∷ call (map (λ n. n + 1) right) ∷ call (take 1 right) ∷ []

-- Keying: accepted; lines that are not in order; a full list; no such option; a full sheet.
unfoldable pub keyed_with_an_index : List (List ℕ)
keyed_with_an_index =
    let s = sheet 1 (root 1 ∷ P ∷ []) in
    let full = sheet 1 (root 1 ∷ any_of 2047 ∷ replicate 2047 P) in
    let good = replicate 64 (pos 0) in
    judged (1 ∷ 1 ∷ []) (λ x. said (key_with (lined s good 63) x 0 false).answer)
    ∷ judged (1 ∷ 1 ∷ []) (λ x. said (key_with (lined s good 65) x 0 false).answer)
    ∷ judged (1 ∷ 1 ∷ []) (λ x. said (key_with (lined s good 64) x 0 false).answer)
    ∷ judged (1 ∷ 1 ∷ []) (λ x. said (key_with (lined s good 63) x 1 false).answer)
    ∷ judged (2047 ∷ 2 ∷ []) (λ x. said (key_with (lined full good 63) x 0 false).answer)
    ∷ []

pub keyed_with_an_index_so :
    keyed_with_an_index ≡ (0 ∷ 11 ∷ 12 ∷ []) ∷ (11 ∷ 11 ∷ 11 ∷ []) ∷ (14 ∷ 11 ∷ 14 ∷ []) ∷ (7 ∷ 11 ∷ 7 ∷ []) ∷ (8 ∷ 11 ∷ 8 ∷ []) ∷ []
unfolding definitions samples judged keyed_with_an_index
keyed_with_an_index_so = refl

-- Taking back: accepted; a book that is none, and one that is too heavy; no such line; no room.
unfoldable pub withdrawn_with_an_index : List (List ℕ)
withdrawn_with_an_index =
    let order = lined (sheet 1 (root 1 ∷ P ∷ [])) (pos 0 ∷ pos 0 ∷ []) 2 in
    let none = book ("P" ∷ []) [] in
    let most = book ("P" ∷ []) ((any_of 2047 ∷ replicate 2047 P) ∷ []) in
    judged (1 ∷ 1 ∷ []) (λ x. said (withdraw_with order none x 1).answer)
    ∷ judged (1 ∷ 1 ∷ []) (λ x. said (withdraw_with order [] x 1).answer)
    ∷ judged (1 ∷ 1 ∷ []) (λ x. said (withdraw_with order (heavy True) x 1).answer)
    ∷ judged (1 ∷ 1 ∷ []) (λ x. said (withdraw_with order none x 2).answer)
    ∷ judged (1 ∷ 1 ∷ []) (λ x. said (withdraw_with order most x 1).answer)
    ∷ []

pub withdrawn_with_an_index_so :
    withdrawn_with_an_index
    ≡ (0 ∷ 11 ∷ 12 ∷ [])
    ∷ (1 ∷ 1 ∷ 1 ∷ [])
    ∷ (6 ∷ 6 ∷ 6 ∷ [])
    ∷ (13 ∷ 11 ∷ 13 ∷ [])
    ∷ (8 ∷ 11 ∷ 8 ∷ [])
    ∷ []
unfolding definitions samples judged withdrawn_with_an_index
withdrawn_with_an_index_so = refl

-- A single step: accepted; no rule; one that does not apply. A run. The call that fills an index, which looks at its length alone; with no
-- sheet, 11 before 12.
unfoldable pub stepped_with_an_index : List (List ℕ)
stepped_with_an_index =
    let s = sheet 1 (root 2 ∷ True ∷ P ∷ []) in
    judged (1 ∷ 2 ∷ []) (λ x. said (step_with s x 6 0 0 0).answer)
    ∷ judged (1 ∷ 2 ∷ []) (λ x. said (step_with s x 18 0 0 0).answer)
    ∷ judged (1 ∷ 2 ∷ []) (λ x. said (step_with s x 6 0 1 0).answer)
    ∷ judged (1 ∷ 2 ∷ []) (λ x. said (run_with s x 5).answer)
    ∷ judged (1 ∷ 2 ∷ []) (λ x. said (fill_of s x).answer)
    ∷ judged (1 ∷ 2 ∷ []) (λ x. said (fill_of (1 ∷ []) x).answer)
    ∷ []

pub stepped_with_an_index_so :
    stepped_with_an_index
    ≡ (0 ∷ 11 ∷ 12 ∷ [])
    ∷ (9 ∷ 11 ∷ 9 ∷ [])
    ∷ (10 ∷ 11 ∷ 10 ∷ [])
    ∷ (0 ∷ 11 ∷ 12 ∷ [])
    ∷ (0 ∷ 0 ∷ 12 ∷ [])
    ∷ (11 ∷ 11 ∷ 11 ∷ [])
    ∷ []
unfolding definitions samples judged stepped_with_an_index
stepped_with_an_index_so = refl
