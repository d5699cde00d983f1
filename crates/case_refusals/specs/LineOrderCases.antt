-- The order of refusals of the calls on the lines of an order, for each two that follow one another, as in `OrderCases`.
use Rattle.std.specs.Prelude.{false, List, [], ◌∷◌, ◌≡◌, refl, ℕ, replicate}
use Rattle.model.specs.Literal.{pos}
use Rattle.calls.specs.Calls.{complete_of, key_of, withdraw_of}
use Rattle.case_samples.specs.Opened.{definitions}
use Rattle.case_samples.specs.Samples.{P, True, any_of, root, book, heavy, sheet, lined, said, samples}

-- Document 02, U2: 13 and 14 "both come after 11 and before 7". Keying: 11 for the sheet before 14; 11 for the lines before 14; 14
-- before 7; 7 before 8.
unfoldable pub keying : List (ℕ × ℕ)
keying =
    let s = sheet 1 (root 1 ∷ P ∷ []) in
    let full = sheet 1 (root 1 ∷ any_of 2047 ∷ replicate 2047 P) in
    let good = replicate 64 (pos 0) in
    (said (key_of (lined [] good 64) 1 false).answer, said (key_of (lined s good 64) 1 false).answer)
    ∷ (said (key_of (lined s (replicate 64 (pos 1)) 64) 1 false).answer, said (key_of (lined full good 64) 1 false).answer)
    ∷ (said (key_of (lined full good 63) 1 false).answer, said (key_of (lined full good 63) 0 false).answer)
    ∷ []

pub keying_in_order : keying ≡ (11, 14) ∷ (11, 14) ∷ (7, 8) ∷ []
unfolding definitions samples keying
keying_in_order = refl

-- Taking back: 11 for the sheet before 1; 6 before 11 for N; "every 11 but the sheet's own is tested after 6, with that for N", so 11 for
-- lines before 13; 13 before 8.
unfoldable pub withdrawing : List (ℕ × ℕ)
withdrawing =
    let s = sheet 1 (root 0 ∷ []) in
    let none = book ("P" ∷ []) [] in
    let most = book ("P" ∷ []) ((any_of 2047 ∷ replicate 2047 P) ∷ []) in
    (said (withdraw_of (lined [] [] 0) [] 0).answer, said (withdraw_of (lined s [] 0) [] 0).answer)
    ∷ (said (withdraw_of (lined s [] 0) (heavy True) 0).answer, said (withdraw_of (lined s [] 0) (replicate 8 0) 0).answer)
    ∷ (said (withdraw_of (lined s [] 65) (heavy True) 0).answer, said (withdraw_of (lined s [] 65) none 0).answer)
    ∷ (said (withdraw_of (lined s (pos 1 ∷ []) 1) none 1).answer, said (withdraw_of (lined s (pos 0 ∷ []) 1) none 1).answer)
    ∷ (said (withdraw_of (lined s (pos 0 ∷ pos 0 ∷ []) 2) most 2).answer, said (withdraw_of (lined s (pos 0 ∷ pos 0 ∷ []) 2) most 1).answer)
    ∷ []

pub withdrawing_in_order : withdrawing ≡ (11, 1) ∷ (6, 11) ∷ (6, 11) ∷ (11, 13) ∷ (13, 8) ∷ []
unfolding definitions samples withdrawing
withdrawing_in_order = refl

-- Document 02, U6: book and choices are "checked by 1 to 6 and 11 as for a withdrawal, by no others": a full list, a full sheet and a book
-- as heavy as may be are asked about like any other.
unfoldable pub questioning : List (ℕ × ℕ)
questioning =
    let s = sheet 1 (root 0 ∷ []) in
    let none = book ("P" ∷ []) [] in
    let most = book ("P" ∷ []) ((any_of 2047 ∷ replicate 2047 P) ∷ []) in
    let full = sheet 1 (root 1 ∷ any_of 2047 ∷ replicate 2047 P) in
    let other = sheet 0 (root 0 ∷ []) in
    let good = replicate 64 (pos 0) in
    (said (complete_of (lined [] [] 65) []), said (complete_of (lined s [] 65) []))
    ∷ (said (complete_of (lined other [] 0) (heavy True)), said (complete_of (lined other [] 0) none))
    ∷ (said (complete_of (lined s [] 65) (heavy True)), said (complete_of (lined s [] 65) none))
    ∷ (said (complete_of (lined s (pos 1 ∷ []) 1) (heavy True)), said (complete_of (lined s (pos 1 ∷ []) 1) none))
    ∷ (said (complete_of (lined s good 64) none), said (complete_of (lined full good 64) most))
    ∷ []

pub questioning_in_order : questioning ≡ (11, 1) ∷ (6, 11) ∷ (6, 11) ∷ (6, 11) ∷ (0, 0) ∷ []
unfolding definitions samples questioning
questioning_in_order = refl
