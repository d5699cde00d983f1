-- Document 02, U2: one keying and one withdrawal, slot by slot.
use Rattle.std.specs.Prelude.{true, false, List, [], ◌∷◌, ◌++◌, map, ◌≡◌, refl, ℕ, ◌+◌, ◌/◌, ◌%◌, replicate}
use Rattle.model.specs.Literal.{Literal, pos, neg}
use Rattle.calls.specs.Refusals.{full_refused}
use Rattle.calls.specs.Outcomes.{Outcome, refused, accepted}
use Rattle.calls.specs.Lines.{State}
use Rattle.calls.specs.Calls.{key_of, withdraw_of}
use Rattle.case_samples.specs.Opened.{definitions}
use Rattle.case_samples.specs.Samples.{P, Q, not_P, not_Q, plain, any_of, root, numbers, joined, book_of, book, sheet, lined, said, samples}

-- "P or Q", and its sheet.
unfoldable pub p_or_q : List ℕ
p_or_q = book ("P" ∷ "Q" ∷ []) ((any_of 2 ∷ P ∷ Q ∷ []) ∷ [])

-- "Keying adds a line and the mark": at the count, over what stood there; all other slots stay.
unfoldable pub one_keyed : Outcome State (Unit {0})
one_keyed = key_of (lined (sheet 2 (root 1 ∷ any_of 2 ∷ P ∷ Q ∷ [])) (pos 0 ∷ neg 300 ∷ pos 7 ∷ []) 1) 1 true

pub keyed_so :
    one_keyed
    ≡ record {
      answer = accepted tt;
      lent = lined (sheet 2 (root 2 ∷ any_of 2 ∷ P ∷ Q ∷ not_Q ∷ [])) (pos 0 ∷ neg 1 ∷ pos 7 ∷ []) 2;
    }
unfolding definitions samples one_keyed
keyed_so = refl

-- The last of the 64 slots.
pub last_keyed_so :
    key_of (lined (sheet 2 (root 0 ∷ [])) (replicate 63 (pos 0)) 63) 1 true
    ≡ record { answer = accepted tt; lent = lined (sheet 2 (root 1 ∷ not_Q ∷ [])) (replicate 63 (pos 0) ++ (neg 1 ∷ [])) 64 }
unfolding definitions samples
last_keyed_so = refl

-- "After a refusal each lent buffer holds what it held before": a full sheet, and room for its line.
unfoldable pub full : State
full = lined (sheet 1 (root 1 ∷ any_of 2047 ∷ replicate 2047 P)) (pos 0 ∷ neg 300 ∷ []) 1

pub refused_so : key_of full 0 true ≡ record { answer = refused full_refused; lent = full }
unfolding definitions samples full
refused_so = refl

-- Four lines of which three are counted; the sheet has been run to its end. Lines 0, 1 and 2 taken back: "removes it, moves later lines
-- up, loads the sheet afresh and keys the remaining lines in order"; the slot that is freed "keeps what it held", as does the next.
unfoldable pub three : State
three = lined (sheet 2 (root 2 ∷ P ∷ not_Q ∷ [])) (neg 1 ∷ pos 0 ∷ neg 0 ∷ neg 300 ∷ []) 3

unfoldable pub taken_back : List (Outcome State (Unit {0}))
taken_back = map (withdraw_of three p_or_q) (0 ∷ 1 ∷ 2 ∷ [])

pub taken_back_so :
    taken_back
    ≡ map (λ t. record { answer = accepted tt; lent = t })
    (lined (sheet 2 (root 3 ∷ any_of 2 ∷ P ∷ Q ∷ P ∷ not_P ∷ [])) (pos 0 ∷ neg 0 ∷ neg 0 ∷ neg 300 ∷ []) 2
    ∷ lined (sheet 2 (root 3 ∷ any_of 2 ∷ P ∷ Q ∷ not_Q ∷ not_P ∷ [])) (neg 1 ∷ neg 0 ∷ neg 0 ∷ neg 300 ∷ []) 2
    ∷ lined (sheet 2 (root 3 ∷ any_of 2 ∷ P ∷ Q ∷ not_Q ∷ P ∷ [])) (neg 1 ∷ pos 0 ∷ neg 0 ∷ neg 300 ∷ []) 2
    ∷ [])
unfolding definitions samples p_or_q three taken_back
taken_back_so = refl

-- Line 40 of 64: the lines 0 to 39, then 41 to 63, and the last slot as it was. Line v names option v, plain.
unfoldable pub line_40_taken_back : Outcome State (Unit {0})
line_40_taken_back =
    withdraw_of
    (lined (sheet 64 (root 0 ∷ [])) (map (λ v. pos v) (numbers 0 64)) 64)
    (book_of (64 ∷ 0 ∷ 0 ∷ 0 ∷ []) (joined (map (λ v. (65 + v % 26) ∷ (65 + v / 26) ∷ replicate 11 0) (numbers 0 64))) [] [])
    40

pub line_40_taken_back_so :
    line_40_taken_back
    ≡ record {
      answer = accepted tt;
      lent =
          lined
          (sheet 64 (root 63 ∷ map (λ v. plain v) (numbers 0 40 ++ numbers 41 23)))
          (map (λ v. pos v) (numbers 0 40 ++ numbers 41 23 ++ (63 ∷ [])))
          63;
    }
unfolding definitions samples line_40_taken_back
line_40_taken_back_so = refl

-- "A count over 64, another number of slots, a counted line naming no option .. is refused 11"; the last line of "64 slots" may be
-- counted, and what stands past the count is not looked at. A count that 8 or 16 bits would take for 0 is over 64 too.
unfoldable pub slots : ℕ → ℕ → Literal → List ℕ
slots many count l =
    let s = sheet 1 (root 0 ∷ []) in
    let t : State = record { sheet = s; lines = replicate many l; count = count } in
    said (key_of t 0 false).answer ∷ said (withdraw_of t (book ("P" ∷ []) []) 0).answer ∷ []

unfoldable pub lines_judged : List (List ℕ)
lines_judged =
    slots 64 63 (pos 0)
    ∷ slots 64 64 (neg 0)
    ∷ slots 64 65 (pos 0)
    ∷ slots 63 1 (pos 0)
    ∷ slots 65 1 (pos 0)
    ∷ slots 0 0 (pos 0)
    ∷ slots 64 1 (pos 1)
    ∷ slots 64 0 (neg 65535)
    ∷ slots 64 256 (pos 0)
    ∷ slots 64 65536 (pos 0)
    ∷ []

pub lines_judged_so :
    lines_judged
    ≡ (0 ∷ 0 ∷ [])
    ∷ (14 ∷ 0 ∷ [])
    ∷ (11 ∷ 11 ∷ [])
    ∷ (11 ∷ 11 ∷ [])
    ∷ (11 ∷ 11 ∷ [])
    ∷ (11 ∷ 11 ∷ [])
    ∷ (11 ∷ 11 ∷ [])
    ∷ (0 ∷ 13 ∷ [])
    ∷ (11 ∷ 11 ∷ [])
    ∷ (11 ∷ 11 ∷ [])
    ∷ []
unfolding definitions samples slots lines_judged
lines_judged_so = refl

-- Whichever counted line it is that names no option, plain or barred: neither of two; the first; the second; the last of 64, by a number
-- that 8 bits would take for 0.
unfoldable pub each_line_judged : List ℕ
each_line_judged =
    let s = sheet 1 (root 0 ∷ []) in
    map (λ ls. said (key_of (lined s ls 2) 0 false).answer)
    ((pos 0 ∷ neg 0 ∷ []) ∷ (neg 1 ∷ pos 0 ∷ []) ∷ (pos 0 ∷ pos 1 ∷ []) ∷ (pos 0 ∷ neg 1 ∷ []) ∷ [])
    ++ (said (withdraw_of (lined s (replicate 63 (pos 0) ++ (neg 256 ∷ [])) 64) (book ("P" ∷ []) []) 0).answer ∷ [])

pub each_line_judged_so : each_line_judged ≡ 0 ∷ replicate 4 11
unfolding definitions samples each_line_judged
each_line_judged_so = refl

-- "Refusal 8 applies if book weight plus twice the remaining lines is over 4,096": 4,094 with one line left, and with two.
unfoldable pub room_left : List ℕ
room_left =
    let s = sheet 1 (root 0 ∷ []) in
    let b = book ("P" ∷ []) ((any_of 2046 ∷ replicate 2046 P) ∷ []) in
    map (λ n. said (withdraw_of (lined s (replicate 64 (pos 0)) n) b 0).answer) (1 ∷ 2 ∷ 3 ∷ [])

pub room_left_so : room_left ≡ 0 ∷ 0 ∷ 8 ∷ []
unfolding definitions samples room_left
room_left_so = refl
