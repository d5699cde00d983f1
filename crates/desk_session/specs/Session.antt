-- What the desk program prints, part by part, and where it goes.
use Rattle.std.specs.Prelude.{Bool, List, [], ◌++◌, ℕ, ltb, length, replicate}
use Rattle.model.specs.Base.{pick}
use Rattle.model.specs.Book.{codes_of}
use Rattle.calls.specs.Outcomes.{Outcome}
use Rattle.calls.specs.Calls.{Ran, report_of}
use Rattle.calls.specs.Desk.{printed, first_line, option_lines, screen_length, desk_of}
use Rattle.common_decimal.specs.Placed.{Written, after, filled}

-- What is printed of a report, after a run.
unfoldable pub told_lines : List ℕ → Ran → Outcome (List ℕ) Bool → List ℕ
told_lines book ran told =
    printed told.answer
    (λ contradictory. first_line contradictory ran ++ pick contradictory [] (option_lines (codes_of book) told.lent))

-- What is printed of a run.
unfoldable pub ran_lines : List ℕ → Outcome (List ℕ) Ran → List ℕ
ran_lines book done =
    printed done.answer (λ ran. told_lines book ran (report_of done.lent (replicate screen_length 0)))

-- The room that every output fits in: 512 lines of 19 bytes, and a first line.
abbrev pub room : ℕ
room = 16384

-- A buffer with less room is left as it was, and the count is 0.
unfoldable pub session_of : List ℕ → List ℕ → List ℕ → Written
session_of book input out = pick (ltb (length out) room) (after 0 out) (filled (desk_of book input) out)
