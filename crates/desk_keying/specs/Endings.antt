-- Where the first line of the input ends; the option that a line asks for; the answer of a line that is keyed.
use Rattle.std.specs.Prelude.{◌||◌, List, [], ◌∷◌, ℕ, suc, eqb}
use Rattle.model.specs.Base.{pick}
use Rattle.calls.specs.Refusals.{option_refused}
use Rattle.calls.specs.Outcomes.{Answer, refused, accepted, Outcome}
use Rattle.calls.specs.Lines.{State}
use Rattle.calls.specs.Calls.{lookup_of}
use Rattle.calls.specs.Desk.{keyed}

-- The bytes before the first line end, or all of them.
unfoldable pub ending : List ℕ → ℕ
ending [] = 0
ending (x ∷ xs) = pick (eqb x 10) 0 (suc (ending xs))

-- The option of a line: a sign, plus or minus, and a code.
unfoldable pub asked : List ℕ → List ℕ → Answer ℕ
asked book [] = refused option_refused
asked book (x ∷ code) = pick (eqb x 43 || eqb x 45) (lookup_of book code) (refused option_refused)

-- A number, where the answer beside it is no refusal.
unfoldable pub with_option : Answer ℕ → Answer (Unit {0}) → Answer ℕ
with_option a (refused r) = refused r
with_option a (accepted u) = a

-- What a line answers, with the option that it keyed, and what it leaves of the sheet.
unfoldable pub line_keyed : List ℕ → List ℕ → State → Outcome (List ℕ) ℕ
line_keyed book l t =
    record { answer = with_option (asked book l) (keyed book l t).answer; lent = (keyed book l t).lent.sheet }
