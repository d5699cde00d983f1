-- The refusals and their numbers.
use Rattle.std.specs.Prelude.{Bool, ℕ}
use Rattle.std.proofs.Math.Option.{Option}
use Rattle.model.specs.Base.{only_if, first_of}

-- "Who can cause which refusal." Document 02, U2: "13 no such line; 14 list full." U7: "15 text of any other form", 16 one that is too
-- large for a book.
pub data Refusal : Type 0 where
  length_refused head_refused code_refused contents_refused body_refused weight_refused : Refusal
  option_refused full_refused : Refusal
  rule_refused step_refused : Refusal
  sheet_refused output_refused : Refusal
  line_refused list_refused : Refusal
  text_refused size_refused : Refusal

-- "A refusal is its number alone."
unfoldable pub refusal_number : Refusal → ℕ
refusal_number length_refused = 1
refusal_number head_refused = 2
refusal_number code_refused = 3
refusal_number contents_refused = 4
refusal_number body_refused = 5
refusal_number weight_refused = 6
refusal_number option_refused = 7
refusal_number full_refused = 8
refusal_number rule_refused = 9
refusal_number step_refused = 10
refusal_number sheet_refused = 11
refusal_number output_refused = 12
refusal_number line_refused = 13
refusal_number list_refused = 14
refusal_number text_refused = 15
refusal_number size_refused = 16

-- A refusal where its condition holds, and the first of several that are due.
abbrev pub due : Bool → Refusal → Option Refusal
due = only_if

infixr 20 ◌or_else◌
abbrev pub ◌or_else◌ : Option Refusal → Option Refusal → Option Refusal
◌or_else◌ = first_of
