-- What a line of the code is in the definitions: its mark, by its option and its sense.
use Rattle.std.specs.Prelude.{Bool, false, List, map, ℕ}
use Rattle.model.specs.Literal.{literal}
use Rattle.calls.specs.Lines as M
use Rattle.order_lines.specs.declared.Line.{Line}

abbrev pub line : ℕ → Bool → Line
line v negative = record { option = v; negative = negative }

-- What stands where no line is.
abbrev pub blank : Line
blank = line 0 false

abbrev pub line_of : Line → M.Line
line_of d = literal d.option d.negative

abbrev pub lines_of : List Line → List M.Line
lines_of = map line_of

-- A sheet, its lines and their count, as they are lent.
abbrev pub order : List ℕ → List Line → ℕ → M.State
order s ls count = record { sheet = s; lines = lines_of ls; count = count }
