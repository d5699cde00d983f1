-- What the cases of clause files are spelled with: imports into an output of 200 bytes that hold 7 each, and what may come of them.
use Rattle.std.specs.Prelude.{List, ◌++◌, ℕ, ◌-◌, length, replicate}
use Prim.Native.String.{String}
use Rattle.calls.specs.Refusals.{text_refused}
use Rattle.calls.specs.Outcomes.{refused, accepted, Outcome}
use Rattle.calls.specs.Calls.{import_of}
use Rattle.case_samples.specs.Samples.{text, book}

-- The import of these bytes.
unfoldable pub read : List ℕ → Outcome (List ℕ) ℕ
read bytes = import_of bytes (replicate 200 7)

-- The import of this text; of the file below with this before its p line, with this for its p line and the line's end, with this after it.
unfoldable pub imports : String → Outcome (List ℕ) ℕ
imports t = read (text t)

unfoldable pub with_before : String → Outcome (List ℕ) ℕ
with_before t = read (text t ++ text "p cnf 2 2\n1 -2 0\n2 0\n")

unfoldable pub with_p_line : String → Outcome (List ℕ) ℕ
with_p_line t = read (text t ++ text "1 -2 0\n2 0\n")

unfoldable pub with_after : String → Outcome (List ℕ) ℕ
with_after t = read (text "p cnf 2 2\n" ++ text t)

-- The book of these codes and rules: its length is the answer, and the bytes beyond stay.
unfoldable pub gives : List String → List (List ℕ) → Outcome (List ℕ) ℕ
gives cs rs = record { answer = accepted (length (book cs rs)); lent = book cs rs ++ replicate (200 - length (book cs rs)) 7 }

-- "15 text of any other form": and nothing is written.
unfoldable pub no_file : Outcome (List ℕ) ℕ
no_file = record { answer = refused text_refused; lent = replicate 200 7 }

-- What all of these see through, by one name.
unfoldable pub spelling : Unit {0}
unfolding read imports with_before with_p_line with_after gives no_file
spelling = tt
