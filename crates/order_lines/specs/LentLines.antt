-- Lent lines of an order: which of them may be read, what is copied of them, and what stands there once they have moved up.
use Rattle.std.specs.Prelude.{ℕ, ◌+◌, ◌-◌, ◌&&◌, List, ◌++◌, eqb, leb, length, take, drop, replicate}
use Rattle.model.specs.Base.{pick}
use Rattle.calls.specs.Lines.{most_lines}
use Rattle.order_lines.specs.declared.Line.{Line}
use Rattle.order_lines.specs.LineMeaning.{blank}

-- The count, where there are 64 slots and no more lines than slots; else none.
unfoldable pub readable : ℕ → ℕ → ℕ
readable slots count = pick (eqb slots most_lines && leb count most_lines) count 0

-- The count, where there are 64 slots; else one that no lines in order have.
unfoldable pub judged : ℕ → ℕ → ℕ
judged slots count = pick (eqb slots most_lines) count (most_lines + 1)

-- The lines that may be read, then blank ones, 64 in all.
unfoldable pub copied_lines : List Line → ℕ → List Line
copied_lines l count =
    take (readable (length l) count) l ++ replicate (most_lines - readable (length l) count) blank

-- From place k, each element takes the place before it, up to place m, which keeps what it held.
unfoldable pub moved_up : {A : Type 0} → ℕ → ℕ → List A → List A
moved_up k m l = take k l ++ (take (m - k) (drop (k + 1) l) ++ drop m l)
