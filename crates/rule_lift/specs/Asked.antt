-- What the rules ask of the children of the group that a list of numbers begins with.
use Rattle.std.specs.Prelude.{Bool, ◌&&◌, List, ℕ, ◌+◌, ◌-◌, ltb, get_or}
use Rattle.std.proofs.Math.Seq.{slice}
use Rattle.model.specs.Base.{all}
use Rattle.model.specs.Code.{children}
use Rattle.theory_forms.specs.Scan.{is_literal}
use Rattle.theory_reading.specs.Spans.{child_at}

-- Child j is there, and a literal.
unfoldable pub literal_child : ℕ → List ℕ → Bool
literal_child j l = ltb j (children (get_or l 0 0)) && is_literal (get_or l (child_at j l) 0)

-- Of k children, as many numbers as there are before child i are literals, and as many as there are after it.
unfoldable pub others_literal : ℕ → ℕ → List ℕ → Bool
others_literal i k l =
    let next = child_at (i + 1) l in
    all is_literal (slice 1 (1 + i) l) && all is_literal (slice next (next + (k - 1 - i)) l)
