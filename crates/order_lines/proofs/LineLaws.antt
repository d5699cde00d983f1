-- A line stored, as the definitions have it.
use mathlib.Core.List.{List, [], ◌∷◌}
use mathlib.Core.Path.{◌≡◌, refl, ap}
use Prim.Native.Nat.{ℕ, zero, suc}
use lib.ListN.{set}
use Rattle.order_lines.specs.declared.Line.{Line}
use Rattle.order_lines.specs.LineMeaning.{line_of, lines_of}

pub lines_set : (ls : List Line) (i : ℕ) (d : Line) → lines_of (set ls i d) ≡ set (lines_of ls) i (line_of d)
lines_set [] i d = refl
lines_set (x ∷ ls) zero d = refl
lines_set (x ∷ ls) (suc i) d = ap (λ r. line_of x ∷ r) (lines_set ls i d)
