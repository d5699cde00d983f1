-- A rule that looks for constants among the children.
use Rattle.std.specs.Prelude.{◌||◌, List, ◌≡◌, ℕ, ◌<◌, eqb, get_or}
use Rattle.model.specs.Base.{is_some}
use Rattle.model.specs.Code.{children}
use Rattle.model.specs.Rules.{rewrite}
use Rattle.theory_reading.specs.Spans.{child_at}
use Rattle.theory_reading.specs.Stretches.{forest_in}

-- With a child of the first tree it applies exactly where the child's number is one of the two.
abbrev pub Sought : ℕ → ℕ → ℕ → List ℕ → Type 0
Sought rule one other l =
    (i : ℕ) →
    i < children (get_or l 0 0) →
    (eqb (get_or l (child_at i l) 0) one || eqb (get_or l (child_at i l) 0) other) ≡ is_some (rewrite rule i 0 (forest_in l))
