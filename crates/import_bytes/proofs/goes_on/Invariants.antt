-- `import_bytes::goes_on` meets its contract. Invariant: what was read and what is left of the bytes decide.
use mathlib.Core.Bool.{◌&&◌, Bool}
use mathlib.Core.Path.{◌≡◌}
use Prim.Native.Nat.{ℕ}
use lib.ListN.{drop}
use Rattle.model.specs.Base.{all}
use Rattle.theory_texts.specs.Comments.{no_end}
use mathlib.Core.List.{List}
use Rattle.import_bytes.proofs.goes_on.Given as goal

-- No 10 from a place on.
abbrev pub on_from : ℕ → List ℕ → Bool
on_from i s = all no_end (drop i s)

abbrev pub invariant-loop-b : goal.invariant-loop-b
invariant-loop-b l = all no_end l.s ≡ (l.on && on_from l.b-index l.s)
