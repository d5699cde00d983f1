-- `import_codes::put_codes` meets its contract. Invariant: the codes of the options passed stand at the start.
use mathlib.Core.List.{◌++◌, flatten}
use mathlib.Core.Path.{◌≡◌}
use Prim.Native.Nat.{◌*◌}
use lib.ListN.{length, drop}
use Rattle.model.specs.Limits.{code_length}
use Rattle.texts.specs.ClauseBook.{codes_to}
use Rattle.import_codes.proofs.put_codes.Given as goal

abbrev pub invariant-loop-i : goal.invariant-loop-i
invariant-loop-i l = (length l.out ≡ length l.initial.out) × (l.out ≡ flatten (codes_to l.i) ++ drop (code_length * l.i) l.initial.out)
