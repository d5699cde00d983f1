-- `import_bytes::past_comments` meets its contract: each comment line that is passed leaves the file.
use Prim.Native.Nat.{◌-◌}
use lib.ListN.{length}
use Rattle.import_bytes.proofs.CommentLines.{Past}
use Rattle.import_bytes.proofs.past_comments.Given as goal

abbrev pub invariant-loop-at : goal.invariant-loop-at
invariant-loop-at l = Past l.text l.at

abbrev pub decreases-loop-at : goal.decreases-loop-at
decreases-loop-at l = length l.text - l.at
