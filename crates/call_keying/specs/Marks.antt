-- What is tested of a keying once the sheet and the lines are known to be good: of the lines it needs the count alone.
use Rattle.std.specs.Prelude.{not, List, ℕ, eqb}
use Rattle.std.proofs.Math.Option.{Option}
use Rattle.calls.specs.Refusals.{Refusal, due, ◌or_else◌, list_refused, option_refused, full_refused}
use Rattle.calls.specs.Lines.{most_lines}
use Rattle.calls.specs.Conditions.{has_option, is_full}

unfoldable pub mark_refusal : List ℕ → ℕ → ℕ → Option Refusal
mark_refusal s count v =
    due (eqb count most_lines) list_refused
    or_else due (not (has_option s v)) option_refused
    or_else due (is_full s) full_refused
