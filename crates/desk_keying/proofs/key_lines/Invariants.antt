-- `desk_keying::key_lines` meets its contract. Invariant: what is left to key, on the order as it is, gives what all lines give on the first.
use mathlib.Core.Path.{◌≡◌}
use Prim.Native.Nat.{◌-◌, ◌≤◌}
use lib.ListN.{length, drop}
use Rattle.calls.specs.Desk.{lines, all_keyed, with_no_lines}
use Rattle.call_answers.specs.AnswerMeaning.{on_sheet}
use Rattle.order_lines.specs.LineMeaning.{order}
use Rattle.desk_keying.proofs.key_lines.Given as goal

abbrev pub invariant-loop-at : goal.invariant-loop-at
invariant-loop-at l =
    (l.at ≤ length l.input)
    × (length l.sheet ≡ length l.initial.sheet)
    × (on_sheet (all_keyed l.book (lines (drop l.at l.input)) (order l.sheet l.keyed l.count))
    ≡ on_sheet (all_keyed l.book (lines l.input) (with_no_lines l.initial.sheet)))

abbrev pub decreases-loop-at : goal.decreases-loop-at
decreases-loop-at l = length l.input - l.at
