-- `order_lines::move_up` meets its contract: from k + 1 up to `last` there are `last` - k lines, and what follows them stands from `last` on.
use mathlib.Core.List.{List, append_assoc}
use mathlib.Core.Path.{◌≡◌, ◌∙◌}
use Prim.Native.Nat.{ℕ, ◌+◌, ◌-◌, ◌≤◌}
use native.Mathlib.Omega.{arith}
use lib.ListN.{take, drop}
use Rattle.std.specs.List.{copy_within}
use Rattle.order_lines.specs.LentLines.{moved_up}
use Rattle.order_lines.proofs.move_up.Goals as goal

copied_within : {A : Type 0} (k last : ℕ) (l : List A) → k ≤ last → copy_within l (k + 1) (last + 1) k ≡ moved_up k last l
unfolding moved_up
copied_within k last l h =
    let many : last + 1 - (k + 1) ≡ last - k = omega arith in
    let end : k + (last - k) ≡ last = omega arith in
    rw (many, end) (append_assoc (take k l) (take (last - k) (drop (k + 1) l)) (drop last l))

pub returns : goal.returns
returns c =
    let a = c.args in
    c.copy_within.ensures.after
    ∙ rw (c.new.ensures.start, c.new.ensures.end) (copied_within a.k a.last a.lines.now c.requires.0)
