-- `common_members::are_members` meets its contract. Invariant: the numbers so far are members, and their options are marked.
use lib.ListN.{take, drop}
use Rattle.common_members.proofs.Seating.{Seated}
use Rattle.common_members.proofs.are_members.Given as goal

abbrev pub invariant-loop-i : goal.invariant-loop-i
invariant-loop-i g l = Seated (take l.count (drop l.from (g.N.Numbers.numbers l.numbers))) l.marks l.i
