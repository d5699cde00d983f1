-- `search_common::hold_all` meets its contract. Invariant: a literal that all children share has reached the conjunctions passed.
use mathlib.Core.Path.{◌≡◌}
use Prim.Native.Nat.{◌<◌, ◌-◌, ◌≤◌}
use lib.ListN.{length}
use Rattle.search_common.specs.Held.{literal_numbers}
use Rattle.search_common.proofs.Passing.{Passing}
use Rattle.search_common.proofs.hold_all.Given as goal

abbrev pub invariant-loop : goal.invariant-loop
invariant-loop l = (l.groups < l.at) × (l.at ≤ length l.part) × (length l.held ≡ literal_numbers) × Passing l.groups l.part l.held (l.end - l.counter) l.at
