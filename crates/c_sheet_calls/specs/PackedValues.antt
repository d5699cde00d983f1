-- The value of a run, beside its refusal in one number.
use Rattle.std.specs.Prelude.{ℕ, ◌+◌, ◌*◌}
use Rattle.model.specs.Base.{pick}
use Rattle.calls.specs.Outcomes.{Answer}
use Rattle.calls.specs.Calls.{Ran}
use Rattle.c_calls.specs.Packed.{packed}

-- A run: twice the count, plus 1 where it is settled.
abbrev pub packed_ran : Answer Ran → ℕ
packed_ran = packed (λ r. pick r.settled (2 * r.count + 1) (2 * r.count))
