-- A count of trees that is compared with one that is due.
use mathlib.Core.Bool.{false}
use mathlib.Core.Option.{Option}
use mathlib.Core.Path.{◌≡◌}
use Prim.Native.Nat.{ℕ}
use lib.Dec.{eqb}
use Rattle.std.specs.Prelude as P
use Rattle.std.specs.Option.{option_eq}
use Rattle.model.specs.Base.{maybe}
use Rattle.common_lists.specs.Given.{given}

pub same_count : {o : Option ℕ} (r : P.Option ℕ) (k : ℕ) → given r ≡ o → option_eq eqb r (P.Some k) ≡ maybe false (λ t. eqb t k) o
unfolding maybe
same_count P.None k e = rw (← e)
same_count (P.Some t) k e = rw (← e)
