-- An answer that may be missing, as a function gives it, and as the definitions write it.
use Rattle.std.specs.Prelude as P
use Rattle.std.proofs.Math.Option.{Option, none, some}
use mathlib.Core.Path.{◌≡◌, refl}

abbrev pub given : {A : Type 0} → P.Option A → Option A
given P.None = none
given (P.Some a) = some a

-- It keeps what is there, and makes up nothing.
pub given_none : {A : Type 0} → given {A = A} P.None ≡ none
given_none = refl

pub given_some : {A : Type 0} (a : A) → given (P.Some a) ≡ some a
given_some a = refl
