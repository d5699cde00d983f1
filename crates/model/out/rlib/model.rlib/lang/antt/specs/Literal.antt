-- Literals: an option taken or barred.
use Rattle.std.specs.Prelude.{Bool, false, List, ℕ, eqb}
use Rattle.model.specs.Base.{pick, any}

-- "Kind 1 is an option, 2 the same option barred. Kinds 1 and 2 are marks." Document 01's mark is a literal here.
pub data Literal : Type 0 where
  pos : ℕ → Literal
  neg : ℕ → Literal

-- The literal of an option, "plain or barred".
unfoldable pub literal : ℕ → Bool → Literal
literal v negative = pick negative (neg v) (pos v)

-- Document 01's "opposite".
unfoldable pub complement : Literal → Literal
complement (pos v) = neg v
complement (neg v) = pos v

-- The option that a literal names.
unfoldable pub option : Literal → ℕ
option (pos v) = v
option (neg v) = v

unfoldable pub same : Literal → Literal → Bool
same (pos v) (pos w) = eqb v w
same (pos v) (neg w) = false
same (neg v) (pos w) = false
same (neg v) (neg w) = eqb v w

-- The literal is among the literals of a list.
unfoldable pub has : Literal → List Literal → Bool
has l ls = any (same l) ls
