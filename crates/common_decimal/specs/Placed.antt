-- Bytes written at the start of a buffer: how many, and what the buffer holds then.
use Rattle.std.specs.Prelude.{List, ℕ, length}
use Rattle.model.specs.Base.{placed}

pub record Written : Type 0 where
  pub count : ℕ
  pub buffer : List ℕ

-- A count that was answered, with the buffer as it was left.
abbrev pub after : ℕ → List ℕ → Written
after n l = record { count = n; buffer = l }

-- Bytes at the start; what stood beyond them stays.
unfoldable pub filled : List ℕ → List ℕ → Written
filled bytes old = record { count = length bytes; buffer = placed bytes old }
