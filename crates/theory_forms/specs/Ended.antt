-- What rules 16 and 17 make of "at least a of these", in one relation: what a node becomes where its number decides it.
use Rattle.std.specs.Prelude.{◌≡◌, ℕ, ◌<◌}
use Rattle.model.specs.Forest.{Conn, and, or, Forest, nil, size}

-- `Ended a k d m`: at least a of the members k are what the connective d makes of the children m.
pub data Ended : ℕ → Forest → Conn → Forest → Type 0 where
  none_asked : {a : ℕ} {k : Forest} → a ≡ 0 → Ended a k and nil
  too_many : {a : ℕ} {k : Forest} → size k < a → Ended a k or nil
  one_asked : {a : ℕ} {k : Forest} → a ≡ 1 → Ended a k or k
  all_asked : {a : ℕ} {k : Forest} → a ≡ size k → Ended a k and k
