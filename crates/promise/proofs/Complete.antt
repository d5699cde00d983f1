-- What `Complete` says, as a pair.
use Rattle.std.specs.Prelude.{Bool, true, List, ◌⊎◌, ◌↔◌, ◌≡◌, ℕ, ◌<◌}
use Rattle.model.specs.Literal.{pos, neg}
use Rattle.model.specs.Clauses.{Clause, Derived, Contradictory}
use Rattle.promise.specs.Complete.{Complete}

pub complete_as_pair :
    (n : ℕ) (cs : List Clause) (named : ℕ → Bool) →
    Complete n cs named
    ↔ ((Contradictory cs → ⊥) × ((v : ℕ) → v < n → named v ≡ true → Derived cs (pos v) ⊎ Derived cs (neg v)))
complete_as_pair n cs named = ((λ c. (c.consistent, c.decided)), λ c. record { consistent = c.0; decided = c.1 })
