-- A table after a step: what moved with its nodes, and what is forgotten.
use Rattle.std.specs.Prelude.{List, ◌++◌, ◌≡◌, ℕ, ◌+◌, ◌-◌, ◌≤◌, ◌<◌, get_or, take, drop, replicate}
use Rattle.model.specs.Limits.{sheet_room}
use Rattle.run_bounds_after.specs.declared.Plan.{Plan}

-- A zone and three places that lie in a table.
pub record Planned (p : Plan) : Type 0 where
  pub from_new : p.zone.from ≤ p.zone.new
  pub new_old : p.zone.new ≤ p.zone.old
  pub old_within : p.zone.old ≤ sheet_room
  pub place_within : p.place < sheet_room
  pub inner_before : p.inner ≤ p.place
  pub outer_before : p.outer ≤ p.inner

-- The entries from `old` on stand from `new` on, those between are gone, and zeros follow.
abbrev pub close_up : ℕ → ℕ → List ℕ → List ℕ
close_up new old t = take new t ++ (drop (new + (old - new)) t ++ replicate (old - new) 0)

-- A place that is none of the three.
pub record Apart (p : Plan) (q : ℕ) : Type 0 where
  pub place : q ≡ p.place → ⊥
  pub inner : q ≡ p.inner → ⊥
  pub outer : q ≡ p.outer → ⊥

-- The three entries are 1; of the others those before the zone stay, and those from `old` on stand from `new` on.
pub record Moved (p : Plan) (t u : List ℕ) : Type 0 where
  pub at_place : get_or u p.place 0 ≡ 1
  pub at_inner : get_or u p.inner 0 ≡ 1
  pub at_outer : get_or u p.outer 0 ≡ 1
  pub before : (q : ℕ) → q < p.zone.from → Apart p q → get_or u q 0 ≡ get_or t q 0
  pub after : (q : ℕ) → p.zone.new ≤ q → q + (p.zone.old - p.zone.new) < sheet_room → Apart p q →
      get_or u q 0 ≡ get_or t (q + (p.zone.old - p.zone.new)) 0

-- Besides, those of the zone are 1.
pub record Renewed (p : Plan) (t u : List ℕ) : Type 0 where
  pub moved : Moved p t u
  pub zone : (q : ℕ) → p.zone.from ≤ q → q < p.zone.new → get_or u q 0 ≡ 1
