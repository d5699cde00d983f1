-- What a step will change, as it is seen before the step.
use Rattle.std.specs.Prelude.{List, ◌⊎◌, ◌≡◌, ℕ, ◌≤◌, ◌<◌}
use Rattle.model.specs.Code.{Node}
use Rattle.locality.specs.Zones.{Holds, Twice}
use Rattle.search_place.specs.declared.Redex.{Redex}
use Rattle.run_bounds_after.specs.declared.Plan.{Plan}
use Rattle.run_bounds_after.specs.Zoned.{Zoned}

-- Its zone, its place, and the two nearest places that hold its place, as a table of sizes tells them.
pub record Foreseen (x : Redex) (ns : List Node) (p : Plan) : Type 0 where
  pub zoned : Zoned x ns p.zone
  pub place : p.place ≡ x.place
  pub inner_before : p.inner ≤ x.place
  pub outer_before : p.outer ≤ p.inner
  pub nearest : (q : ℕ) → Holds q x.place ns → (q ≡ p.inner) ⊎ ((q < p.inner) × ((q ≡ p.outer) ⊎ Twice q x.place ns))
