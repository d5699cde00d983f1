-- The places that a step may change, as a run by bounds needs them.
use Rattle.std.specs.Prelude.{List, ◌≡◌, ℕ, ◌+◌, ◌-◌, ◌≤◌, ◌<◌, length, drop}
use Rattle.model.specs.Base.{maybe}
use Rattle.model.specs.Limits.{sheet_room}
use Rattle.model.specs.Code.{Node}
use Rattle.model.specs.Rules.{step}
use Rattle.theory_rewriting.specs.Turns.{family_at}
use Rattle.locality.specs.Zones as L
use Rattle.locality.specs.Locality.{Level}
use Rattle.search_place.specs.declared.Redex.{Redex}
use Rattle.run_bounds_after.specs.declared.Zone.{Zone}

-- The nodes after a step, where it applies.
unfoldable pub after_step : Redex → List Node → List Node
after_step x ns = maybe ns (λ ms. ms) (step x.rule x.place x.i x.j ns)

-- The step's own zone.
abbrev pub own_zone : Redex → List Node → L.Zone
own_zone x ns = L.zone (family_at x.rule) x.place x.i x.j ns (after_step x ns)

-- The zone lies from the place on and within the step's own; from `new` on the nodes are the old ones from `old` on. Of rules 9
-- and 10 it is the tree at the place. But for rule 14, `old` is past `new` by as many as there are nodes fewer.
pub record Zoned (x : Redex) (ns : List Node) (z : Zone) : Type 0 where
  pub place_from : x.place ≤ z.from
  pub from_new : z.from ≤ z.new
  pub new_old : z.new ≤ z.old
  pub old_within : z.old ≤ sheet_room
  pub before : z.from ≤ (own_zone x ns).from
  pub after : (q : ℕ) → z.new ≤ q → q < length (after_step x ns) →
      (drop q (after_step x ns) ≡ drop (q + (z.old - z.new)) ns)
      × (q + (z.old - z.new) < length ns)
  pub shift : (x.rule ≡ 14 → ⊥) → z.new + length ns ≡ z.old + length (after_step x ns)
  pub level : Level x.rule → z.old ≡ z.new
  pub spread : 9 ≤ x.rule → x.rule ≤ 10 →
      (z.from ≡ x.place)
      × (z.new ≡ L.tree_end x.place ns)
