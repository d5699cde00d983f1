-- `search_place::least_ended` meets its contract: child 0 and inner child 0, or nowhere.
use mathlib.Core.Bool.{Bool, true, false}
use mathlib.Core.List.{List}
use mathlib.Core.Path.{◌≡◌, sym}
use Prim.Native.Nat.{ℕ, ◌≤◌}
use Rattle.std.specs.Bool.{then_some}
use Rattle.model.specs.Base.{is_some}
use Rattle.model.specs.Rules.{rewrite}
use Rattle.model.specs.Strategy.{least_i}
use Rattle.theory_reading.specs.Stretches.{forest_in}
use Rattle.search_place.specs.Redexes.{spot_of}
use Rattle.search_place.proofs.FirstChildren.{ended_found, ended_none}
use Rattle.search_place.proofs.least_ended.Goals as goal

told :
    (r : ℕ) (l : List ℕ) →
    16 ≤ r →
    (b : Bool) →
    b ≡ is_some (rewrite r 0 0 (forest_in l)) →
    (p : ℕ) →
    spot_of r p (then_some b (record { i = 0; j = 0 })) ≡ least_i r p (forest_in l)
told r l low true e = ended_found l low (sym e)
told r l low false e = ended_none l low (sym e)

pub returns : goal.returns
returns c =
    rw c.then_some.ensures (told c.args.rule c.args.part.now c.requires.le_rule.0 c.ends.result c.ends.ensures)
