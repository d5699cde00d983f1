-- `search_place::least_inner` meets its contract: the rule's number says which search it is.
use mathlib.Core.Path.{◌≡◌, sym, subst}
use Prim.Native.Nat.{ℕ}
use native.Mathlib.Omega.{arith}
use Rattle.model.specs.Strategy.{least_j}
use Rattle.theory_rewriting.specs.Heads.{Headed}
use Rattle.theory_reading.specs.Stretches.{forest_in}
use Rattle.search_place.specs.Redexes.{spot_of}
use Rattle.search_place.proofs.least_inner.Goals as goal
use Rattle.search_place.proofs.least_inner.Goals.{In_default, in_default-via-then-rule-lt11, in_default-via-else-rule-lt11+else-rule-lt13}

-- Past 13 and the range the rule is the last one.
last : (c : goal.In_default) → c.args.rule ≡ 14
last c = elim c.in_default.branch [
  | in_default-via-then-rule-lt11 w ↦ omega arith
  | in_default-via-else-rule-lt11+else-rule-lt13 w ↦ omega arith
]

pub least_factored-requires : goal.least_factored-requires
least_factored-requires c =
    let h = subst (λ r. Headed r c.args.part.now) (last (goal.at.least_factored-requires c).In_default) c.requires.headed in
    record { stretch = c.requires.stretch; headed = h; i_bound = c.requires.i_bound; sizes_of = c.requires.sizes_of }

pub returns-in_default : goal.returns-in_default
returns-in_default c =
    let a = c.args in
    subst (λ r. (p : ℕ) → spot_of r p c.least_factored.result ≡ least_j r p a.i (forest_in a.part.now))
    (sym (last (goal.at.returns-in_default c).In_default)) c.least_factored.ensures
