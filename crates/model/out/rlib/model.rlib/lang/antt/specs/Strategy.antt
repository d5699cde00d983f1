-- The strategy's next step, and runs of it.
use Rattle.std.specs.Prelude.{Bool, true, false, List, ℕ, zero, suc, ◌+◌, ◌*◌, length, drop}
use Rattle.std.proofs.Math.Option.{Option}
use Rattle.model.specs.Base.{only_if, is_some, least, then, maybe}
use Rattle.model.specs.Forest.{Forest, size, after, kids}
use Rattle.model.specs.Code.{Node, decode, literals, leasts}
use Rattle.model.specs.Rules.{rewrite, step}
use Rattle.model.specs.Limits.{last_rule}

-- "A step names rule, place, child i and inner child j."
pub record Redex : Type 0 where
  pub rule : ℕ
  pub place : ℕ
  pub i : ℕ
  pub j : ℕ

abbrev pub redex : ℕ → ℕ → ℕ → ℕ → Redex
redex r p i j = record { rule = r; place = p; i = i; j = j }

-- The least j, the least i and the least place at which a rule applies. An i that names no child and a j that names no inner
-- child apply nowhere, but for 0 where it has no use: so each is looked for among one number more than there are.
unfoldable pub least_j : ℕ → ℕ → ℕ → Forest → Option Redex
least_j r p i f =
    least (suc (size (kids (after i (kids f))))) (λ j. only_if (is_some (rewrite r i j f)) (redex r p i j))

unfoldable pub least_i : ℕ → ℕ → Forest → Option Redex
least_i r p f = least (suc (size (kids f))) (λ i. least_j r p i f)

unfoldable pub least_place : ℕ → List Node → Option Redex
least_place r ns = least (length ns) (λ p. least_i r p (decode (drop p ns)))

-- "The house step is the applicable one with lowest rule, then place, i, j."
unfoldable pub next : List Node → Option Redex
next ns = least last_rule (λ r. least_place (suc r) ns)

unfoldable pub contract : Redex → List Node → Option (List Node)
contract x ns = step x.rule x.place x.i x.j ns

unfoldable pub next_step : List Node → Option (List Node)
next_step ns = then (next ns) (λ x. contract x ns)

pub record Run : Type 0 where
  pub settled : Bool
  pub count : ℕ
  pub nodes : List Node

-- One step before a run.
unfoldable pub one_more : Run → Run
one_more r = record { settled = r.settled; count = suc r.count; nodes = r.nodes }

-- "It says settled when no rule applies; it says stopped when the budget's steps are done and a rule still applies. The count
-- of steps returned is the number of house steps done."
unfoldable pub run : ℕ → List Node → Run
run zero ns = record { settled = maybe true (λ x. false) (next ns); count = zero; nodes = ns }
run (suc b) ns =
    maybe (record { settled = true; count = zero; nodes = ns }) (λ ms. one_more (run b ms)) (next_step ns)

-- "The cube of n + 2l, for n nodes and l option marks"; "the step bound counts each kind 6 node twice": no stretch does more steps
-- from nodes like these.
abbrev pub cube : ℕ → ℕ
cube x = x * x * x

abbrev pub most_steps : List Node → ℕ
most_steps ns = cube (length ns + leasts ns + 2 * literals ns)
