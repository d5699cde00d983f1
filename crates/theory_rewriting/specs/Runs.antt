-- Runs: a chain of exactly the counted strategy steps, which ends where no rule applies or where the budget is spent.
use Rattle.std.specs.Prelude.{Bool, true, false, List, ◌↔◌, ◌≡◌, refl, ℕ, zero, suc, ◌+◌, ◌-◌, ◌≤◌}
use Rattle.std.proofs.Math.Option.{Option, none, some}
use Rattle.std.proofs.Common.{sym, ap, ◌∙◌, zero-add, suc-add, add-zero, add-suc, arith}
use Rattle.model.specs.Base.{maybe}
use Rattle.model.specs.Code.{Node}
use Rattle.model.specs.Rules.{step, NoRule}
use Rattle.model.specs.Strategy.{Redex, next, contract, next_step, Run, one_more, run}
use Rattle.theory_forms.specs.Logic.{true_false, none_some}
use Rattle.theory_rewriting.specs.Strategy.{none_iff, next_step_some, next_step_none}

-- `StrategySteps k ns ms`: exactly k steps of the strategy lead from ns to ms.
pub data StrategySteps : ℕ → List Node → List Node → Type 0 where
  done : {ns : List Node} → StrategySteps 0 ns ns
  more : {k : ℕ} {ns ms os : List Node} → next_step ns ≡ some ms → StrategySteps k ms os → StrategySteps (suc k) ns os

-- Where no rule applies, a run is settled at once; a budget of one more does one step first.
pub run_none : (b : ℕ) (ns : List Node) → next ns ≡ none → run b ns ≡ record { settled = true; count = 0; nodes = ns }
unfolding run maybe
run_none zero ns e = rw e
run_none (suc b) ns e = rw ((next_step_none ns).1 e)

pub run_more : (b : ℕ) (ns : List Node) {ms : List Node} → next_step ns ≡ some ms → run (suc b) ns ≡ one_more (run b ms)
unfolding run maybe
run_more b ns e = rw e

-- How a run comes to its answer.
data Ran : ℕ → List Node → Run → Type 0 where
  settled_at_once : {b : ℕ} {ns : List Node} → next ns ≡ none → Ran b ns (record { settled = true; count = 0; nodes = ns })
  out_of_budget : {ns : List Node} {x : Redex} → next ns ≡ some x → Ran 0 ns (record { settled = false; count = 0; nodes = ns })
  one_step :
      {b : ℕ} {ns ms : List Node} {r : Run} →
      next_step ns ≡ some ms →
      Ran b ms r →
      Ran (suc b) ns (record { settled = r.settled; count = suc r.count; nodes = r.nodes })

ran : (b : ℕ) (ns : List Node) → Ran b ns (run b ns)
unfolding run maybe one_more
ran zero ns = go (next ns) refl
  where
    go : (o : Option Redex) → next ns ≡ o → Ran 0 ns (record { settled = maybe true (λ x. false) o; count = 0; nodes = ns })
    go none e = settled_at_once e
    go (some x) e = out_of_budget e
ran (suc b) ns = go (next_step ns) refl (ran b)
  where
    go :
        (o : Option (List Node)) →
        next_step ns ≡ o →
        ((ms : List Node) → Ran b ms (run b ms)) →
        Ran (suc b) ns (maybe (record { settled = true; count = 0; nodes = ns }) (λ ms. one_more (run b ms)) o)
    go none e h = settled_at_once ((next_step_none ns).0 e)
    go (some ms) e h = one_step e (h ms)

ran_steps : {b : ℕ} {ns : List Node} {r : Run} → Ran b ns r → StrategySteps r.count ns r.nodes
ran_steps (settled_at_once e) = done
ran_steps (out_of_budget e) = done
ran_steps (one_step e h) = more e (ran_steps h)

ran_settled : {b : ℕ} {ns : List Node} {r : Run} → Ran b ns r → (r.settled ≡ true) ↔ (next r.nodes ≡ none)
ran_settled (settled_at_once e) = ((λ t. e), λ t. refl)
ran_settled (out_of_budget e) = ((λ t. true_false (sym t)), λ t. none_some (sym t ∙ e))
ran_settled (one_step e h) = ran_settled h

ran_within : {b : ℕ} {ns : List Node} {r : Run} → Ran b ns r → r.count ≤ b
ran_within (settled_at_once e) = omega arith
ran_within (out_of_budget e) = omega arith
ran_within (one_step e h) = let l = ran_within h in omega arith

ran_stopped : {b : ℕ} {ns : List Node} {r : Run} → Ran b ns r → r.settled ≡ false → r.count ≡ b
ran_stopped (settled_at_once e) t = true_false t
ran_stopped (out_of_budget e) t = refl
ran_stopped (one_step e h) t = ap suc (ran_stopped h t)

-- A run does exactly the steps that it counts.
pub run_steps : (b : ℕ) (ns : List Node) → StrategySteps (run b ns).count ns (run b ns).nodes
run_steps b ns = ran_steps (ran b ns)

-- A run is settled exactly where no rule applies to what it leaves.
pub run_settled : (b : ℕ) (ns : List Node) → ((run b ns).settled ≡ true) ↔ NoRule (run b ns).nodes
run_settled b ns =
    let h = ran_settled (ran b ns) in
    let w = none_iff (run b ns).nodes in
    ((λ t. w.0 (h.0 t)), λ t. h.1 (w.1 t))

-- A run does no more steps than its budget; one that is not settled has spent it.
pub run_within : (b : ℕ) (ns : List Node) → (run b ns).count ≤ b
run_within b ns = ran_within (ran b ns)

pub run_stopped : (b : ℕ) (ns : List Node) → (run b ns).settled ≡ false → (run b ns).count ≡ b
run_stopped b ns = ran_stopped (ran b ns)

-- So many steps before a run.
unfoldable pub steps_more : ℕ → Run → Run
steps_more k r = record { settled = r.settled; count = k + r.count; nodes = r.nodes }

pub steps_more_zero : (r : Run) → steps_more 0 r ≡ r
unfolding steps_more
steps_more_zero r = rw (zero-add r.count)

one_more_steps : (k : ℕ) (r : Run) → one_more (steps_more k r) ≡ steps_more (suc k) r
unfolding steps_more one_more
one_more_steps k r = rw (suc-add k r.count)

-- The first step of a run, counted to those before it.
pub steps_more_one : (k : ℕ) (r : Run) → steps_more k (one_more r) ≡ steps_more (suc k) r
unfolding steps_more one_more
steps_more_one k r = rw (add-suc k r.count, suc-add k r.count)

-- A run that begins with k steps is the run from there with what is left of the budget, and k steps more.
pub run_add : {k : ℕ} {ns ms : List Node} (b : ℕ) → StrategySteps k ns ms → run (k + b) ns ≡ steps_more k (run b ms)
run_add b (done {ns}) = ap (λ n. run n ns) (zero-add b) ∙ sym (steps_more_zero (run b ns))
run_add b (more {k} {ns} {ms} {os} e h) =
    ap (λ n. run n ns) (suc-add k b) ∙ run_more (k + b) ns e ∙ ap one_more (run_add b h) ∙ one_more_steps k (run b os)

run_ends :
    {k : ℕ} {ns ms : List Node} (b : ℕ) (t : Bool) →
    StrategySteps k ns ms →
    k ≤ b →
    run (b - k) ms ≡ record { settled = t; count = 0; nodes = ms } →
    run b ns ≡ record { settled = t; count = k; nodes = ms }
unfolding steps_more
run_ends {k} {ns} {ms} b t h l e =
    let left : b ≡ k + (b - k) = omega arith in
    ap (λ n. run n ns) left
    ∙ run_add (b - k) h
    ∙ ap (steps_more k) e
    ∙ rw (add-zero k)

-- Steps that lead within the budget to where no rule applies are the whole run; so are as many steps
-- as the budget to where one still does.
pub run_is :
    {k : ℕ} {ns ms : List Node} (b : ℕ) →
    StrategySteps k ns ms →
    k ≤ b →
    NoRule ms →
    run b ns ≡ record { settled = true; count = k; nodes = ms }
run_is {k} {ns} {ms} b h l quiet = run_ends b true h l (run_none (b - k) ms ((none_iff ms).1 quiet))

pub run_spent :
    {b : ℕ} {ns ms : List Node} {x : Redex} →
    StrategySteps b ns ms →
    next ms ≡ some x →
    run b ns ≡ record { settled = false; count = b; nodes = ms }
unfolding run maybe
run_spent {b} {ns} {ms} h e =
    let nothing : b - b ≡ 0 = omega arith in
    run_ends b false h (omega arith) (ap (λ n. run n ms) nothing ∙ rw e)

-- The strategy is deterministic: as many steps from the same nodes lead to the same nodes.
pub steps_unique : {k : ℕ} {ns ms os : List Node} → StrategySteps k ns ms → StrategySteps k ns os → ms ≡ os
unfolding steps_more run
steps_unique g h = ap (λ r. r.nodes) (sym (run_add 0 g) ∙ run_add 0 h)

-- A step of the strategy is a step: of the rule, at the place and the children that its redex names.
pub strategy_step_of :
    (ns : List Node) {ms : List Node} →
    next_step ns ≡ some ms →
    (x : Redex) × (next ns ≡ some x) × (step x.rule x.place x.i x.j ns ≡ some ms)
unfolding contract
strategy_step_of ns e = next_step_some ns e

-- What every step keeps, a chain of steps keeps.
pub steps_keep :
    (P : List Node → Type 0) →
    ((r p i j : ℕ) (ns ms : List Node) → step r p i j ns ≡ some ms → P ns → P ms) →
    {k : ℕ} {ns ms : List Node} →
    StrategySteps k ns ms →
    P ns →
    P ms
steps_keep P keeps done h = h
steps_keep P keeps (more {k} {ns} {ms} {os} e s) h =
    let w = strategy_step_of ns e in
    steps_keep P keeps s (keeps w.0.rule w.0.place w.0.i w.0.j ns ms w.2 h)
