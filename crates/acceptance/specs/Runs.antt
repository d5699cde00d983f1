-- Steps and runs, by the buyer's note: "a run that works in its first step and idles after, or invents its count (the sheet after exactly
-- the counted house steps)" is not taken, nor "a run that calls itself stopped with budget left (the run's own condition)".
use Rattle.std.specs.Prelude.{true, false, List, ◌⊎◌, ◌↔◌, ◌≡◌, ℕ, suc, ◌≤◌, ◌<◌, take}
use Rattle.std.proofs.Math.Option.{none, some}
use Rattle.model.specs.Code.{Node}
use Rattle.model.specs.Rules as rules
use Rattle.model.specs.Strategy.{Redex}
use Rattle.model.specs.Sheet.{options_in, nodes_in, is_sheet}
use Rattle.calls.specs.Outcomes.{accepted}
use Rattle.calls.specs.Calls.{Ran, step_with, run_with}
use Rattle.promise.specs.HouseSteps as house

-- An accepted run, and what it leaves.
module _
    (sheet index : List ℕ)
    (budget : ℕ)
    (ran : Ran)
    (run_is_accepted : (run_with sheet index budget).answer ≡ accepted ran)
  where
    abbrev left : List ℕ
    left = (run_with sheet index budget).lent.own

    pub run_leaves_a_sheet : (is_sheet left ≡ true) × (options_in left ≡ options_in sheet)
    run_leaves_a_sheet = let d = house.run_does sheet index budget ran run_is_accepted in (d.is_a_sheet, d.options)

    -- "The count of steps returned is the number of house steps done": there are nodes before each of as many steps and after the last,
    -- from the sheet's own to those of the sheet that is left, and each step leads from the one to the next. "The house step is the
    -- applicable one with lowest rule, then place, i, j": none that applies there comes before it.
    pub run_does_the_counted_house_steps :
        (nodes : ℕ → List Node)
        × (named : ℕ → Redex)
        × (nodes 0 ≡ nodes_in sheet)
        × (nodes ran.count ≡ nodes_in left)
        × ((k : ℕ) →
        (is_one : k < ran.count) →
        let x = named k in
        (rules.step x.rule x.place x.i x.j (nodes k) ≡ some (nodes (suc k)))
        × ((r p i j : ℕ) (ms : List Node) →
        (applies : rules.step r p i j (nodes k) ≡ some ms) →
        (comes_before :
        (r < x.rule)
        ⊎ ((r ≡ x.rule)
        × ((p < x.place)
        ⊎ ((p ≡ x.place)
        × ((i < x.i)
        ⊎ ((i ≡ x.i)
        × (j < x.j))))))) →
        ⊥))
    run_does_the_counted_house_steps =
        let s = (house.run_does sheet index budget ran run_is_accepted).steps in (
          s.nodes,
          s.named,
          s.begins,
          s.ends,
          λ k l. let h = s.each k l in (h.leads, λ r p i j ms e. h.least r p i j (ms, e)),
        )

    -- "It says settled when no rule applies; it says stopped when the budget's steps are done and a rule still applies."
    pub settled_exactly : (ran.settled ≡ true) ↔ ((r p i j : ℕ) → rules.step r p i j (nodes_in left) ≡ none)
    settled_exactly = (house.run_does sheet index budget ran run_is_accepted).says_settled

    pub stopped_exactly :
        (ran.settled ≡ false)
        ↔ ((ran.count ≡ budget)
        × ((r : ℕ)
        × (p : ℕ)
        × (i : ℕ)
        × (j : ℕ)
        × ((ms : List Node)
        × (rules.step r p i j (nodes_in left) ≡ some ms))))
    stopped_exactly = (house.run_does sheet index budget ran run_is_accepted).says_stopped

    pub no_step_over_the_budget : ran.count ≤ budget
    no_step_over_the_budget = (house.run_does sheet index budget ran run_is_accepted).within

-- "A rule rewrites the stretch of the sheet from its place onward; .. and every node before the place stays": of an accepted step.
pub nodes_before_the_place_stay :
    (sheet index : List ℕ) (r p i j : ℕ) →
    (step_is_accepted : (step_with sheet index r p i j).answer ≡ accepted tt) →
    take p (nodes_in (step_with sheet index r p i j).lent.own) ≡ take p (nodes_in sheet)
nodes_before_the_place_stay = house.nodes_before_the_place_stay

-- An accepted step is one application of its rule, and leaves a sheet of the same N.
pub step_leads :
    (sheet index : List ℕ) (r p i j : ℕ) →
    (step_is_accepted : (step_with sheet index r p i j).answer ≡ accepted tt) →
    let left = (step_with sheet index r p i j).lent.own in
    (is_sheet left ≡ true)
    × (options_in left ≡ options_in sheet)
    × (rules.step r p i j (nodes_in sheet) ≡ some (nodes_in left))
step_leads = house.step_leads
