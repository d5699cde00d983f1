-- Runs and steps, node by node. "The house step is the applicable one with lowest rule, then place, i, j. A run has a 64-bit budget. It
-- says settled when no rule applies; it says stopped when the budget's steps are done and a rule still applies. The count of steps
-- returned is the number of house steps done."
use Rattle.std.specs.Prelude.{true, false, List, ◌++◌, ◌↔◌, ◌≡◌, refl, ℕ, zero, suc, ◌<◌, ◌≤◌, take, drop}
use Rattle.std.proofs.Math.Option.{Option, none, some}
use Rattle.std.proofs.Common.{sym, ap, subst, ◌∙◌, arith, length-take-le}
use Rattle.std.proofs.Math.Seq.{take-append_seam}
use Rattle.model.specs.Base.{maybe}
use Rattle.model.specs.Code.{Node, encode, decode}
use Rattle.model.specs.Rules as rules
use Rattle.model.specs.Rules.{Applies, NoRule}
use Rattle.model.specs.Strategy as strategy
use Rattle.model.specs.Strategy.{Redex, redex, next}
use Rattle.model.specs.Sheet.{options_in, nodes_in, is_sheet, sheet_of}
use Rattle.model.specs.Results.{stepped}
use Rattle.calls.specs.Outcomes.{accepted}
use Rattle.calls.specs.Chains.{step_refusal, run_refusal}
use Rattle.calls.specs.Calls.{Ran, step_of, step_with, run_of, run_with}
use Rattle.theory_forms.specs.Logic.{true_false, none_some, some_inj, fails_if, is_some_of, then_some}
use Rattle.theory_rewriting.specs.Strategy.{Before, none_iff, next_applies, next_least}
use Rattle.theory_rewriting.specs.Bounds.{step_within}
use Rattle.theory_rewriting.specs.Steps.{done, more}
use Rattle.theory_rewriting.specs.Runs.{StrategySteps, strategy_step_of, run_steps, run_settled, run_stopped, run_within}
use Rattle.theory_rewriting.specs.Runs as chains
use Rattle.theory_rewriting.specs.Reached.{strategy_steps}
use Rattle.theory_index.specs.Left.{steps_left, steps_nodes}
use Rattle.theory_index.specs.WithIndex.{with_accepted, run_right}
use Rattle.call_laws.specs.Accepted.{step_accepted, run_accepted}
use Rattle.call_laws.specs.Effects.{run_outcome, run_leaves}

-- The step at a redex leads from some nodes to others, and no step that applies to the first comes before it.
pub record HouseStep (x : Redex) (ns ms : List Node) : Type 0 where
  pub leads : rules.step x.rule x.place x.i x.j ns ≡ some ms
  pub least : (r p i j : ℕ) → (applies : Applies r p i j ns) → (before : Before (redex r p i j) x) → ⊥

-- So many house steps, one after another: the nodes before each of them and after the last, and what each names.
pub record HouseSteps (many : ℕ) (first last : List Node) : Type 0 where
  pub nodes : ℕ → List Node
  pub named : ℕ → Redex
  pub begins : nodes 0 ≡ first
  pub ends : nodes many ≡ last
  pub each : (k : ℕ) → (is_one : k < many) → HouseStep (named k) (nodes k) (nodes (suc k))

-- A sequence with one more before its first.
unfoldable preceded : {A : Type 0} → A → (ℕ → A) → ℕ → A
preceded a f zero = a
preceded a f (suc k) = f k

house_step :
    (ns : List Node) {ms : List Node} →
    strategy.next_step ns ≡ some ms →
    (x : Redex) × HouseStep x ns ms
house_step ns e =
    let w = strategy_step_of ns e in
    (w.0, record { leads = w.2; least = λ r p i j. next_least ns r p i j w.1 })

house_steps : {k : ℕ} {ns ms : List Node} → StrategySteps k ns ms → HouseSteps k ns ms
unfolding preceded
house_steps (chains.done {ns}) =
    record {
      nodes = λ k. ns;
      named = λ k. redex 0 0 0 0;
      begins = refl;
      ends = refl;
      each = λ k l. absurd (omega arith);
    }
house_steps (chains.more {k} {ns} {ms} {os} e t) = joined (house_step ns e) (house_steps t)
  where
    joined : (x : Redex) × HouseStep x ns ms → HouseSteps k ms os → HouseSteps (suc k) ns os
    joined (x, h) later =
        record {
          nodes = preceded ns later.nodes;
          named = preceded x later.named;
          begins = refl;
          ends = later.ends;
          each = each;
        }
      where
        each :
            (m : ℕ) →
            m < suc k →
            HouseStep (preceded x later.named m) (preceded ns later.nodes m) (later.nodes m)
        each zero l = subst (HouseStep x ns) (sym later.begins) h
        each (suc m) l = later.each m (omega arith)

-- Some rule applies to nodes, at a place and children.
abbrev pub SomeRule : List Node → Type 0
SomeRule ns = (r : ℕ) × (p : ℕ) × (i : ℕ) × (j : ℕ) × Applies r p i j ns

-- What an accepted run has done: it leaves a sheet of the same N, after exactly the counted house steps. It says settled exactly if no rule
-- applies to that sheet, and stopped exactly if its budget is spent and a rule still applies.
pub record Does (sheet left : List ℕ) (budget : ℕ) (ran : Ran) : Type 0 where
  pub is_a_sheet : is_sheet left ≡ true
  pub options : options_in left ≡ options_in sheet
  pub steps : HouseSteps ran.count (nodes_in sheet) (nodes_in left)
  pub within : ran.count ≤ budget
  pub says_settled : (ran.settled ≡ true) ↔ NoRule (nodes_in left)
  pub says_stopped : (ran.settled ≡ false) ↔ ((ran.count ≡ budget) × SomeRule (nodes_in left))

-- Where not every rule fails, the next step is one that applies.
some_applies : (ns : List Node) → (NoRule ns → ⊥) → SomeRule ns
some_applies ns not_Calm = go (next ns) refl
  where
    go : (o : Option Redex) → next ns ≡ o → SomeRule ns
    go none e = absurd (not_Calm ((none_iff ns).0 e))
    go (some x) e = (x.rule, x.place, x.i, x.j, next_applies ns e)

-- A run on a sheet, and the sheet that holds the nodes it leaves.
ran_does :
    (s : List ℕ) (budget : ℕ) →
    is_sheet s ≡ true →
    let r = strategy.run budget (nodes_in s) in
    Does s (sheet_of (options_in s) r.nodes) budget (record { settled = r.settled; count = r.count })
ran_does s budget h =
    let ns = nodes_in s in
    let r = strategy.run budget ns in
    let done = steps_left s h (strategy_steps (run_steps budget ns)) in
    record {
      is_a_sheet = done.sheet;
      options = done.options;
      steps = rw (run_leaves s budget h) (house_steps (run_steps budget ns));
      within = run_within budget ns;
      says_settled = rw (run_leaves s budget h) (run_settled budget ns);
      says_stopped = rw (run_leaves s budget h) ((λ q. (run_stopped budget ns q, moves q)), λ w. stopped w.1);
    }
  where
    moves : (strategy.run budget (nodes_in s)).settled ≡ false → SomeRule (strategy.run budget (nodes_in s)).nodes
    moves q = some_applies _ (λ calm. true_false (sym ((run_settled budget (nodes_in s)).1 calm) ∙ q))

    stopped : SomeRule (strategy.run budget (nodes_in s)).nodes → (strategy.run budget (nodes_in s)).settled ≡ false
    stopped (r, p, i, j, a) = fails_if _ (λ q. none_some (sym ((run_settled budget (nodes_in s)).0 q r p i j) ∙ a.1))

pub run_does :
    (sheet index : List ℕ) (budget : ℕ) (ran : Ran) →
    (run_is_accepted : (run_with sheet index budget).answer ≡ accepted ran) →
    Does sheet (run_with sheet index budget).lent.own budget ran
unfolding run_with run_of
run_does s index budget ran e =
    let w = with_accepted (λ u. u) s index _ _ (run_refusal s) e in
    let h = run_accepted s w.0 in
    let given = run_right s index w.1 budget in
    let outcome = run_outcome s budget h in
    let same = told (sym e ∙ ap (λ o. o.answer) given ∙ ap (λ o. o.answer) outcome) in
    let left = ap (λ o. o.lent.own) given ∙ ap (λ o. o.lent) outcome in
    subst (λ t. Does s t budget ran) (sym left) (subst (Does s _ budget) (sym same) (ran_does s budget h))
  where
    told : {a b : Ran} → accepted a ≡ accepted b → a ≡ b
    told q = cc

-- "A rule rewrites the stretch of the sheet from its place onward; .. and every node before the place stays."
kept_before : (r p i j : ℕ) (ns : List Node) {ms : List Node} → rules.step r p i j ns ≡ some ms → take p ms ≡ take p ns
unfolding rules.step
kept_before r p i j ns e =
    let within = (step_within r p i j ns e).0 in
    let (f, turned, made) = then_some (rules.rewrite r i j (decode (drop p ns))) _ e in
    let long = length-take-le p ns (omega arith) in
    ap (take p) (sym (some_inj made))
    ∙ ap (λ n. take n (take p ns ++ encode f)) (sym long)
    ∙ take-append_seam (take p ns) (encode f)

-- An accepted step is one application of its rule, and leaves a sheet of the same N.
pub step_leads :
    (sheet index : List ℕ) (r p i j : ℕ) →
    (step_is_accepted : (step_with sheet index r p i j).answer ≡ accepted tt) →
    let left = (step_with sheet index r p i j).lent.own in
    (is_sheet left ≡ true)
    × (options_in left ≡ options_in sheet)
    × (rules.step r p i j (nodes_in sheet) ≡ some (nodes_in left))
unfolding step_with step_of stepped maybe
step_leads s index r p i j e =
    let w = with_accepted (λ u. u) s index tt _ (step_refusal s r p i j) e in
    let may = step_accepted s r p i j w.0 in
    let (ms, leads) = is_some_of (rules.step r p i j (nodes_in s)) may.there in
    let one = more r p i j leads done in
    let left = steps_left s may.sheet one in
    rw (ap (λ l. l.own) w.2, leads)
    (left.sheet, left.options, ap some (sym (steps_nodes s may.sheet one)))

pub nodes_before_the_place_stay :
    (sheet index : List ℕ) (r p i j : ℕ) →
    (step_is_accepted : (step_with sheet index r p i j).answer ≡ accepted tt) →
    take p (nodes_in (step_with sheet index r p i j).lent.own) ≡ take p (nodes_in sheet)
nodes_before_the_place_stay s index r p i j e = kept_before r p i j (nodes_in s) (step_leads s index r p i j e).2
