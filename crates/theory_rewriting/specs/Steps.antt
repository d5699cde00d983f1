-- Chains of steps: what they keep, and how many there can be.
use Rattle.std.specs.Prelude.{List, [], ◌∷◌, ◌⊎◌, ◌≡◌, ℕ, suc, ◌+◌, ◌*◌, ◌≤◌, ◌<◌, length}
use Rattle.std.proofs.Common.{inl, inr, zero-add, suc-add, mul-le-mul_left, mul-le-mul_right, arith}
use Rattle.std.proofs.Math.Option.{some}
use Rattle.model.specs.Code.{Node, leaf, head, literals, leasts, weight}
use Rattle.model.specs.Rules.{step}
use Rattle.model.specs.Strategy.{cube, most_steps}
use Rattle.theory_forms.specs.Shape.{Shaped, shaped_length}
use Rattle.theory_rewriting.specs.ShapeKept.{step_shaped}
use Rattle.theory_rewriting.specs.Measure.{bulk, pairs, Sooner, step_falls, step_weight}

-- So many steps, of any rules at any places, one after another.
pub data Steps : ℕ → List Node → List Node → Type 0 where
  done : {ns : List Node} → Steps 0 ns ns
  more : {k : ℕ} {ns ms os : List Node} (r p i j : ℕ) → step r p i j ns ≡ some ms → Steps k ms os → Steps (suc k) ns os

pub steps_append : {j k : ℕ} {ns ms os : List Node} → Steps j ns ms → Steps k ms os → Steps (j + k) ns os
steps_append {k = k} done t = rw (zero-add k) t
steps_append {k = k} (more {k = j} r p x y e s) t = rw (suc-add j k) (more r p x y e (steps_append s t))

pub steps_shaped : {n k : ℕ} {ns ms : List Node} → Shaped n ns → Steps k ns ms → Shaped n ms
steps_shaped s done = s
steps_shaped s (more r p i j e t) = steps_shaped (step_shaped r p i j s e) t

pub steps_weight : {n k : ℕ} {ns ms : List Node} → Shaped n ns → Steps k ns ms → weight ms ≤ weight ns
steps_weight s done = omega arith
steps_weight s (more r p i j e t) =
    omega (arith, step_weight r p i j s e, steps_weight (step_shaped r p i j s e) t)

-- There are fewer pairs than the square of a bound of the bulk.
pairs_most : (ns : List Node) → pairs ns ≤ length ns * literals ns
unfolding pairs literals
pairs_most [] = omega arith
pairs_most (leaf l ∷ ns) = let h = pairs_most ns in omega arith
pairs_most (head c k ∷ ns) = let h = pairs_most ns in omega arith

pairs_small : (x : ℕ) (ns : List Node) → 1 ≤ x → bulk 2 ns ≤ x → pairs ns < x * x
pairs_small x ns one h =
    let few : length ns * literals ns ≤ x * literals ns = mul-le-mul_right (literals ns) (omega arith) in
    let most : x * suc (literals ns) ≤ x * x = mul-le-mul_left x (omega arith) in
    omega (arith, pairs_most ns)

-- The number that falls at every step, for a bound x of the bulk.
unfoldable pub potential : ℕ → List Node → ℕ
potential x ns = bulk 2 ns * (x * x) + pairs ns

-- A number in base y: the first digit counts for more than the second.
digits : (a b y p q : ℕ) → a < b → p < y → a * y + p < b * y + q
digits a b y p q h s = omega (arith, mul-le-mul_right y h)

potential_falls :
    (x : ℕ) {ns ms : List Node} →
    bulk 2 ns ≤ x →
    (bulk 2 ms < bulk 2 ns) ⊎ Sooner ms ns →
    (bulk 2 ms ≤ bulk 2 ns) × (potential x ms < potential x ns)
unfolding potential
potential_falls x {ns} {ms} h (inl less) =
    (omega arith, digits (bulk 2 ms) (bulk 2 ns) (x * x) (pairs ms) (pairs ns) less (pairs_small x ms (omega arith) (omega arith)))
potential_falls x {ns} {ms} h (inr s) = (omega arith, rw (s.same_length, s.same_literals, s.same_leasts) (omega arith))

steps_fall : (x : ℕ) {n k : ℕ} {ns ms : List Node} → bulk 2 ns ≤ x → Shaped n ns → Steps k ns ms → k + potential x ms ≤ potential x ns
steps_fall x h s done = omega arith
steps_fall x h s (more r p i j e t) =
    let f = potential_falls x h (step_falls r p i j s e) in
    omega (arith, steps_fall x (omega arith) (step_shaped r p i j s e) t)

-- From a sheet there are at most as many steps as the cube of its nodes, those of kind 6 counted twice, plus twice its literals,
-- whatever their rules and places.
pub steps_bound : {n k : ℕ} {ns ms : List Node} → Shaped n ns → Steps k ns ms → k ≤ most_steps ns
unfolding potential
steps_bound {k = k} {ns = ns} {ms = ms} s t =
    let twice : bulk 2 ns ≡ length ns + leasts ns + 2 * literals ns = omega arith in
    rw twice at
    (let few = pairs_small (bulk 2 ns) ns (omega (arith, shaped_length s)) (omega arith) in
    below (bulk 2 ns) (bulk 2 ms) (pairs ms) (pairs ns) (omega (arith, shaped_length (steps_shaped s t))) few (steps_fall (bulk 2 ns) (omega arith) s t))
  where
    below : (x b p q : ℕ) → 1 ≤ b → q < x * x → k + (b * (x * x) + p) ≤ x * (x * x) + q → k ≤ cube x
    below x b p q one few h = omega (arith, mul-le-mul_right (x * x) one)
