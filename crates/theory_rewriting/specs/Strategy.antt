-- The strategy's step: it applies, it is the least of all steps that apply, and there is none only where no step applies.
use Rattle.std.specs.Prelude.{true, List, ◌++◌, ◌⊎◌, ◌↔◌, ◌≡◌, ℕ, zero, suc, ◌<◌, length, take, drop}
use Rattle.std.proofs.Common.{inl, inr, sym, ap, ◌∙◌, arith}
use Rattle.std.proofs.Math.Option.{Option, none, some}
use Rattle.model.specs.Base.{only_if, is_some, then}
use Rattle.model.specs.Limits.{last_rule}
use Rattle.model.specs.Forest.{Forest, size, after, kids}
use Rattle.model.specs.Code.{Node, encode, decode}
use Rattle.model.specs.Rules.{rewrite, step, NoRule, Applies}
use Rattle.model.specs.Strategy.{Redex, redex, least_j, least_i, least_place, next, contract, next_step}
use Rattle.theory_forms.specs.Logic.{none_some, only_some, then_some, is_some_of, none_if, is_some_none}
use Rattle.theory_rewriting.specs.Inversion.{step_some, step_none}
use Rattle.theory_rewriting.specs.Least.{least_found, least_at, least_none_all}
use Rattle.theory_rewriting.specs.Bounds.{rewrite_within, step_within}

-- Each level of the search has no answer exactly where no number that is left open gives a step.
none_j : (r p i : ℕ) (f : Forest) → (least_j r p i f ≡ none) ↔ ((j : ℕ) → rewrite r i j f ≡ none)
unfolding least_j
none_j r p i f =
    least_none_all
    (suc (size (kids (after i (kids f)))))
    _
    (λ j. rewrite r i j f ≡ none)
    (λ j. is_some_none (rewrite r i j f) (redex r p i j))
    (λ j l. none_if (rewrite r i j f) (λ g e. let h = rewrite_within r i j f e in omega arith))

none_i : (r p : ℕ) (f : Forest) → (least_i r p f ≡ none) ↔ ((i j : ℕ) → rewrite r i j f ≡ none)
unfolding least_i
none_i r p f =
    least_none_all
    (suc (size (kids f)))
    _
    (λ i. (j : ℕ) → rewrite r i j f ≡ none)
    (λ i. none_j r p i f)
    (λ i l j. none_if (rewrite r i j f) (λ g e. let h = rewrite_within r i j f e in omega arith))

none_place : (r : ℕ) (ns : List Node) → (least_place r ns ≡ none) ↔ ((p i j : ℕ) → step r p i j ns ≡ none)
unfolding least_place
none_place r ns =
    least_none_all
    (length ns)
    _
    (λ p. (i j : ℕ) → step r p i j ns ≡ none)
    (λ p. let below = none_i r p (decode (drop p ns)) in
    ((λ e i j. (step_none r p i j ns).1 (below.0 e i j)), λ h. below.1 (λ i j. (step_none r p i j ns).0 (h i j))))
    (λ p l i j. none_if (step r p i j ns) (λ ms e. let h = step_within r p i j ns e in omega arith))

rule_zero : (p i j : ℕ) (ns : List Node) → step zero p i j ns ≡ none
rule_zero p i j ns = none_if (step zero p i j ns) (λ ms e. let h = step_within zero p i j ns e in omega arith)

-- The strategy finds no step exactly where no rule applies.
pub none_iff : (ns : List Node) → (next ns ≡ none) ↔ NoRule ns
unfolding next
none_iff ns = ((λ e. go (search.0 e)), λ h. search.1 (λ r. h (suc r)))
  where
    search : (next ns ≡ none) ↔ ((r p i j : ℕ) → step (suc r) p i j ns ≡ none)
    search =
        least_none_all
        last_rule
        _
        (λ r. (p i j : ℕ) → step (suc r) p i j ns ≡ none)
        (λ r. none_place (suc r) ns)
        (λ r l p i j. none_if (step (suc r) p i j ns) (λ ms e. let h = step_within (suc r) p i j ns e in omega arith))

    go : ((r p i j : ℕ) → step (suc r) p i j ns ≡ none) → NoRule ns
    go h zero = λ p i j. rule_zero p i j ns
    go h (suc r) = h r

-- The first number is the smaller one, or they are equal and the tie is broken.
abbrev pub Earlier : ℕ → ℕ → Type 0 → Type 0
Earlier m n tie = (m < n) ⊎ ((m ≡ n) × tie)

-- "Lowest rule, then place, i, j."
abbrev pub Before : Redex → Redex → Type 0
Before x y =
    Earlier x.rule y.rule (Earlier x.place y.place (Earlier x.i y.i (x.j < y.j)))

-- What an answer says at each level: it is the answer for its own number, and smaller numbers give no step.
found_j :
    (r p i : ℕ) (f : Forest) {x : Redex} →
    least_j r p i f ≡ some x →
    (redex r p i x.j ≡ x) × (is_some (rewrite r i x.j f) ≡ true) × ((j : ℕ) → j < x.j → rewrite r i j f ≡ none)
unfolding least_j
found_j r p i f {x} e =
    let tried : ℕ → Option Redex = λ j. only_if (is_some (rewrite r i j f)) (redex r p i j) in
    let w = least_at _ tried (λ y. y.j) (λ j h. sym (ap (λ y. y.j) (only_some _ (redex r p i j) h).1)) e in
    let here = only_some (is_some (rewrite r i x.j f)) (redex r p i x.j) w.0 in
    (here.1, here.0, λ j l. (is_some_none (rewrite r i j f) (redex r p i j)).0 (w.1 j l))

found_i :
    (r p : ℕ) (f : Forest) {x : Redex} →
    least_i r p f ≡ some x →
    (least_j r p x.i f ≡ some x) × ((i j : ℕ) → i < x.i → rewrite r i j f ≡ none)
unfolding least_i
found_i r p f e =
    let w = least_at _ (λ i. least_j r p i f) (λ y. y.i) (λ i h. sym (ap (λ y. y.i) (found_j r p i f h).0)) e in
    (w.0, λ i j l. (none_j r p i f).0 (w.1 i l) j)

found_place :
    (r : ℕ) (ns : List Node) {x : Redex} →
    least_place r ns ≡ some x →
    (least_i r x.place (decode (drop x.place ns)) ≡ some x) × ((p i j : ℕ) → p < x.place → rewrite r i j (decode (drop p ns)) ≡ none)
unfolding least_place
found_place r ns {x} e =
    let search : ℕ → Option Redex = λ p. least_i r p (decode (drop p ns)) in
    let tells : (p : ℕ) → search p ≡ some x → x.place ≡ p = λ p h. sym (ap (λ y. y.place) (found_j r p x.i _ (found_i r p _ h).0).0) in
    let w = least_at _ search (λ y. y.place) tells e in
    (w.0, λ p i j l. (none_i r p (decode (drop p ns))).0 (w.1 p l) i j)

found_rule :
    (ns : List Node) {x : Redex} →
    next ns ≡ some x →
    (least_place x.rule ns ≡ some x) × ((r p i j : ℕ) → r < x.rule → step r p i j ns ≡ none)
unfolding next
found_rule ns {x} e =
    let w = least_found last_rule (λ r. least_place (suc r) ns) e in
    let at_place = found_place (suc w.number) ns w.answer in
    let at_i = found_i (suc w.number) x.place _ at_place.0 in
    let named : suc w.number ≡ x.rule = ap (λ y. y.rule) (found_j (suc w.number) x.place x.i _ at_i.0).0 in
    (ap (λ r. least_place r ns) (sym named) ∙ w.answer, λ r p i j l. lower w.smaller r p i j (omega arith))
  where
    lower : {n : ℕ} → ((k : ℕ) → k < n → least_place (suc k) ns ≡ none) → (r p i j : ℕ) → r < suc n → step r p i j ns ≡ none
    lower h zero p i j l = rule_zero p i j ns
    lower h (suc r) p i j l = (none_place (suc r) ns).0 (h r (omega arith)) p i j

-- The redex applies, and no smaller number at any of the four levels does.
record Chosen (ns : List Node) (x : Redex) : Type 0 where
  applies : Applies x.rule x.place x.i x.j ns
  lower_rule : (r p i j : ℕ) → r < x.rule → step r p i j ns ≡ none
  lower_place : (p i j : ℕ) → p < x.place → step x.rule p i j ns ≡ none
  lower_i : (i j : ℕ) → i < x.i → step x.rule x.place i j ns ≡ none
  lower_j : (j : ℕ) → j < x.j → step x.rule x.place x.i j ns ≡ none

next_chosen : (ns : List Node) {x : Redex} → next ns ≡ some x → Chosen ns x
next_chosen ns {x} e =
    let f = decode (drop x.place ns) in
    let at_rule = found_rule ns e in
    let at_place = found_place x.rule ns at_rule.0 in
    let at_i = found_i x.rule x.place f at_place.0 in
    let at_j = found_j x.rule x.place x.i f at_i.0 in
    let w = is_some_of (rewrite x.rule x.i x.j f) at_j.1 in
    record {
      applies = (take x.place ns ++ encode w.0, step_some x.rule x.place x.i x.j ns w.1);
      lower_rule = at_rule.1;
      lower_place = λ p i j l. (step_none x.rule p i j ns).1 (at_place.1 p i j l);
      lower_i = λ i j l. (step_none x.rule x.place i j ns).1 (at_i.1 i j l);
      lower_j = λ j l. (step_none x.rule x.place x.i j ns).1 (at_j.2 j l);
    }

-- The strategy's step applies.
pub next_applies : (ns : List Node) {x : Redex} → next ns ≡ some x → Applies x.rule x.place x.i x.j ns
next_applies ns e = (next_chosen ns e).applies

-- No step that applies, of any numbers, comes before the strategy's.
pub next_least : (ns : List Node) {x : Redex} (r p i j : ℕ) → next ns ≡ some x → Applies r p i j ns → Before (redex r p i j) x → ⊥
next_least ns {x} r p i j e a b = none_some (sym (go b) ∙ a.1)
  where
    w : Chosen ns x
    w = next_chosen ns e

    go : Before (redex r p i j) x → step r p i j ns ≡ none
    go (inl l) = w.lower_rule r p i j l
    go (inr (q, inl l)) = cc (w.lower_place p i j l)
    go (inr (q, inr (s, inl l))) = cc (w.lower_i i j l)
    go (inr (q, inr (s, inr (t, l)))) = cc (w.lower_j j l)

-- The nodes that the strategy's step gives are those of its redex; there are some exactly where it finds one.
pub next_step_some :
    (ns : List Node) {ms : List Node} →
    next_step ns ≡ some ms →
    (x : Redex) × (next ns ≡ some x) × (contract x ns ≡ some ms)
unfolding next_step
next_step_some ns e = then_some (next ns) (λ x. contract x ns) e

pub next_step_none : (ns : List Node) → (next_step ns ≡ none) ↔ (next ns ≡ none)
unfolding next_step contract then
next_step_none ns =
    ((λ e. none_if (next ns) (λ x h. let a = next_applies ns h in none_some (sym e ∙ ap (λ o. then o (λ y. contract y ns)) h ∙ a.1))), λ e. rw e)
