-- A rule that the search does not find at a place applies there for no i and j.
use mathlib.Core.Option.{none}
use mathlib.Core.Path.{◌≡◌, sym, ap, ◌∙◌}
use Prim.Native.Nat.{ℕ, suc}
use Rattle.model.specs.Base.{is_some, only_if}
use Rattle.model.specs.Forest.{Forest, size, after, kids}
use Rattle.model.specs.Rules.{rewrite}
use Rattle.model.specs.Strategy.{redex, least_j, least_i}
use Rattle.theory_forms.specs.Logic.{none_some, none_if, is_some_none}
use Rattle.theory_rewriting.specs.Least.{least_none}
use Rattle.theory_rewriting.specs.Bounds.{rewrite_within}
use Rattle.search_place.proofs.SearchLevels.{i_never}

pub quiet_from : (r p : ℕ) (f : Forest) → none ≡ least_i r p f → (i j : ℕ) → rewrite r i j f ≡ none
unfolding least_i least_j
quiet_from r p f e i j =
    none_if (rewrite r i j f) (λ g x. let w = rewrite_within r i j f x in
    let here = (least_none (suc (size (kids f))) (λ a. least_j r p a f)).0 (sym e) i w.child in
    let there = (least_none (suc (size (kids (after i (kids f))))) (λ b. only_if (is_some (rewrite r i b f)) (redex r p i b))).0 here j w.inner in
    none_some (sym ((is_some_none (rewrite r i j f) (redex r p i j)).0 there) ∙ x))

pub quiet_to : (r p : ℕ) (f : Forest) → ((i j : ℕ) → rewrite r i j f ≡ none) → none ≡ least_i r p f
unfolding is_some
quiet_to r p f h = i_never r p f (λ i j. sym (ap is_some (h i j)))
