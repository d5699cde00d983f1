-- Steps of every rule, with the nodes before and after; steps that do not apply; the refusals of a step.
use Rattle.std.specs.Prelude.{List, [], ◌∷◌, ◌++◌, map, ◌≡◌, refl, ℕ, ◌+◌, replicate}
use Rattle.std.proofs.Math.Option.{Option, none, some}
use Rattle.model.specs.Base.{maybe}
use Rattle.model.specs.Code.{node_of, number_of}
use Rattle.model.specs.Rules.{step}
use Rattle.model.specs.Strategy.{Redex, redex, next}
use Rattle.calls.specs.Refusals.{rule_refused, step_refused}
use Rattle.calls.specs.Outcomes.{refused, accepted, Outcome}
use Rattle.calls.specs.Calls.{step_of}
use Rattle.case_samples.specs.Opened.{definitions}
use Rattle.case_samples.specs.Samples.{P, Q, R, S, not_P, not_R, True, False, plain, all_of, any_of, root, at_least, numbers, wide}
use Rattle.case_samples.specs.Samples.{joined, sheet, said, samples}

-- The nodes after a step (rule, place, i, j), if it applies.
unfoldable pub turned : ℕ → ℕ → ℕ → ℕ → List ℕ → Option (List ℕ)
turned r p i j ns = maybe none (λ ms. some (map number_of ms)) (step r p i j (map node_of ns))

unfoldable pub steps : List (Option (List ℕ))
steps =
    -- 1, 2, 3: "child i false [2: true]: only that child stays."
    turned 1 1 1 0 (root 2 ∷ all_of 3 ∷ P ∷ False ∷ Q ∷ R ∷ [])
    ∷ turned 2 1 1 0 (root 2 ∷ any_of 3 ∷ P ∷ True ∷ Q ∷ R ∷ [])
    ∷ turned 3 0 1 0 (root 3 ∷ P ∷ False ∷ Q ∷ [])
    -- 4, 5, 6: "child i true [5: false]: the child goes", the only one too.
    ∷ turned 4 1 1 0 (root 2 ∷ all_of 3 ∷ P ∷ True ∷ Q ∷ R ∷ [])
    ∷ turned 4 1 0 0 (root 1 ∷ all_of 1 ∷ True ∷ [])
    ∷ turned 5 1 1 0 (root 2 ∷ any_of 3 ∷ P ∷ False ∷ Q ∷ R ∷ [])
    ∷ turned 5 1 0 0 (root 1 ∷ any_of 1 ∷ False ∷ [])
    ∷ turned 6 0 1 0 (root 3 ∷ P ∷ True ∷ Q ∷ [])
    ∷ turned 6 0 0 0 (root 1 ∷ True ∷ [])
    -- 7, 8: "k = 1: the child replaces it", be it a mark or a node.
    ∷ turned 7 2 0 0 (root 3 ∷ P ∷ all_of 1 ∷ any_of 2 ∷ P ∷ Q ∷ R ∷ [])
    ∷ turned 7 2 0 0 (root 1 ∷ any_of 2 ∷ all_of 1 ∷ P ∷ Q ∷ [])
    ∷ turned 8 2 0 0 (root 3 ∷ P ∷ any_of 1 ∷ all_of 2 ∷ P ∷ Q ∷ R ∷ [])
    -- 9: "in the others the same mark becomes false, its opposite true", at any depth, before and behind, and nowhere else.
    ∷ turned 9 1 0 0 (root 2 ∷ any_of 3 ∷ P ∷ all_of 2 ∷ P ∷ any_of 2 ∷ not_P ∷ Q ∷ P ∷ P ∷ [])
    ∷ turned 9 1 1 0 (root 1 ∷ any_of 3 ∷ P ∷ not_P ∷ not_P ∷ [])
    -- 10: "likewise, but the same mark becomes true, its opposite false"; the only other one deep inside.
    ∷ turned 10 0 1 0 (root 3 ∷ all_of 2 ∷ P ∷ any_of 2 ∷ not_P ∷ Q ∷ not_P ∷ P ∷ [])
    ∷ turned 10 0 0 0 (root 2 ∷ P ∷ P ∷ [])
    ∷ turned 10 0 0 0 (root 2 ∷ P ∷ any_of 2 ∷ Q ∷ all_of 2 ∷ R ∷ not_P ∷ [])
    -- 11, 12: "that mark moves to just before child i."
    ∷ turned 11 1 1 1 (root 1 ∷ all_of 3 ∷ Q ∷ all_of 3 ∷ True ∷ P ∷ R ∷ R ∷ [])
    ∷ turned 11 1 0 0 (root 1 ∷ all_of 1 ∷ all_of 1 ∷ P ∷ [])
    ∷ turned 12 0 1 1 (root 3 ∷ Q ∷ all_of 3 ∷ True ∷ P ∷ R ∷ R ∷ [])
    ∷ turned 12 0 0 0 (root 1 ∷ all_of 1 ∷ P ∷ [])
    -- 13: "child i an all-of, all other children marks: child i's children replace it"; with no other child; an empty all-of.
    ∷ turned 13 1 1 0 (root 1 ∷ all_of 3 ∷ P ∷ all_of 2 ∷ False ∷ R ∷ Q ∷ [])
    ∷ turned 13 1 0 0 (root 1 ∷ all_of 1 ∷ all_of 1 ∷ P ∷ [])
    ∷ turned 13 1 1 0 (root 1 ∷ all_of 2 ∷ P ∷ True ∷ [])
    ∷ turned 13 1 0 0 (root 1 ∷ all_of 1 ∷ True ∷ [])
    -- 14: "the marks, then all-of(a, any-of(the all-ofs, each without its first a))"; here a stands among the marks too and twice in
    -- the first all-of. Then two all-ofs that share both their marks: j says which is a. A second a stays where it was; three all-ofs.
    ∷ turned 14 1 1 1 (root 2 ∷ any_of 4 ∷ P ∷ all_of 3 ∷ Q ∷ P ∷ P ∷ not_R ∷ all_of 1 ∷ P ∷ R ∷ [])
    ∷ turned 14 1 0 0 (root 1 ∷ any_of 2 ∷ all_of 2 ∷ P ∷ Q ∷ all_of 2 ∷ Q ∷ P ∷ [])
    ∷ turned 14 1 0 1 (root 1 ∷ any_of 2 ∷ all_of 2 ∷ P ∷ Q ∷ all_of 2 ∷ Q ∷ P ∷ [])
    ∷ turned 14 1 0 0 (root 1 ∷ any_of 2 ∷ all_of 3 ∷ P ∷ Q ∷ P ∷ all_of 1 ∷ P ∷ [])
    ∷ turned 14 1 0 0 (root 1 ∷ any_of 3 ∷ all_of 1 ∷ P ∷ all_of 2 ∷ P ∷ Q ∷ all_of 2 ∷ R ∷ P ∷ [])
    -- Kind 6 is a child like any other: 7 and 8 put it in its parent's place, 9 and 10 put constants in place of its marks, and 13 and 14
    -- move it with the others.
    ∷ turned 7 1 0 0 (root 1 ∷ all_of 1 ∷ at_least 2 3 ∷ P ∷ Q ∷ R ∷ [])
    ∷ turned 8 1 0 0 (root 1 ∷ any_of 1 ∷ at_least 2 3 ∷ P ∷ Q ∷ R ∷ [])
    ∷ turned 9 1 1 0 (root 1 ∷ any_of 3 ∷ at_least 2 3 ∷ P ∷ Q ∷ R ∷ P ∷ at_least 1 2 ∷ not_P ∷ Q ∷ [])
    ∷ turned 10 0 1 0 (root 3 ∷ at_least 2 3 ∷ P ∷ Q ∷ R ∷ P ∷ at_least 1 2 ∷ not_P ∷ Q ∷ [])
    ∷ turned 13 1 1 0 (root 1 ∷ all_of 2 ∷ P ∷ all_of 2 ∷ at_least 2 2 ∷ Q ∷ R ∷ Q ∷ [])
    ∷ turned 14 1 0 0 (root 1 ∷ any_of 2 ∷ all_of 2 ∷ P ∷ at_least 2 2 ∷ Q ∷ R ∷ all_of 1 ∷ P ∷ [])
    -- 15: "removes member i that is true (k less one, not below 0) or false"; the last member too, below another node too.
    ∷ turned 15 1 1 0 (root 2 ∷ at_least 2 5 ∷ P ∷ True ∷ Q ∷ False ∷ R ∷ R ∷ [])
    ∷ turned 15 1 3 0 (root 2 ∷ at_least 2 5 ∷ P ∷ True ∷ Q ∷ False ∷ R ∷ R ∷ [])
    ∷ turned 15 1 0 0 (root 1 ∷ at_least 0 1 ∷ True ∷ [])
    ∷ turned 15 1 0 0 (root 1 ∷ at_least 0 1 ∷ False ∷ [])
    ∷ turned 15 1 0 0 (root 1 ∷ at_least 63 1 ∷ True ∷ [])
    ∷ turned 15 1 0 0 (root 1 ∷ at_least 63 1 ∷ False ∷ [])
    ∷ turned 15 2 1 0 (root 1 ∷ any_of 2 ∷ at_least 2 2 ∷ P ∷ True ∷ Q ∷ [])
    -- 16: "turns k = 0 into true and k over the members into false"; 0 of 0 and 1 of 0 too.
    ∷ turned 16 1 0 0 (root 2 ∷ at_least 0 2 ∷ P ∷ Q ∷ R ∷ [])
    ∷ turned 16 1 0 0 (root 2 ∷ at_least 3 2 ∷ P ∷ Q ∷ R ∷ [])
    ∷ turned 16 1 0 0 (root 2 ∷ at_least 63 2 ∷ P ∷ True ∷ R ∷ [])
    ∷ turned 16 1 0 0 (root 1 ∷ at_least 0 0 ∷ [])
    ∷ turned 16 1 0 0 (root 1 ∷ at_least 1 0 ∷ [])
    -- 17: "turns k = 1 into any-of, else k = members into all-of"; 1 of 1 becomes an any-of. 0 of 0 and 1 of 0 fit its words too.
    ∷ turned 17 1 0 0 (root 2 ∷ at_least 1 3 ∷ P ∷ True ∷ not_R ∷ R ∷ [])
    ∷ turned 17 1 0 0 (root 2 ∷ at_least 3 3 ∷ P ∷ False ∷ not_R ∷ R ∷ [])
    ∷ turned 17 1 0 0 (root 1 ∷ at_least 1 1 ∷ P ∷ [])
    ∷ turned 17 1 0 0 (root 1 ∷ at_least 0 0 ∷ [])
    ∷ turned 17 1 0 0 (root 1 ∷ at_least 1 0 ∷ [])
    ∷ []

pub steps_turn :
    steps
    ≡ map some
    ((root 2 ∷ all_of 1 ∷ False ∷ R ∷ [])
    ∷ (root 2 ∷ any_of 1 ∷ True ∷ R ∷ [])
    ∷ (root 1 ∷ False ∷ [])
    ∷ (root 2 ∷ all_of 2 ∷ P ∷ Q ∷ R ∷ [])
    ∷ (root 1 ∷ True ∷ [])
    ∷ (root 2 ∷ any_of 2 ∷ P ∷ Q ∷ R ∷ [])
    ∷ (root 1 ∷ False ∷ [])
    ∷ (root 2 ∷ P ∷ Q ∷ [])
    ∷ (root 0 ∷ [])
    ∷ (root 3 ∷ P ∷ any_of 2 ∷ P ∷ Q ∷ R ∷ [])
    ∷ (root 1 ∷ any_of 2 ∷ P ∷ Q ∷ [])
    ∷ (root 3 ∷ P ∷ all_of 2 ∷ P ∷ Q ∷ R ∷ [])
    ∷ (root 2 ∷ any_of 3 ∷ P ∷ all_of 2 ∷ False ∷ any_of 2 ∷ True ∷ Q ∷ False ∷ P ∷ [])
    ∷ (root 1 ∷ any_of 3 ∷ True ∷ not_P ∷ False ∷ [])
    ∷ (root 3 ∷ all_of 2 ∷ False ∷ any_of 2 ∷ True ∷ Q ∷ not_P ∷ False ∷ [])
    ∷ (root 2 ∷ P ∷ True ∷ [])
    ∷ (root 2 ∷ P ∷ any_of 2 ∷ Q ∷ all_of 2 ∷ R ∷ False ∷ [])
    ∷ (root 1 ∷ all_of 4 ∷ Q ∷ P ∷ all_of 2 ∷ True ∷ R ∷ R ∷ [])
    ∷ (root 1 ∷ all_of 2 ∷ P ∷ True ∷ [])
    ∷ (root 4 ∷ Q ∷ P ∷ all_of 2 ∷ True ∷ R ∷ R ∷ [])
    ∷ (root 2 ∷ P ∷ True ∷ [])
    ∷ (root 1 ∷ all_of 4 ∷ P ∷ False ∷ R ∷ Q ∷ [])
    ∷ (root 1 ∷ all_of 1 ∷ P ∷ [])
    ∷ (root 1 ∷ all_of 1 ∷ P ∷ [])
    ∷ (root 1 ∷ True ∷ [])
    ∷ (root 2 ∷ any_of 3 ∷ P ∷ not_R ∷ all_of 2 ∷ P ∷ any_of 2 ∷ all_of 2 ∷ Q ∷ P ∷ True ∷ R ∷ [])
    ∷ (root 1 ∷ any_of 1 ∷ all_of 2 ∷ P ∷ any_of 2 ∷ all_of 1 ∷ Q ∷ all_of 1 ∷ Q ∷ [])
    ∷ (root 1 ∷ any_of 1 ∷ all_of 2 ∷ Q ∷ any_of 2 ∷ all_of 1 ∷ P ∷ all_of 1 ∷ P ∷ [])
    ∷ (root 1 ∷ any_of 1 ∷ all_of 2 ∷ P ∷ any_of 2 ∷ all_of 2 ∷ Q ∷ P ∷ True ∷ [])
    ∷ (root 1 ∷ any_of 1 ∷ all_of 2 ∷ P ∷ any_of 3 ∷ True ∷ all_of 1 ∷ Q ∷ all_of 1 ∷ R ∷ [])
    ∷ (root 1 ∷ at_least 2 3 ∷ P ∷ Q ∷ R ∷ [])
    ∷ (root 1 ∷ at_least 2 3 ∷ P ∷ Q ∷ R ∷ [])
    ∷ (root 1 ∷ any_of 3 ∷ at_least 2 3 ∷ False ∷ Q ∷ R ∷ P ∷ at_least 1 2 ∷ True ∷ Q ∷ [])
    ∷ (root 3 ∷ at_least 2 3 ∷ True ∷ Q ∷ R ∷ P ∷ at_least 1 2 ∷ False ∷ Q ∷ [])
    ∷ (root 1 ∷ all_of 3 ∷ P ∷ at_least 2 2 ∷ Q ∷ R ∷ Q ∷ [])
    ∷ (root 1 ∷ any_of 1 ∷ all_of 2 ∷ P ∷ any_of 2 ∷ all_of 1 ∷ at_least 2 2 ∷ Q ∷ R ∷ True ∷ [])
    ∷ (root 2 ∷ at_least 1 4 ∷ P ∷ Q ∷ False ∷ R ∷ R ∷ [])
    ∷ (root 2 ∷ at_least 2 4 ∷ P ∷ True ∷ Q ∷ R ∷ R ∷ [])
    ∷ (root 1 ∷ at_least 0 0 ∷ [])
    ∷ (root 1 ∷ at_least 0 0 ∷ [])
    ∷ (root 1 ∷ at_least 62 0 ∷ [])
    ∷ (root 1 ∷ at_least 63 0 ∷ [])
    ∷ (root 1 ∷ any_of 2 ∷ at_least 1 1 ∷ P ∷ Q ∷ [])
    ∷ (root 2 ∷ True ∷ R ∷ [])
    ∷ (root 2 ∷ False ∷ R ∷ [])
    ∷ (root 2 ∷ False ∷ R ∷ [])
    ∷ (root 1 ∷ True ∷ [])
    ∷ (root 1 ∷ False ∷ [])
    ∷ (root 2 ∷ any_of 3 ∷ P ∷ True ∷ not_R ∷ R ∷ [])
    ∷ (root 2 ∷ all_of 3 ∷ P ∷ False ∷ not_R ∷ R ∷ [])
    ∷ (root 1 ∷ any_of 1 ∷ P ∷ [])
    ∷ (root 1 ∷ True ∷ [])
    ∷ (root 1 ∷ False ∷ [])
    ∷ [])
unfolding definitions samples turned steps
steps_turn = refl

-- "Place (nodes counted from the root, 0), child i and inner child j, from 0", each past 256.
unfoldable pub far_steps : List (Option (List ℕ))
far_steps =
    turned 7 300 0 0 (root 300 ∷ replicate 299 P ++ (all_of 1 ∷ Q ∷ []))
    ∷ turned 4 1 299 0 (root 1 ∷ all_of 300 ∷ replicate 299 P ++ (True ∷ []))
    ∷ turned 12 0 0 299 (root 1 ∷ all_of 300 ∷ replicate 299 True ++ (P ∷ []))
    ∷ []

pub far_steps_turn :
    far_steps
    ≡ map some
    ((root 300 ∷ replicate 299 P ++ (Q ∷ []))
    ∷ (root 1 ∷ all_of 299 ∷ replicate 299 P)
    ∷ (root 2 ∷ P ∷ all_of 299 ∷ replicate 299 True)
    ∷ [])
unfolding definitions samples turned far_steps
far_steps_turn = refl

-- Numbers that fewer bits would take for the right one: the place, child i, inner child j, an i and a j that must be 0.
unfoldable pub wide_steps : List (Option (List ℕ))
wide_steps =
    map (λ n. turned 7 (1 + n) 0 0 (root 1 ∷ all_of 1 ∷ P ∷ [])) wide
    ++ map (λ n. turned 4 1 n 0 (root 1 ∷ all_of 1 ∷ True ∷ [])) wide
    ++ map (λ n. turned 12 0 0 n (root 1 ∷ all_of 1 ∷ P ∷ [])) wide
    ++ map (λ n. turned 7 1 n 0 (root 1 ∷ all_of 1 ∷ P ∷ [])) wide
    ++ map (λ n. turned 7 1 0 n (root 1 ∷ all_of 1 ∷ P ∷ [])) wide

pub wide_steps_none : wide_steps ≡ replicate 20 none
unfolding definitions samples turned wide_steps
wide_steps_none = refl

-- Steps that do not apply, each next to one that does.
unfoldable pub idle_steps : List (Option (List ℕ))
idle_steps =
    -- No such place: at the used count, past it.
    turned 7 3 0 0 (root 1 ∷ all_of 1 ∷ P ∷ [])
    ∷ turned 7 4 0 0 (root 1 ∷ all_of 1 ∷ P ∷ [])
    ∷ turned 7 65537 0 0 (root 1 ∷ all_of 1 ∷ P ∷ [])
    -- No such child i, though a node of the right kind follows.
    ∷ turned 1 1 2 0 (root 2 ∷ all_of 2 ∷ P ∷ Q ∷ False ∷ [])
    ∷ turned 2 1 2 0 (root 2 ∷ any_of 2 ∷ P ∷ Q ∷ True ∷ [])
    ∷ turned 3 0 2 0 (root 2 ∷ P ∷ False ∷ [])
    ∷ turned 4 1 1 0 (root 2 ∷ all_of 1 ∷ True ∷ True ∷ [])
    ∷ turned 5 1 1 0 (root 2 ∷ any_of 1 ∷ False ∷ False ∷ [])
    ∷ turned 6 0 1 0 (root 1 ∷ True ∷ [])
    ∷ turned 9 1 2 0 (root 2 ∷ any_of 2 ∷ P ∷ Q ∷ P ∷ [])
    ∷ turned 10 0 2 0 (root 2 ∷ P ∷ P ∷ [])
    ∷ turned 11 1 1 0 (root 2 ∷ all_of 1 ∷ Q ∷ all_of 1 ∷ P ∷ [])
    ∷ turned 12 0 1 0 (root 1 ∷ all_of 1 ∷ P ∷ [])
    ∷ turned 13 1 1 0 (root 2 ∷ all_of 1 ∷ P ∷ all_of 1 ∷ Q ∷ [])
    ∷ turned 14 1 2 0 (root 2 ∷ any_of 2 ∷ P ∷ Q ∷ all_of 1 ∷ P ∷ [])
    ∷ turned 15 1 2 0 (root 2 ∷ at_least 1 2 ∷ P ∷ Q ∷ True ∷ [])
    ∷ turned 15 1 0 0 (root 2 ∷ at_least 1 0 ∷ False ∷ [])
    -- No such inner child j.
    ∷ turned 11 1 0 1 (root 1 ∷ all_of 2 ∷ all_of 1 ∷ P ∷ Q ∷ [])
    ∷ turned 12 0 0 1 (root 2 ∷ all_of 1 ∷ P ∷ Q ∷ [])
    ∷ turned 14 1 0 1 (root 1 ∷ any_of 2 ∷ all_of 1 ∷ P ∷ all_of 1 ∷ P ∷ [])
    -- "An index that a rule has no use for must be 0": j, and i for 7, 8, 16 and 17.
    ∷ turned 1 1 1 1 (root 1 ∷ all_of 2 ∷ P ∷ False ∷ [])
    ∷ turned 2 1 1 1 (root 1 ∷ any_of 2 ∷ P ∷ True ∷ [])
    ∷ turned 3 0 1 1 (root 2 ∷ P ∷ False ∷ [])
    ∷ turned 4 1 1 1 (root 1 ∷ all_of 2 ∷ P ∷ True ∷ [])
    ∷ turned 5 1 1 1 (root 1 ∷ any_of 2 ∷ P ∷ False ∷ [])
    ∷ turned 6 0 1 1 (root 2 ∷ P ∷ True ∷ [])
    ∷ turned 7 1 1 0 (root 1 ∷ all_of 1 ∷ P ∷ [])
    ∷ turned 7 1 0 1 (root 1 ∷ all_of 1 ∷ P ∷ [])
    ∷ turned 8 1 1 0 (root 1 ∷ any_of 1 ∷ P ∷ [])
    ∷ turned 8 1 0 1 (root 1 ∷ any_of 1 ∷ P ∷ [])
    ∷ turned 9 1 0 1 (root 1 ∷ any_of 2 ∷ P ∷ P ∷ [])
    ∷ turned 10 0 0 1 (root 2 ∷ P ∷ P ∷ [])
    ∷ turned 13 1 0 1 (root 1 ∷ all_of 1 ∷ all_of 2 ∷ P ∷ Q ∷ [])
    ∷ turned 15 1 1 1 (root 1 ∷ at_least 2 2 ∷ P ∷ True ∷ [])
    ∷ turned 15 1 1 1 (root 1 ∷ at_least 2 2 ∷ P ∷ False ∷ [])
    ∷ turned 16 1 1 0 (root 1 ∷ at_least 0 2 ∷ P ∷ Q ∷ [])
    ∷ turned 16 1 0 1 (root 1 ∷ at_least 3 2 ∷ P ∷ Q ∷ [])
    ∷ turned 17 1 1 0 (root 1 ∷ at_least 1 2 ∷ P ∷ Q ∷ [])
    ∷ turned 17 1 0 1 (root 1 ∷ at_least 2 2 ∷ P ∷ Q ∷ [])
    -- A node of another kind, or a mark, at the place.
    ∷ turned 1 1 1 0 (root 1 ∷ any_of 2 ∷ P ∷ False ∷ [])
    ∷ turned 1 0 1 0 (root 2 ∷ P ∷ False ∷ [])
    ∷ turned 2 1 1 0 (root 1 ∷ all_of 2 ∷ P ∷ True ∷ [])
    ∷ turned 3 1 1 0 (root 1 ∷ all_of 2 ∷ P ∷ False ∷ [])
    ∷ turned 4 0 1 0 (root 2 ∷ P ∷ True ∷ [])
    ∷ turned 5 1 1 0 (root 1 ∷ all_of 2 ∷ P ∷ False ∷ [])
    ∷ turned 6 1 1 0 (root 1 ∷ all_of 2 ∷ P ∷ True ∷ [])
    ∷ turned 7 1 0 0 (root 1 ∷ any_of 1 ∷ P ∷ [])
    ∷ turned 7 0 0 0 (root 1 ∷ P ∷ [])
    ∷ turned 8 1 0 0 (root 1 ∷ all_of 1 ∷ P ∷ [])
    ∷ turned 8 1 0 0 (root 1 ∷ P ∷ [])
    ∷ turned 9 1 0 0 (root 1 ∷ all_of 2 ∷ P ∷ P ∷ [])
    ∷ turned 9 0 0 0 (root 2 ∷ P ∷ P ∷ [])
    ∷ turned 10 1 0 0 (root 1 ∷ any_of 2 ∷ P ∷ P ∷ [])
    ∷ turned 11 0 0 0 (root 1 ∷ all_of 1 ∷ P ∷ [])
    ∷ turned 11 1 0 0 (root 1 ∷ any_of 1 ∷ all_of 1 ∷ P ∷ [])
    ∷ turned 12 1 0 0 (root 1 ∷ all_of 1 ∷ all_of 1 ∷ P ∷ [])
    ∷ turned 13 0 0 0 (root 1 ∷ all_of 1 ∷ P ∷ [])
    ∷ turned 13 1 0 0 (root 1 ∷ any_of 1 ∷ all_of 1 ∷ P ∷ [])
    ∷ turned 14 1 0 0 (root 1 ∷ all_of 2 ∷ all_of 1 ∷ P ∷ all_of 1 ∷ P ∷ [])
    ∷ turned 1 1 1 0 (root 1 ∷ at_least 2 2 ∷ P ∷ False ∷ [])
    ∷ turned 2 1 1 0 (root 1 ∷ at_least 1 2 ∷ P ∷ True ∷ [])
    ∷ turned 4 1 1 0 (root 1 ∷ at_least 2 2 ∷ P ∷ True ∷ [])
    ∷ turned 5 1 1 0 (root 1 ∷ at_least 1 2 ∷ P ∷ False ∷ [])
    ∷ turned 7 1 0 0 (root 1 ∷ at_least 1 1 ∷ P ∷ [])
    ∷ turned 8 1 0 0 (root 1 ∷ at_least 1 1 ∷ P ∷ [])
    ∷ turned 13 1 1 0 (root 1 ∷ at_least 2 2 ∷ P ∷ True ∷ [])
    ∷ turned 15 1 1 0 (root 1 ∷ all_of 2 ∷ P ∷ True ∷ [])
    ∷ turned 15 1 1 0 (root 1 ∷ any_of 2 ∷ P ∷ False ∷ [])
    ∷ turned 15 0 1 0 (root 2 ∷ P ∷ True ∷ [])
    ∷ turned 16 1 0 0 (root 1 ∷ True ∷ [])
    ∷ turned 16 1 0 0 (root 1 ∷ False ∷ [])
    ∷ turned 16 0 0 0 (root 0 ∷ [])
    ∷ turned 16 1 0 0 (root 1 ∷ P ∷ [])
    ∷ turned 17 1 0 0 (root 1 ∷ all_of 1 ∷ P ∷ [])
    ∷ turned 17 1 0 0 (root 1 ∷ any_of 1 ∷ P ∷ [])
    ∷ turned 17 0 0 0 (root 1 ∷ P ∷ [])
    ∷ turned 17 1 0 0 (root 1 ∷ P ∷ [])
    -- Too few children; for 7 and 8 too many too.
    ∷ turned 1 1 0 0 (root 1 ∷ all_of 1 ∷ False ∷ [])
    ∷ turned 2 1 0 0 (root 1 ∷ any_of 1 ∷ True ∷ [])
    ∷ turned 3 0 0 0 (root 1 ∷ False ∷ [])
    ∷ turned 4 1 0 0 (root 1 ∷ True ∷ [])
    ∷ turned 5 1 0 0 (root 1 ∷ False ∷ [])
    ∷ turned 6 0 0 0 (root 0 ∷ [])
    ∷ turned 7 1 0 0 (root 1 ∷ True ∷ [])
    ∷ turned 7 1 0 0 (root 1 ∷ all_of 2 ∷ P ∷ Q ∷ [])
    ∷ turned 8 1 0 0 (root 1 ∷ False ∷ [])
    ∷ turned 8 1 0 0 (root 1 ∷ any_of 2 ∷ P ∷ Q ∷ [])
    ∷ turned 9 1 0 0 (root 1 ∷ any_of 1 ∷ P ∷ [])
    ∷ turned 10 0 0 0 (root 1 ∷ P ∷ [])
    ∷ turned 11 1 0 0 (root 1 ∷ True ∷ [])
    ∷ turned 12 0 0 0 (root 0 ∷ [])
    ∷ turned 13 1 0 0 (root 1 ∷ True ∷ [])
    ∷ turned 14 1 1 0 (root 1 ∷ any_of 2 ∷ P ∷ all_of 1 ∷ P ∷ [])
    -- 1 to 6: child i is the other constant; it only means the right one.
    ∷ turned 1 1 1 0 (root 1 ∷ all_of 2 ∷ P ∷ True ∷ [])
    ∷ turned 1 1 1 0 (root 1 ∷ all_of 2 ∷ P ∷ any_of 1 ∷ False ∷ [])
    ∷ turned 2 1 1 0 (root 1 ∷ any_of 2 ∷ P ∷ False ∷ [])
    ∷ turned 2 1 1 0 (root 1 ∷ any_of 2 ∷ P ∷ all_of 1 ∷ True ∷ [])
    ∷ turned 3 0 1 0 (root 2 ∷ P ∷ True ∷ [])
    ∷ turned 4 1 1 0 (root 1 ∷ all_of 2 ∷ P ∷ False ∷ [])
    ∷ turned 5 1 1 0 (root 1 ∷ any_of 2 ∷ P ∷ True ∷ [])
    ∷ turned 6 0 1 0 (root 2 ∷ P ∷ False ∷ [])
    ∷ turned 4 1 1 0 (root 1 ∷ all_of 2 ∷ P ∷ at_least 0 0 ∷ [])
    ∷ turned 5 1 1 0 (root 1 ∷ any_of 2 ∷ P ∷ at_least 1 0 ∷ [])
    -- 9, 10: the option occurs in no other child, be it outside the node; child i is no mark.
    ∷ turned 9 1 0 0 (root 2 ∷ any_of 2 ∷ P ∷ Q ∷ P ∷ [])
    ∷ turned 9 1 1 0 (root 1 ∷ any_of 2 ∷ P ∷ all_of 1 ∷ P ∷ [])
    ∷ turned 10 0 0 0 (root 2 ∷ P ∷ Q ∷ [])
    ∷ turned 10 0 1 0 (root 2 ∷ P ∷ all_of 1 ∷ P ∷ [])
    -- 11, 12: child i is no all-of; its child j is no mark.
    ∷ turned 11 1 0 0 (root 1 ∷ all_of 1 ∷ any_of 1 ∷ P ∷ [])
    ∷ turned 11 1 0 0 (root 1 ∷ all_of 1 ∷ all_of 2 ∷ True ∷ P ∷ [])
    ∷ turned 11 1 0 0 (root 1 ∷ all_of 1 ∷ True ∷ [])
    ∷ turned 12 0 0 0 (root 1 ∷ any_of 1 ∷ P ∷ [])
    ∷ turned 12 0 0 0 (root 1 ∷ all_of 2 ∷ True ∷ P ∷ [])
    ∷ turned 11 1 0 0 (root 1 ∷ all_of 1 ∷ at_least 1 1 ∷ P ∷ [])
    ∷ turned 12 0 0 0 (root 1 ∷ at_least 1 1 ∷ P ∷ [])
    -- 13: child i is no all-of; another child is no mark.
    ∷ turned 13 1 0 0 (root 1 ∷ all_of 1 ∷ any_of 1 ∷ P ∷ [])
    ∷ turned 13 1 0 0 (root 1 ∷ all_of 2 ∷ all_of 1 ∷ P ∷ True ∷ [])
    ∷ turned 13 1 1 0 (root 1 ∷ all_of 2 ∷ any_of 1 ∷ P ∷ all_of 1 ∷ P ∷ [])
    ∷ turned 13 1 0 0 (root 1 ∷ all_of 1 ∷ at_least 1 1 ∷ P ∷ [])
    ∷ turned 13 1 0 0 (root 1 ∷ all_of 2 ∷ all_of 1 ∷ P ∷ at_least 1 1 ∷ Q ∷ [])
    -- 14: i is a mark, or not the first all-of; j at a second a, or at no mark.
    ∷ turned 14 1 0 0 (root 1 ∷ any_of 3 ∷ P ∷ all_of 1 ∷ P ∷ all_of 1 ∷ P ∷ [])
    ∷ turned 14 1 1 0 (root 1 ∷ any_of 2 ∷ all_of 1 ∷ P ∷ all_of 1 ∷ P ∷ [])
    ∷ turned 14 1 0 1 (root 1 ∷ any_of 2 ∷ all_of 2 ∷ P ∷ P ∷ all_of 1 ∷ P ∷ [])
    ∷ turned 14 1 0 0 (root 1 ∷ any_of 2 ∷ all_of 2 ∷ True ∷ P ∷ all_of 1 ∷ P ∷ [])
    -- 14: an all-of without a, with its opposite only, with a further down; a child that is neither mark nor all-of.
    ∷ turned 14 1 0 0 (root 1 ∷ any_of 3 ∷ all_of 1 ∷ P ∷ all_of 1 ∷ P ∷ all_of 1 ∷ Q ∷ [])
    ∷ turned 14 1 0 0 (root 1 ∷ any_of 2 ∷ all_of 1 ∷ P ∷ all_of 1 ∷ not_P ∷ [])
    ∷ turned 14 1 0 0 (root 1 ∷ any_of 2 ∷ all_of 1 ∷ P ∷ all_of 1 ∷ all_of 1 ∷ P ∷ [])
    ∷ turned 14 1 0 0 (root 1 ∷ any_of 3 ∷ all_of 1 ∷ P ∷ all_of 1 ∷ P ∷ any_of 1 ∷ P ∷ [])
    ∷ turned 14 1 0 0 (root 1 ∷ any_of 3 ∷ all_of 1 ∷ P ∷ all_of 1 ∷ P ∷ at_least 1 1 ∷ P ∷ [])
    -- 15: a member that is a mark. 16: k is 1 at least and not over the members. 17: k is neither 1 nor the members.
    ∷ turned 15 1 0 0 (root 1 ∷ at_least 2 2 ∷ P ∷ True ∷ [])
    ∷ turned 15 1 1 0 (root 1 ∷ at_least 1 2 ∷ False ∷ not_P ∷ [])
    ∷ turned 16 1 0 0 (root 1 ∷ at_least 1 1 ∷ P ∷ [])
    ∷ turned 16 1 0 0 (root 1 ∷ at_least 1 2 ∷ P ∷ Q ∷ [])
    ∷ turned 16 1 0 0 (root 1 ∷ at_least 2 2 ∷ P ∷ Q ∷ [])
    ∷ turned 17 1 0 0 (root 1 ∷ at_least 0 1 ∷ P ∷ [])
    ∷ turned 17 1 0 0 (root 1 ∷ at_least 2 3 ∷ P ∷ Q ∷ R ∷ [])
    ∷ turned 17 1 0 0 (root 1 ∷ at_least 3 2 ∷ P ∷ Q ∷ [])
    ∷ turned 17 1 0 0 (root 1 ∷ at_least 2 0 ∷ [])
    ∷ []

pub idle_steps_none : idle_steps ≡ replicate 137 none
unfolding definitions samples turned idle_steps
idle_steps_none = refl

-- "The house step is the applicable one with lowest rule, then place, i, j." Of several that apply: rule 4, though at a later place than
-- 5; place 1, though at a later child than the next; child 0; inner child 1 of child 0, though there is an inner child 0 of child 1; inner
-- child 0. It is found far off too: at place 21, at child 20, at inner child 20. Where none applies, there is none.
unfoldable pub house_steps : List (Option Redex)
house_steps =
    map
    (λ ns. next (map node_of ns))
    ((root 2 ∷ any_of 2 ∷ P ∷ False ∷ all_of 2 ∷ Q ∷ True ∷ [])
    ∷ (root 2 ∷ all_of 2 ∷ P ∷ True ∷ all_of 2 ∷ True ∷ Q ∷ [])
    ∷ (root 1 ∷ all_of 3 ∷ True ∷ P ∷ True ∷ [])
    ∷ (root 2 ∷ all_of 2 ∷ any_of 2 ∷ P ∷ Q ∷ R ∷ all_of 2 ∷ S ∷ any_of 2 ∷ P ∷ Q ∷ [])
    ∷ (root 1 ∷ all_of 2 ∷ P ∷ Q ∷ [])
    ∷ (root 21 ∷ map (λ v. plain v) (numbers 0 20) ++ (all_of 1 ∷ plain 20 ∷ []))
    ∷ (root 21 ∷ map (λ v. plain v) (numbers 0 20) ++ (True ∷ []))
    ∷ (root 1 ∷ all_of 21 ∷ joined (replicate 20 (any_of 2 ∷ P ∷ Q ∷ [])) ++ (R ∷ []))
    ∷ (root 1 ∷ P ∷ [])
    ∷ [])

pub house_steps_so :
    house_steps
    ≡ map some (redex 4 4 1 0 ∷ redex 4 1 1 0 ∷ redex 4 1 0 0 ∷ redex 12 0 0 1 ∷ redex 12 0 0 0 ∷ [])
    ++ map some (redex 7 21 0 0 ∷ redex 6 0 20 0 ∷ redex 12 0 0 20 ∷ [])
    ++ (none ∷ [])
unfolding definitions samples house_steps
house_steps_so = refl

-- By the call: accepted, with the used count and the zeros; "10 the step does not apply", for an index without use and for a place at the
-- used count; document 02, U4: "refusal 9 is for rules outside 1 to 17", though the rest would do for 7. The last rule is 17.
unfoldable pub answers : List (Outcome (List ℕ) (Unit {0}))
answers =
    let s = sheet 1 (root 1 ∷ all_of 1 ∷ P ∷ []) in
    step_of s 7 1 0 0 ∷ step_of s 7 1 0 1 ∷ step_of s 7 3 0 0 ∷ step_of s 17 1 0 0 ∷ step_of s 0 1 0 0 ∷ step_of s 18 1 0 0 ∷ []

pub steps_answered :
    answers
    ≡ record { answer = accepted tt; lent = sheet 1 (root 1 ∷ P ∷ []) }
    ∷ record { answer = refused step_refused; lent = sheet 1 (root 1 ∷ all_of 1 ∷ P ∷ []) }
    ∷ record { answer = refused step_refused; lent = sheet 1 (root 1 ∷ all_of 1 ∷ P ∷ []) }
    ∷ record { answer = refused step_refused; lent = sheet 1 (root 1 ∷ all_of 1 ∷ P ∷ []) }
    ∷ record { answer = refused rule_refused; lent = sheet 1 (root 1 ∷ all_of 1 ∷ P ∷ []) }
    ∷ record { answer = refused rule_refused; lent = sheet 1 (root 1 ∷ all_of 1 ∷ P ∷ []) }
    ∷ []
unfolding definitions samples answers
steps_answered = refl

-- "9 rule not 1 to 14", and since document 02, U4 not 1 to 17: rule 7 applies, and no number that fewer bits would take for 7 is a rule.
unfoldable pub wide_rules : List ℕ
wide_rules = map (λ n. said (step_of (sheet 1 (root 1 ∷ all_of 1 ∷ P ∷ [])) (7 + n) 1 0 0).answer) (0 ∷ wide)

pub wide_rules_refused : wide_rules ≡ 0 ∷ replicate 4 9
unfolding definitions samples wide_rules
wide_rules_refused = refl
