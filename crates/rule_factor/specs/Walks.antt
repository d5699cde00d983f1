-- Trees on a run of numbers, one after another: what a walk over them finds, tests and counts.
use Rattle.std.specs.Prelude.{Bool, true, ◌&&◌, ◌||◌, List, [], ◌∷◌, ℕ, zero, suc, ◌+◌, eqb, leb, ltb, get_or, drop}
use Rattle.std.proofs.Math.Option.{Option, none, some}
use Rattle.model.specs.Base.{pick, maybe}
use Rattle.model.specs.Code.{kind, children}
use Rattle.theory_forms.specs.Scan.{is_literal}
use Rattle.theory_reading.specs.Spans.{span, child_at}

-- What stands after the first tree.
abbrev pub next : List ℕ → List ℕ
next l = drop (span 1 l) l

-- So many trees, or as many as there are, the last one first: what each makes of the list that it begins and of what those after it made.
unfoldable pub walk : {A : Type 0} → (List ℕ → A → A) → A → ℕ → List ℕ → A
walk f e zero l = e
walk f e (suc n) [] = e
walk f e (suc n) (x ∷ xs) = f (x ∷ xs) (walk f e n (next (x ∷ xs)))

-- The place of the first of so many trees that is the number itself, or the place after them where none is.
unfoldable pub unit_place : ℕ → ℕ → List ℕ → ℕ
unit_place a n l = walk (λ s later. pick (eqb (get_or s 0 0) a) 0 (span 1 s + later)) 0 n l

-- The number is one of so many trees itself.
unfoldable pub among : ℕ → ℕ → List ℕ → Bool
among a n l = ltb (unit_place a n l) (span n l)

-- The number of child j of a group, where it is a literal's that is no earlier child.
unfoldable pub unit_at : ℕ → List ℕ → Option ℕ
unit_at j l =
    let x = get_or l (child_at j l) 0 in
    pick (leb (children (get_or l 0 0)) j) none (pick (is_literal x) (pick (among x j (drop 1 l)) none (some x)) none)

-- The same, and else 0.
unfoldable pub unit_of : ℕ → List ℕ → ℕ
unit_of j l = maybe 0 (λ x. x) (unit_at j l)

-- The first tree is a literal, or a conjunction that has the number among its children; and so each of so many.
unfoldable pub shares_here : ℕ → List ℕ → Bool
shares_here a l =
    let x = get_or l 0 0 in
    is_literal x || (eqb (kind x) 3 && among a (children x) (drop 1 l))

unfoldable pub all_share : ℕ → ℕ → List ℕ → Bool
all_share a n l = walk (λ s later. shares_here a s && later) true n l

-- One for a group, nothing for a literal; the groups among so many trees; their number where all share.
unfoldable pub group_here : ℕ → ℕ
group_here x = pick (is_literal x) 0 1

unfoldable pub groups_in : ℕ → List ℕ → ℕ
groups_in n l = walk (λ s later. group_here (get_or s 0 0) + later) 0 n l

unfoldable pub sharing : ℕ → ℕ → List ℕ → ℕ
sharing a n l = pick (all_share a n l) (groups_in n l) 0
