-- Rules in another order have the same models.
use mathlib.Core.List.{List, [], ◌∷◌, map, flatten, Permᴰ}
use Rattle.std.specs.Prelude.{◌≡◌, refl}
use Rattle.std.proofs.Common.{sym, ap}
use Rattle.model.specs.Literal.{Literal}
use Rattle.model.specs.Clauses.{Clause}
use Rattle.calls.specs.History.{choice_clauses}
use Rattle.call_laws.specs.Valuations.{SameModels, same_of, same_trans, same_both, same_swap}

pub reordered_models :
    {A : Type 0} (f : A → List Clause) {xs ys : List A} →
    Permᴰ xs ys →
    SameModels (flatten (map f xs)) (flatten (map f ys))
unfolding flatten
reordered_models f Permᴰ.nil = same_of refl
reordered_models f (Permᴰ.cons e p) = same_both (same_of (ap f e)) (reordered_models f p)
reordered_models f (Permᴰ.swap {a = a} {b = b} {l = xs} e q) =
    same_trans (same_swap (f a) (f b) (flatten (map f xs))) (same_both (same_of (ap f q)) (same_both (same_of (ap f e)) (same_of refl)))
reordered_models f (Permᴰ.trans p q) = same_trans (reordered_models f p) (reordered_models f q)

-- Choices in another order too: each is a clause of its own.
each_clause : (ls : List Literal) → choice_clauses ls ≡ flatten (map (λ l. (l ∷ []) ∷ []) ls)
unfolding choice_clauses flatten
each_clause [] = refl
each_clause (l ∷ ls) = ap (λ cs. (l ∷ []) ∷ cs) (each_clause ls)

pub reordered_choices : {ls ms : List Literal} → Permᴰ ls ms → SameModels (choice_clauses ls) (choice_clauses ms)
reordered_choices {ls} {ms} p =
    same_trans (same_of (each_clause ls))
    (same_trans (reordered_models (λ l. (l ∷ []) ∷ []) p) (same_of (sym (each_clause ms))))
