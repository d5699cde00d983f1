-- `book_codes::is_same` meets its contract: slices are compared as the definition compares lists.
use mathlib.Core.Bool.{◌&&◌}
use mathlib.Core.List.{List, [], ◌∷◌}
use mathlib.Core.Path.{◌≡◌, refl, ap, ◌∙◌}
use Prim.Native.Nat.{ℕ}
use lib.Dec.{eqb}
use lib.Pointwise.{pointwise}
use Rattle.model.specs.Base.{same_list}
use Rattle.model.specs.Book.{same_code}
use Rattle.book_codes.proofs.is_same.Goals as goal

pointwise_same : (xs ys : List ℕ) → pointwise eqb xs ys ≡ same_list xs ys
unfolding same_list
pointwise_same [] [] = refl
pointwise_same [] (y ∷ ys) = refl
pointwise_same (x ∷ xs) [] = refl
pointwise_same (x ∷ xs) (y ∷ ys) = ap (λ b. eqb x y && b) (pointwise_same xs ys)

pub returns : goal.returns
unfolding same_code
returns c = c.eq.ensures ∙ pointwise_same _ _
