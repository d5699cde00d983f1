-- Small combinators over Bool, Option and List that the definitions are written with.
use Rattle.std.specs.Prelude.{Bool, true, false, ◌&&◌, ◌||◌, List, [], ◌∷◌, ◌++◌, ℕ, zero, suc, eqb, length, drop}
use Rattle.std.proofs.Math.Option.{Option, none, some}

module _ {A : Type 0} where
  -- One of two values, by a test.
  unfoldable pub pick : Bool → A → A → A
  pick true a b = a
  pick false a b = b

  -- The value, where the test holds.
  unfoldable pub only_if : Bool → A → Option A
  only_if true a = some a
  only_if false a = none

  -- The first of two answers that is one.
  unfoldable pub first_of : Option A → Option A → Option A
  first_of none o = o
  first_of (some a) o = some a

  unfoldable pub is_some : Option A → Bool
  is_some none = false
  is_some (some a) = true

  unfoldable pub all : (A → Bool) → List A → Bool
  all p [] = true
  all p (x ∷ xs) = p x && all p xs

  unfoldable pub any : (A → Bool) → List A → Bool
  any p [] = false
  any p (x ∷ xs) = p x || any p xs

  -- The answer at the least number below a bound that has one.
  unfoldable pub least : ℕ → (ℕ → Option A) → Option A
  least zero f = none
  least (suc n) f = let later = least n (λ k. f (suc k)) in first_of (f zero) later

-- A value for no answer, and what to make of one.
unfoldable pub maybe : {A B : Type 0} → B → (A → B) → Option A → B
maybe b f none = b
maybe b f (some a) = f a

unfoldable pub then : {A B : Type 0} → Option A → (A → Option B) → Option B
then none f = none
then (some a) f = f a

-- "Fills from the start; bytes beyond stay": a buffer after numbers were put at its start.
unfoldable pub placed : List ℕ → List ℕ → List ℕ
placed new old = new ++ drop (length new) old

-- Two lists of numbers have the same numbers in the same order.
unfoldable pub same_list : List ℕ → List ℕ → Bool
same_list [] [] = true
same_list [] (y ∷ ys) = false
same_list (x ∷ xs) [] = false
same_list (x ∷ xs) (y ∷ ys) = eqb x y && same_list xs ys
