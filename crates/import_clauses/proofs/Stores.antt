-- Several stretches of one list that are stored in turn: `sets l i xs` is the list `l` with `xs` stored from place `i` on.
use mathlib.Core.List.{List, [], ◌∷◌, ◌++◌}
use mathlib.Core.Path.{◌≡◌, refl, sym, ap, ◌∙◌}
use Prim.Native.Nat.{ℕ, suc, ◌+◌, ◌/◌, ◌%◌, ◌≤◌, ◌<◌}
use native.Mathlib.Nat.{add-zero, zero-add}
use native.Mathlib.Numerals.{add-one}
use native.Mathlib.Omega.{arith}
use lib.ListN.{length, drop, set, length-append, length-drop}
use lib.Seq.{sets, sets-eq, set_comm, take_at, drop_at, drop-drop}
use Rattle.model.specs.Base.{placed}
use Rattle.model.specs.Book.{bytes_of}

module _ {A : Type 0} where
  -- One stretch after another is one longer stretch.
  pub sets_append : (l : List A) (i : ℕ) (xs ys : List A) → sets l i (xs ++ ys) ≡ sets (sets l i xs) (i + length xs) ys
  sets_append l i [] ys = rw (add-zero i)
  sets_append l i (x ∷ xs) ys =
      let next : i + suc (length xs) ≡ suc i + length xs = omega arith in rw next (sets_append (set l i x) (suc i) xs ys)

  -- The order in which two stretches are stored that do not meet is no matter.
  before_sets : (l : List A) (i j : ℕ) (a : A) (xs : List A) → i < j → set (sets l j xs) i a ≡ sets (set l i a) j xs
  before_sets l i j a [] h = refl
  before_sets l i j a (x ∷ xs) h =
      before_sets (set l j x) i (suc j) a xs (omega arith)
      ∙ ap (λ r. sets r (suc j) xs) (set_comm l j i x a (λ e. absurd (omega arith)))

  pub sets_apart : (l : List A) (i j : ℕ) (xs ys : List A) → i + length xs ≤ j → sets (sets l i xs) j ys ≡ sets (sets l j ys) i xs
  sets_apart l i j [] ys h = refl
  sets_apart l i j (x ∷ xs) ys h =
      sets_apart (set l i x) (suc i) j xs ys (omega arith)
      ∙ ap (λ r. sets r (suc i) xs) (sym (before_sets l i j x ys (omega arith)))

  -- So a stretch may be stored before one that stands already.
  pub sets_before : (l : List A) (i : ℕ) (xs ys : List A) → sets (sets l (i + length xs) ys) i xs ≡ sets l i (xs ++ ys)
  sets_before l i xs ys =
      sym (sets_append l i xs ys ∙ sets_apart l i (i + length xs) xs ys (omega arith))

  -- After a start that was written before, in a list that was otherwise left as it was.
  pub sets_next :
      (p old : List A) {l : List A} {a : ℕ} →
      length p ≡ a →
      l ≡ p ++ drop a old →
      (xs : List A) →
      a + length xs ≤ length old →
      sets l a xs ≡ (p ++ xs) ++ drop (a + length xs) old
  sets_next p old {l} {a} long e xs h =
      let room : a + length xs ≤ length l = omega (arith, ap length e, length-append p (drop a old), length-drop a old) in
      sets-eq xs l a room
      ∙ rw (e, take_at p (drop a old) a long, ← drop-drop (length xs) a (p ++ drop a old), drop_at p (drop a old) a long)
      (ap (λ r. (p ++ xs) ++ r) (drop-drop (length xs) a old))

-- At the start.
pub sets_start : (l xs : List ℕ) → length xs ≤ length l → sets l 0 xs ≡ placed xs l
unfolding placed
sets_start l xs h = sets-eq xs l 0 (rw (zero-add (length xs)) h) ∙ rw (zero-add (length xs))

-- A number as two bytes.
pub word_stored : (l : List ℕ) (k x : ℕ) → set (set l k (x % 256)) (k + 1) (x / 256 % 256) ≡ sets l k (bytes_of (x ∷ []))
unfolding bytes_of
word_stored l k x = rw (add-one k)

-- Two numbers, one after the other.
pub pair_stored :
    (l : List ℕ) (k x y : ℕ) {l₁ l₂ : List ℕ} →
    l₁ ≡ set (set l k (x % 256)) (k + 1) (x / 256 % 256) →
    l₂ ≡ set (set l₁ (k + 2) (y % 256)) (k + 2 + 1) (y / 256 % 256) →
    l₂ ≡ sets l k (bytes_of (x ∷ y ∷ []))
unfolding bytes_of
pair_stored l k x y {l₁} e f =
    let first : List ℕ = bytes_of (x ∷ []) in
    let second : List ℕ = bytes_of (y ∷ []) in
    f ∙ word_stored l₁ (k + 2) y ∙ ap (λ r. sets r (k + 2) second) (e ∙ word_stored l k x) ∙ sym (sets_append l k first second)
