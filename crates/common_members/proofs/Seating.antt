-- Members looked at one after the other, from the last. One law for numbers and for bytes.
use mathlib.Core.Bool.{Bool, true, false, ◌&&◌, ◌||◌, not, and-true, or-false}
use mathlib.Core.List.{List, [], ◌∷◌, map}
use mathlib.Core.Path.{◌≡◌, refl, sym, ap, ap₂, ◌∙◌}
use Prim.Native.Nat.{ℕ, zero, suc, ◌-◌, ◌≤◌, ◌<◌}
use native.Mathlib.Omega.{arith}
use lib.Dec.{eqb}
use lib.ListN.{length, get_or, drop, replicate}
use lib.Seq.{drop-cons, drop-length}
use Rattle.model.specs.Literal.{option}
use Rattle.model.specs.Code.{Node, leaf, head, node_of}
use Rattle.theory_forms.specs.Logic.{true_false, and_split, fails_if}
use Rattle.theory_forms.specs.Lists.{map_drop}
use Rattle.theory_forms.specs.Seats.{bare, names, apart}
use Rattle.common_members.specs.Marks.{marked, mark_words, Marks, admitted}
use Rattle.common_members.proofs.Bits.{marked_none}

-- One member more, before others: it is admitted by what they name, and names besides what it names alone.
apart_more : (f : ℕ → Bool) (y : Node) (ns : List Node) → ((v : ℕ) → f v ≡ names v ns) → apart (y ∷ ns) ≡ (admitted f y && apart ns)
unfolding apart admitted
apart_more f (leaf l) ns h = ap (λ b. not b && apart ns) (sym (h (option l)))
apart_more f (head c m) ns h = refl

names_more : (v : ℕ) (y : Node) (ns : List Node) → names v (y ∷ ns) ≡ (names v (y ∷ []) || names v ns)
unfolding names
names_more v (leaf l) ns = ap (λ b. b || names v ns) (sym (or-false (eqb v (option l))))
names_more v (head c m) ns = refl

-- What comes last among members are members.
apart_last : (k : ℕ) (ns : List Node) → apart ns ≡ true → apart (drop k ns) ≡ true
unfolding apart
apart_last zero ns h = h
apart_last (suc k) [] h = h
apart_last (suc k) (leaf l ∷ ns) h = apart_last k ns (and_split (not (names (option l) ns)) (apart ns) h).1
apart_last (suc k) (head c m ∷ ns) h = apart_last k ns (and_split (bare c m) (apart ns) h).1

-- The numbers from place i on are members, and the marks are those of the options that they name.
abbrev read : ℕ → List ℕ → List Node
read i xs = map node_of (drop i xs)

pub record Seated (xs ms : List ℕ) (i : ℕ) : Type 0 where
  pub apart : apart (read i xs) ≡ true
  pub marks : Marks (λ v. names v (read i xs)) ms

pub begun : (xs : List ℕ) {i : ℕ} → i ≡ length xs → Seated xs (replicate mark_words 0) i
unfolding apart names
begun xs {i} e =
    let none : read i xs ≡ [] = ap (λ j. read j xs) e ∙ ap (map node_of) (drop-length xs) in
    record { apart = ap apart none; marks = record { long = refl; bits = λ v. marked_none mark_words v ∙ sym (ap (names v) none) } }

-- The number before place i, and what was asked of it.
module _ {xs ms : List ℕ} {i x : ℕ} (some_left : 0 < i) (within : i ≤ length xs) (k : Seated xs ms i) (e : x ≡ get_or xs (i - 1) 0) where
  one_more : read (i - 1) xs ≡ node_of x ∷ read i xs
  one_more =
      let back : suc (i - 1) ≡ i = omega arith in
      ap (map node_of) (drop-cons xs (i - 1) 0 (omega arith)) ∙ ap₂ (λ y j. node_of y ∷ read j xs) (sym e) back

  told : apart (read (i - 1) xs) ≡ admitted (marked ms) (node_of x)
  told = ap apart one_more ∙ apart_more (marked ms) (node_of x) (read i xs) k.marks.bits ∙ rw k.apart (and-true (admitted (marked ms) (node_of x)))

  -- It is a member too; or it is none, and then not all are.
  pub seated_more :
      {ns : List ℕ} →
      admitted (marked ms) (node_of x) ≡ true →
      Marks (λ v. names v (node_of x ∷ []) || marked ms v) ns →
      Seated xs ns (i - 1)
  seated_more {ns} a m = record { apart = told ∙ a; marks = record { long = m.long; bits = named } }
    where
      named : (v : ℕ) → marked ns v ≡ names v (read (i - 1) xs)
      named v =
          m.bits v
          ∙ ap (λ b. names v (node_of x ∷ []) || b) (k.marks.bits v)
          ∙ sym (ap (names v) one_more ∙ names_more v (node_of x) (read i xs))

  pub not_seated : admitted (marked ms) (node_of x) ≡ false → apart (map node_of xs) ≡ false
  not_seated a =
      fails_if (apart (map node_of xs))
      (λ all. true_false (sym (ap apart (map_drop node_of (i - 1) xs) ∙ apart_last (i - 1) (map node_of xs) all) ∙ told ∙ a))
