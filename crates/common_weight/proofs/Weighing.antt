-- Numbers weighed one after the other: what is summed, and what is still to come. One law for sheets and books.
use mathlib.Core.Bool.{true, false}
use mathlib.Core.List.{List, map}
use mathlib.Core.Path.{◌≡◌}
use Prim.Native.Nat.{ℕ, ◌+◌, ◌≤◌, ◌<◌}
use native.Mathlib.Numerals.{add-one}
use native.Mathlib.Omega.{arith}
use lib.ListN.{length, get_or, drop}
use lib.Seq.{drop-cons, drop-length}
use Rattle.model.specs.Code.{literals, node_of}
use Rattle.theory_forms.specs.Scan.{is_literal, literals_more, literals_same}
use Rattle.common_weight.specs.Sums.{most_sum}

-- The literals from a place on.
abbrev to_come : ℕ → List ℕ → ℕ
to_come i xs = literals (map node_of (drop i xs))

-- The sum at place i of the numbers, which began with what is counted before any literal. With the literals to come it is the weight w.
pub record Weighed (start : ℕ) (xs : List ℕ) (w i sum : ℕ) : Type 0 where
  pub place : i ≤ length xs
  pub few : sum ≤ start + i
  pub whole : w ≡ sum + to_come i xs

module _ {start w : ℕ} {xs : List ℕ} where
  pub begun : w ≡ start + literals (map node_of xs) → Weighed start xs w 0 start
  begun e = record { place = omega arith; few = omega arith; whole = e }

  -- At any place the sum is at most 8,192, if it is with a literal for each number.
  pub small : {i sum : ℕ} → start + length xs ≤ most_sum → Weighed start xs w i sum → Weighed start xs w i sum × (sum ≤ most_sum)
  small h k = (k, omega (arith, k.place, k.few))

  module _ {i sum : ℕ} (h : i < length xs) (k : Weighed start xs w i sum) {next : ℕ} where
    pub literal_weighed : is_literal (get_or xs i 0) ≡ true → next ≡ sum + 1 → Weighed start xs w (i + 1) next
    literal_weighed l e =
        let one : to_come i xs ≡ 1 + to_come (i + 1) xs = rw (drop-cons xs i 0 h, literals_more (get_or xs i 0) _ l, add-one) (omega arith) in
        record { place = omega arith; few = omega (arith, k.few); whole = omega (arith, k.whole, one) }

    pub other_weighed : is_literal (get_or xs i 0) ≡ false → next ≡ sum → Weighed start xs w (i + 1) next
    other_weighed l e =
        let none : to_come i xs ≡ to_come (i + 1) xs = rw (drop-cons xs i 0 h, literals_same (get_or xs i 0) _ l, add-one) in
        record { place = omega arith; few = omega (arith, k.few); whole = omega (arith, k.whole, none) }

  pub all_weighed : {i sum : ℕ} → i ≡ length xs → Weighed start xs w i sum → sum ≡ w
  unfolding literals
  all_weighed e k = let rest : to_come (length xs) xs ≡ 0 = rw (drop-length xs) in omega (arith, rw e at k.whole, rest)
