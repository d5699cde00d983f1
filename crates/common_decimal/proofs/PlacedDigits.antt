-- The digits of a number at the start of a buffer, where those of a tenth of it were put there first.
use mathlib.Core.List.{List, []}
use mathlib.Core.Path.{◌≡◌, refl, sym}
use Prim.Native.Nat.{ℕ, ◌+◌, ◌/◌, ◌%◌, ◌≤◌, ◌<◌}
use native.Mathlib.Omega.{arith}
use lib.ListN.{length, set}
use Rattle.texts.specs.Decimals.{decimal}
use Rattle.theory_texts.specs.Decimals.{decimal_small, decimal_large, length_small, length_large}
use Rattle.common_lists.proofs.Starts.{start_more}
use Rattle.common_decimal.specs.Placed.{after, filled}
use Rattle.common_decimal.proofs.PlacedBytes.{placed_by, placed_count, placed_buffer}

pub decimal_one : (n : ℕ) (old : List ℕ) → n < 10 → 0 < length old → after 1 (set old 0 (48 + n)) ≡ filled (decimal n) old
decimal_one n old h room =
    placed_by (decimal n) old (sym (length_small n h)) (start_more [] (decimal n) old (48 + n) (decimal_small n h) refl room refl)

pub decimal_more :
    (n : ℕ) (old : List ℕ) {k : ℕ} {l : List ℕ} →
    10 ≤ n →
    length (decimal n) ≤ length old →
    after k l ≡ filled (decimal (n / 10)) old →
    after (k + 1) (set l k (48 + n % 10)) ≡ filled (decimal n) old
decimal_more n old h room e =
    let long = placed_count (decimal (n / 10)) old e in
    placed_by (decimal n) old (omega (arith, length_large n h, long))
    (start_more (decimal (n / 10)) (decimal n) old (48 + n % 10) (decimal_large n h) (sym long) (omega (arith, length_large n h, long))
    (placed_buffer (decimal (n / 10)) old e))
