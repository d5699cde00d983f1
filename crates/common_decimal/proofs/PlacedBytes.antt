-- Bytes at the start of a buffer, and more bytes after them.
use mathlib.Core.List.{List, ◌++◌}
use mathlib.Core.Path.{◌≡◌, sym, ap, ◌∙◌}
use Prim.Native.Nat.{ℕ, ◌+◌, ◌-◌, ◌≤◌}
use native.Mathlib.Omega.{arith}
use borrow.Rule.Slice.PartMut.{mid_of, put_mid}
use lib.ListN.{length, take, drop, length-append}
use lib.Seq.{take_at}
use Rattle.common_lists.proofs.Lent.{lent_start}
use Rattle.model.specs.Base.{placed}
use Rattle.common_decimal.specs.Placed.{after, filled}

module _ (bytes old : List ℕ) {r : ℕ} {l : List ℕ} where
  pub placed_by : r ≡ length bytes → l ≡ bytes ++ drop r old → after r l ≡ filled bytes old
  unfolding filled placed
  placed_by e f = rw (f, e)

  pub placed_count : after r l ≡ filled bytes old → r ≡ length bytes
  unfolding filled placed
  placed_count e = ap (λ w. w.count) e

  pub placed_buffer : after r l ≡ filled bytes old → l ≡ bytes ++ drop r old
  unfolding filled placed
  placed_buffer e = let n = placed_count e in rw n (ap (λ w. w.buffer) e)

  -- They stand within the buffer, at its start.
  pub placed_within : after r l ≡ filled bytes old → r ≤ length l
  placed_within e =
      omega (arith, ap length (placed_buffer e), length-append bytes (drop r old), placed_count e)

  pub placed_start : after r l ≡ filled bytes old → take r l ≡ bytes
  placed_start e = ap (take r) (placed_buffer e) ∙ take_at bytes (drop r old) r (sym (placed_count e))

-- Bytes at the start, and more at the start of the rest that is lent.
pub placed_then :
    (p q old : List ℕ) {m r : ℕ} {l ys : List ℕ} →
    after m l ≡ filled p old →
    m ≤ length l →
    after r ys ≡ filled q (mid_of m (length l - m) l) →
    after (m + r) (put_mid m (length l - m) l ys) ≡ filled (p ++ q) old
placed_then p q old {m} {r} {l} e h f =
    let rest = mid_of m (length l - m) l in
    placed_by (p ++ q) old (omega (arith, length-append p q, placed_count p old e, placed_count q rest f))
    (lent_start p old (sym (placed_count p old e)) (placed_buffer p old e) q r h (placed_buffer q rest f))
