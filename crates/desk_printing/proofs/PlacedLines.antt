-- The bytes of a line at the start of a buffer.
use mathlib.Core.List.{List, [], ◌∷◌, ◌++◌, append_assoc}
use mathlib.Core.Path.{◌≡◌, sym, ◌∙◌}
use Prim.Native.Nat.{ℕ, suc, ◌+◌, ◌-◌, ◌≤◌, ◌<◌}
use native.Mathlib.Numerals.{add-one}
use native.Mathlib.Omega.{arith}
use borrow.Rule.Slice.PartMut.{mid_of, put_mid}
use lib.ListN.{length, take, drop, set, length-append, length-set}
use lib.Seq.{take-length, drop-cons, get_or-set_same, get_or-set_other, drop-set-lt}
use Rattle.calls.specs.Desk.{line}
use Rattle.common_lists.proofs.Lent.{lent_start}
use Rattle.common_decimal.specs.Placed.{after, filled}
use Rattle.common_decimal.proofs.PlacedBytes.{placed_by}

pub length_line : (a b : List ℕ) → length (line a b) ≡ length a + length b + 2
unfolding line
length_line a b = omega (arith, length-append a (32 ∷ b ++ (10 ∷ [])), length-append b (10 ∷ []))

-- A buffer with a space and a line end put at two places, from each of them on.
module _ (old : List ℕ) (space end : ℕ) (apart : space < end) (room : end < length old) where
  from_space : drop space (set (set old space 32) end 10) ≡ 32 ∷ drop (suc space) (set (set old space 32) end 10)
  from_space =
      let other : space ≡ end → ⊥ = λ e. omega arith in
      let both = set (set old space 32) end 10 in
      drop-cons both space 0 (omega (arith, length-set (set old space 32) end 10, length-set old space 32))
      ∙ rw (get_or-set_other (set old space 32) end space 10 0 other, get_or-set_same old space 32 0 (omega arith))

  from_end : drop end (set (set old space 32) end 10) ≡ 10 ∷ drop (suc end) old
  from_end =
      let long = length-set old space 32 in
      drop-cons (set (set old space 32) end 10) end 0 (omega (arith, length-set (set old space 32) end 10, long))
      ∙ rw (
        get_or-set_same (set old space 32) end 10 0 (omega (arith, long)),
        drop-set-lt (suc end) (set old space 32) end 10 (omega arith),
        drop-set-lt (suc end) old space 32 (omega arith),
      )

-- A line is written in four parts: its space and its end, the first word before the one, the second word before the other.
pub line_written :
    (a b old : List ℕ) {w l ys : List ℕ} →
    length a + length b + 2 ≤ length old →
    w ≡ set (set old (length a) 32) (length a + 1 + length b) 10 →
    l ≡ take (length a) a ++ drop (length a) w →
    length a + 1 ≤ length l →
    ys ≡ take (length b) b ++ drop (length b) (mid_of (length a + 1) (length l - (length a + 1)) l) →
    after (length a + 1 + length b + 1) (put_mid (length a + 1) (length l - (length a + 1)) l ys) ≡ filled (line a b) old
unfolding line
line_written a b old {l = l} room ends e h f =
    let p : List ℕ = a ++ (32 ∷ []) in
    let end : ℕ = length a + 1 + length b in
    let both : List ℕ = set (set old (length a) 32) end 10 in
    let long : length p ≡ length a + 1 = length-append a (32 ∷ []) in
    let start : l ≡ p ++ drop (length a + 1) both =
    rw (e, ends, take-length a, from_space old (length a) end (omega arith) (omega arith), ← add-one (length a))
    (sym (append_assoc a (32 ∷ []) (drop (length a + 1) both))) in
    let words = lent_start p both long start b (length b) h (f ∙ rw (take-length b)) in
    placed_by (line a b) old (omega (arith, length_line a b))
    (words ∙ rw (from_end old (length a) end (omega arith) (omega arith), add-one end) (simp append_assoc))
