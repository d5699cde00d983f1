-- The characters of a code, and the lines of one option more.
use mathlib.Core.Bool.{Bool, true, false}
use mathlib.Core.List.{List, [], ◌∷◌, ◌++◌, append-nil, append_assoc}
use mathlib.Core.Path.{◌≡◌, sym, ap, ◌∙◌}
use Prim.Native.Nat.{ℕ, suc, ◌+◌, ◌*◌, ◌-◌, ◌≤◌, ◌<◌}
use native.Mathlib.Numerals.{add-one}
use native.Mathlib.Omega.{arith}
use borrow.Author.Rules.{part_to_end}
use borrow.Rule.Slice.PartMut.{mid_of, put_mid}
use borrow.Author.Tests.{eq-eqb, ne_eqb}
use lib.Dec.{eqb}
use lib.ListN.{length, take, drop, get_or, length-take}
use lib.Seq.{slice, slice-cons, slice_empty, take-suc, length-take-le}
use Rattle.model.specs.Base.{pick}
use Rattle.model.specs.Book.{characters, pieces}
use Rattle.calls.specs.Desk.{line, mark_word, option_lines}
use Rattle.theory_reading.specs.Stretches.{live_short}
use Rattle.book_codes.proofs.Pieces.{count_pieces, pieces_more}
use Rattle.common_decimal.specs.Placed.{after, filled}
use Rattle.common_decimal.proofs.PlacedBytes.{placed_then}
use Rattle.desk_printing.proofs.PlacedLines.{length_line}

-- The characters of a code of which k were passed.
module _ (s : List ℕ) (k : ℕ) (long : 13 ≤ length s) (h : k < 13) where
  pub characters_stop : get_or s k 0 ≡ 0 → characters (slice k 13 s) ≡ []
  unfolding characters pick
  characters_stop e = rw (slice-cons k 13 s 0 h long, eq-eqb (get_or s k 0) 0 e)

  pub characters_more : (get_or s k 0 ≡ 0 → ⊥) → take k s ++ characters (slice k 13 s) ≡ take (k + 1) s ++ characters (slice (k + 1) 13 s)
  unfolding characters pick
  characters_more ne =
      rw (slice-cons k 13 s 0 h long, ne_eqb (get_or s k 0) 0 ne, add-one k, take-suc s k 0 (omega arith))
      (sym (append_assoc (take k s) (get_or s k 0 ∷ []) (characters (slice (suc k) 13 s))))

pub characters_end : (s : List ℕ) → characters (slice 13 13 s) ≡ []
unfolding characters
characters_end s = rw (slice_empty 13 s)

-- One line more.
lines_more :
    (cs : List (List ℕ)) (ms c : List ℕ) (m : ℕ) →
    length cs ≡ length ms →
    option_lines (cs ++ (c ∷ [])) (ms ++ (m ∷ [])) ≡ option_lines cs ms ++ line (characters c) (mark_word m)
unfolding option_lines
lines_more [] [] c m e = append-nil (line (characters c) (mark_word m))
lines_more [] (x ∷ ms) c m e = absurd (omega (arith, e))
lines_more (d ∷ cs) [] c m e = absurd (omega (arith, e))
lines_more (d ∷ cs) (x ∷ ms) c m e =
    ap (λ r. line (characters d) (mark_word x) ++ r) (lines_more cs ms c m (omega (arith, e)))
    ∙ sym (append_assoc (line (characters d) (mark_word x)) (option_lines cs ms) (line (characters c) (mark_word m)))

-- A line has at most 13 characters, a space, a word of four and its end.
short_word : (m : ℕ) → length (mark_word m) ≤ 4
unfolding mark_word pick
short_word m = go (eqb m 1) (eqb m 2)
  where
    go : (t u : Bool) → length {A = ℕ} (pick t (105 ∷ 110 ∷ []) (pick u (111 ∷ 117 ∷ 116 ∷ []) (111 ∷ 112 ∷ 101 ∷ 110 ∷ []))) ≤ 4
    go true u = omega arith
    go false true = omega arith
    go false false = omega arith

pub option_short : (c : List ℕ) (m : ℕ) → length (line (characters (take 13 c)) (mark_word m)) ≤ 19
option_short c m =
    omega (arith, length_line (characters (take 13 c)) (mark_word m), live_short (take 13 c), length-take 13 c, short_word m)

-- The lines of the options passed, and the next in the rest of the buffer, whose code is read in the rest of the codes.
module _ (codes marks old : List ℕ) (i : ℕ) (h : i < length marks) where
  pub options_more :
      {m r : ℕ} {l ys : List ℕ} →
      after m l ≡ filled (option_lines (pieces 13 i codes) (take i marks)) old →
      m ≤ length l →
      after r ys
      ≡ filled (line (characters (take 13 (take (length codes - 13 * i) (drop (13 * i) codes)))) (mark_word (get_or marks i 0)))
      (mid_of m (length l - m) l) →
      after (m + r) (put_mid m (length l - m) l ys) ≡ filled (option_lines (pieces 13 (i + 1) codes) (take (i + 1) marks)) old
  options_more e room f =
      let c = take 13 (drop (13 * i) codes) in
      let many : length (pieces 13 i codes) ≡ length (take i marks) =
      omega (arith, count_pieces 13 i codes, length-take-le i marks (omega arith)) in
      rw (add-one i, pieces_more 13 i codes, take-suc marks i 0 h, lines_more (pieces 13 i codes) (take i marks) c (get_or marks i 0) many)
      (placed_then (option_lines (pieces 13 i codes) (take i marks)) (line (characters c) (mark_word (get_or marks i 0))) old e room
      (rw (part_to_end codes (13 * i)) at f))
