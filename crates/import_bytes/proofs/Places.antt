-- Bytes at a place of a text, and what begins there.
use mathlib.Core.Bool.{Bool, true, false, ◌&&◌, ◌||◌}
use mathlib.Core.List.{List, [], ◌∷◌}
use mathlib.Core.Path.{◌≡◌, refl, ap, ◌∙◌}
use Prim.Native.Nat.{ℕ, zero, suc, ◌+◌, ◌≤◌, ◌<◌}
use native.Mathlib.Nat.{add-zero}
use native.Mathlib.Omega.{arith}
use borrow.Author.Tests.{ne_eqb}
use lib.Dec.{eqb}
use lib.ListN.{length, length-drop, get_or, drop, drop_of_length-le, get_or-eq_default}
use lib.Seq.{drop-cons, get_or-drop}
use Rattle.std.specs.List.{prefix_len, take_while}
use Rattle.std.proofs.Common.{cond}
use Rattle.std.proofs.lemmas.List.Folds.{length-prefix_len}
use Rattle.model.specs.Base.{pick}
use Rattle.texts.specs.ClauseFile.{is_blank}
use Rattle.theory_texts.specs.Breaks.{before_end, breaks}
use Rattle.theory_texts.specs.Spans.{span, span_within}
use Rattle.theory_texts.specs.PLines.{ends_line}

and_false : (b : Bool) → (b && false) ≡ false
and_false true = refl
and_false false = refl

or_false : (b : Bool) → (b || false) ≡ b
or_false true = refl
or_false false = refl

or_assoc : (a b c : Bool) → (a || b || c) ≡ (a || (b || c))
or_assoc true b c = refl
or_assoc false b c = refl

break_first : (b : List ℕ) → breaks b ≡ (is_blank (get_or b 0 0) || ends_line b)
unfolding breaks ends_line is_blank
break_first [] = refl
break_first (x ∷ b) = or_assoc (is_blank x) (eqb x 10) (before_end x b)

module _ (l : List ℕ) (at : ℕ) where
  pub first_here : get_or (drop at l) 0 0 ≡ get_or l at 0
  first_here = get_or-drop at l 0 0 ∙ ap (λ k. get_or l k 0) (add-zero at)

  -- A line end, by the two bytes here.
  pub ends_past : length l ≤ at → ends_line (drop at l) ≡ true
  unfolding ends_line
  ends_past h = ap ends_line (drop_of_length-le l h)

  next_here : get_or (drop (suc at) l) 0 0 ≡ get_or l (at + 1) 0
  next_here =
      let e : suc at + 0 ≡ at + 1 = omega arith in get_or-drop (suc at) l 0 0 ∙ ap (λ k. get_or l k 0) e

  pub ends_here : at < length l → ends_line (drop at l) ≡ (eqb (get_or l at 0) 10 || (eqb (get_or l at 0) 13 && eqb (get_or l (at + 1) 0) 10))
  unfolding ends_line before_end
  ends_here h = ap ends_line (drop-cons l at 0 h) ∙ ap (λ x. eqb (get_or l at 0) 10 || (eqb (get_or l at 0) 13 && eqb x 10)) next_here

  pub ends_by_both : at < length l → get_or l at 0 ≡ 13 → ends_line (drop at l) ≡ eqb (get_or l (at + 1) 0) 10
  ends_by_both h e = ends_here h ∙ rw e

  pub ends_not_last : at < length l → get_or l at 0 ≡ 13 → length l ≤ at + 1 → ends_line (drop at l) ≡ false
  ends_not_last h e k = let none = get_or-eq_default l 0 {n = at + 1} k in ends_by_both h e ∙ rw none

  pub ends_by_ten : at < length l → (get_or l at 0 ≡ 13 → ⊥) → ends_line (drop at l) ≡ eqb (get_or l at 0) 10
  ends_by_ten h n = ends_here h ∙ rw (ne_eqb (get_or l at 0) 13 n) (or_false (eqb (get_or l at 0) 10))

  -- A blank, or a line end.
  pub breaks_here : breaks (drop at l) ≡ (is_blank (get_or l at 0) || ends_line (drop at l))
  breaks_here = break_first (drop at l) ∙ ap (λ x. is_blank x || ends_line (drop at l)) first_here

  pub breaks_past : length l ≤ at → breaks (drop at l) ≡ true
  unfolding breaks
  breaks_past h = ap breaks (drop_of_length-le l h)

  pub breaks_space : get_or l at 0 ≡ 32 → breaks (drop at l) ≡ true
  unfolding is_blank
  breaks_space e = breaks_here ∙ rw e

  pub breaks_tab : get_or l at 0 ≡ 9 → breaks (drop at l) ≡ true
  unfolding is_blank
  breaks_tab e = breaks_here ∙ rw e

  pub breaks_other : eqb (get_or l at 0) 32 ≡ false → eqb (get_or l at 0) 9 ≡ false → breaks (drop at l) ≡ ends_line (drop at l)
  unfolding is_blank
  breaks_other n m = breaks_here ∙ rw (n, m)

-- How far bytes go for which a test holds, as std counts them.
pub span_prefix : (p : ℕ → Bool) (on : List ℕ → Bool) → ((x : ℕ) (b : List ℕ) → on (x ∷ b) ≡ p x) → (b : List ℕ) → prefix_len p b ≡ span on b
unfolding span pick
span_prefix p on same [] = refl
span_prefix p on same (x ∷ b) = rw (same x b) (go (p x) (span_prefix p on same b))
  where
    go : (t : Bool) → prefix_len p b ≡ span on b → cond t (1 + prefix_len p b) 0 ≡ pick t (suc (span on b)) zero
    go true e = omega (arith, e)
    go false e = refl

-- Bytes that were counted so are passed.
module _ (p : ℕ → Bool) (on : List ℕ → Bool) (same : (x : ℕ) (b : List ℕ) → on (x ∷ b) ≡ p x) (l : List ℕ) (at n : ℕ) (h : at ≤ length l)
    (e : n ≡ length (take_while p (drop at l))) where
  counted : n ≡ span on (drop at l)
  counted = e ∙ length-prefix_len p (drop at l) ∙ span_prefix p on same (drop at l)

  pub far_counted : (at + n ≡ at + span on (drop at l)) × (at + n ≤ length l)
  far_counted =
      let w = span_within on (drop at l) in
      let g = counted in
      (omega (arith, g), omega (arith, g, w, length-drop at l))
