-- Comment lines passed one after another: the file is that of the bytes after them.
use mathlib.Core.Bool.{true, false}
use mathlib.Core.List.{List}
use mathlib.Core.Path.{◌≡◌, sym, ap, ◌∙◌}
use Prim.Native.Nat.{ℕ, suc, ◌+◌, ◌-◌, ◌≤◌, ◌<◌}
use native.Mathlib.Omega.{arith}
use borrow.Author.Tests.{ne_eqb}
use lib.Dec.{eqb}
use lib.ListN.{length, get_or, take, drop, length-drop, drop_of_length-le}
use lib.Seq.{drop-drop}
use Rattle.model.specs.Base.{all}
use Rattle.texts.specs.ClauseFile.{file_of}
use Rattle.theory_texts.specs.Comments.{on_line, line_length, no_end, line_block, comment_passed}
use Rattle.theory_texts.specs.Spans.{Passed}
use Rattle.import_bytes.proofs.Places.{first_here}

-- No comment begins here.
pub record Past (l : List ℕ) (at : ℕ) : Type 0 where
  pub within : at ≤ length l
  pub same_file : file_of (drop at l) ≡ file_of l

module _ (l : List ℕ) (at end : ℕ) (p : Past l at) (comment : get_or l at 0 ≡ 99) (far : end ≡ at + line_length (drop at l)) where
  skipped : file_of (drop (suc end) l) ≡ file_of l
  skipped =
      let k : ℕ = suc (line_length (drop at l)) in
      let e : at + k ≡ suc end = omega (arith, far) in
      ap (λ n. file_of (drop n l)) (sym e)
      ∙ ap file_of (sym (drop-drop k at l))
      ∙ sym (comment_passed (drop at l) (first_here l at ∙ comment))
      ∙ p.same_file

  pub past_line : end < length l → Past l (end + 1)
  past_line h = let e : end + 1 ≡ suc end = omega arith in record { within = omega arith; same_file = rw e skipped }

  -- A comment without an end is the last thing in the text.
  pub past_last : length l ≤ end → end ≤ length l → Past l end
  past_last h k =
      let far : length l ≤ suc end = omega arith in
      record { within = k; same_file = ap file_of (drop_of_length-le l h ∙ sym (drop_of_length-le l far)) ∙ skipped }

module _ (l : List ℕ) (at : ℕ) where
  pub other_here : (get_or l at 0 ≡ 99 → ⊥) → eqb (get_or (drop at l) 0 0) 99 ≡ false
  other_here n = ap (λ x. eqb x 99) (first_here l at) ∙ ne_eqb (get_or l at 0) 99 n

  pub nothing_here : length l ≤ at → eqb (get_or (drop at l) 0 0) 99 ≡ false
  nothing_here h = ap (λ b. eqb (get_or b 0 0) 99) (drop_of_length-le l h)

-- A block without a 10 passed at once.
pub block_passed :
    (l : List ℕ) (at i : ℕ) →
    Passed on_line l at i →
    i + 32 ≤ length l →
    all no_end (take (i + 32 - i) (drop i l)) ≡ true →
    Passed on_line l at (i + 32)
block_passed l at i p h e =
    let size : i + 32 - i ≡ 32 = omega arith in
    let whole = line_block 32 (drop i l) (omega (arith, length-drop i l)) (ap (λ k. all no_end (take k (drop i l))) (sym size) ∙ e) in
    (h, omega (arith, p.1, whole, ap line_length (drop-drop 32 i l)))
