-- Lines that are copied: how many may be read, what then stands in the array, and what a reader of the copy may rely on.
use mathlib.Core.Bool.{Bool, true, false, ◌&&◌}
use mathlib.Core.List.{List, ◌++◌}
use mathlib.Core.Path.{◌≡◌, refl, sym, ap, ◌∙◌}
use Prim.Native.Nat.{ℕ, ◌+◌, ◌-◌, ◌≤◌}
use native.Mathlib.Omega.{arith}
use lib.Dec.{T, eqb, leb, eqb→eq, leb→le}
use lib.ListN.{length, take, drop, replicate, length-append, length-drop, length-replicate, replicate-append-replicate}
use lib.Seq.{length-take-le, take_at, drop_at}
use borrow.Author.Tests.{eq-eqb, le-leb}
use package.mir.Facts.{and_yes}
use Rattle.model.specs.Base.{pick}
use Rattle.order_lines.specs.declared.Line.{Line}
use Rattle.order_lines.specs.LineMeaning.{blank}
use Rattle.order_lines.specs.LentLines.{readable, copied_lines}

-- no more lines than there are slots, and no more than 64
pub readable_fits : (slots count : ℕ) → (readable slots count ≤ slots) × (readable slots count ≤ 64)
unfolding readable pick
readable_fits slots count = go (eqb slots 64 && leb count 64) (λ t. t)
  where
    go : (z : Bool) → (T z → T (eqb slots 64 && leb count 64)) → (pick z count 0 ≤ slots) × (pick z count 0 ≤ 64)
    go true f =
        let h = and_yes (eqb slots 64) (leb count 64) (f tt) in
        let e = eqb→eq slots 64 h.0 in
        let m = leb→le count 64 h.1 in
        (omega arith, omega arith)
    go false f = (omega arith, omega arith)

-- where they fit, all that are counted
readable_all : (slots count : ℕ) → slots ≡ 64 → count ≤ 64 → readable slots count ≡ count
unfolding readable pick
readable_all slots count e h = rw (eq-eqb slots 64 e, le-leb count 64 h) refl

drop_replicate : {A : Type 0} (i n : ℕ) (a : A) → i ≤ n → drop i (replicate n a) ≡ replicate (n - i) a
drop_replicate {A} i n a h =
    let both : i + (n - i) ≡ n = omega arith in
    let apart : replicate n a ≡ replicate i a ++ replicate (n - i) a = ap (λ m. replicate m a) (sym both) ∙ sym (replicate-append-replicate i (n - i) a) in
    ap (drop i) apart ∙ drop_at (replicate i a) (replicate (n - i) a) i (length-replicate i a)

module _ (l : List Line) where
  -- the array with the first i lines copied
  abbrev pub copies_of : ℕ → List Line
  copies_of i = take i l ++ drop i (replicate 64 blank)

  pub copied_long : (i : ℕ) → i ≤ length l → i ≤ 64 → length (copies_of i) ≡ 64
  copied_long i h k = omega (arith, length-append (take i l) (drop i (replicate 64 blank)), length-take-le i l h, length-drop i (replicate 64 blank))

  pub copied_all : (n i : ℕ) → i ≡ readable (length l) n → copies_of i ≡ copied_lines l n
  unfolding copied_lines
  copied_all n i e = ap copies_of e ∙ ap (λ r. take (readable (length l) n) l ++ r) (drop_replicate (readable (length l) n) 64 blank (readable_fits (length l) n).1)

  -- 64 places, and where there are 64 slots and no more lines than slots, the lines
  pub copied_length : (n : ℕ) → length (copied_lines l n) ≡ 64
  copied_length n =
      let h = readable_fits (length l) n in
      ap length (sym (copied_all n (readable (length l) n) refl)) ∙ copied_long (readable (length l) n) h.0 h.1

  pub copied_start : (n : ℕ) → length l ≡ 64 → n ≤ 64 → take n (copied_lines l n) ≡ take n l
  unfolding copied_lines
  copied_start n slots h =
      let e : readable (length l) n ≡ n = readable_all (length l) n slots h in
      ap (λ k. take n (take k l ++ replicate (64 - k) blank)) e ∙ take_at (take n l) (replicate (64 - n) blank) n (length-take-le n l (omega arith))
