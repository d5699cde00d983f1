-- A part of a slice from a place to its end, lent as writable: the whole has what the part became in the part's place.
use mathlib.Core.List.{List, ◌++◌, append-nil, append_assoc}
use mathlib.Core.Path.{◌≡◌, sym, ap, ◌∙◌}
use Prim.Native.Nat.{ℕ, ◌+◌, ◌-◌, ◌≤◌}
use native.Mathlib.Omega.{arith}
use borrow.Rule.Slice.PartMut.{mid_of, put_mid, Post-is}
use lib.ListN.{length, take, drop, length-drop}
use lib.Seq.{take_all, take_at, drop_at, drop-drop, drop-length}

module _ {A : Type 0} (a : ℕ) (l : List A) where
  -- What is lent.
  pub lent_part : mid_of a (length l - a) l ≡ drop a l
  lent_part = take_all (length l - a) (drop a l) (omega (arith, length-drop a l))

  pub lent_at : {b : ℕ} → a ≡ b → mid_of a (length l - a) l ≡ drop b l
  lent_at e = lent_part ∙ ap (λ n. drop n l) e

  -- What comes back.
  pub lent_back : (ys : List A) → a ≤ length l → put_mid a (length l - a) l ys ≡ take a l ++ ys
  lent_back ys h =
      ap (λ r. take a l ++ (ys ++ r)) (Post-is a (length l) l h ∙ drop-length l) ∙ ap (λ r. take a l ++ r) (append-nil ys)

-- A list whose start was written, of which the rest is lent.
module _ {A : Type 0} (p old : List A) {l : List A} {a : ℕ} (long : length p ≡ a) (e : l ≡ p ++ drop a old) where
  pub lent_rest : mid_of a (length l - a) l ≡ drop a old
  lent_rest = lent_part a l ∙ ap (drop a) e ∙ drop_at p (drop a old) a long

  -- The start stays.
  pub lent_after : (ys : List A) → a ≤ length l → put_mid a (length l - a) l ys ≡ p ++ ys
  lent_after ys h = lent_back a l ys h ∙ ap (λ r. r ++ ys) (ap (take a) e ∙ take_at p (drop a old) a long)

  -- Where the rest's own start was written, both stand at the start.
  pub lent_start :
      (q : List A) (b : ℕ) {ys : List A} →
      a ≤ length l →
      ys ≡ q ++ drop b (mid_of a (length l - a) l) →
      put_mid a (length l - a) l ys ≡ (p ++ q) ++ drop (a + b) old
  lent_start q b {ys} h f =
      lent_after ys h
      ∙ ap (λ r. p ++ r) (f ∙ ap (λ r. q ++ drop b r) lent_rest ∙ ap (λ r. q ++ r) (drop-drop b a old))
      ∙ sym (append_assoc p q (drop (a + b) old))
