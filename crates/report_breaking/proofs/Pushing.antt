-- A tree's entry takes the place of those that it is made of.
use mathlib.Core.Bool.{Bool}
use mathlib.Core.List.{List, ◌∷◌}
use mathlib.Core.Path.{◌≡◌, refl, sym, ap, ap₂, subst, ◌∙◌}
use Prim.Native.Nat.{ℕ, suc, ◌+◌, ◌≤◌, ◌<◌}
use native.Mathlib.Omega.{arith}
use lib.ListN.{length, take, drop, set, length-set}
use lib.Seq.{length-take-le, set_split, drop_at, drop-drop}
use Rattle.report_breaking.specs.Stacks.{broken, Stacked, bottom, Made, Stack}
use Rattle.report_breaking.proofs.Entries.{stacked_drop, bottom_drop, broken_drop}

-- On lists.
module _ {v : ℕ → Bool} (ls fs new : List ℕ) (k f : ℕ) (s : Stacked (length ls) fs) (m : Made v ls (take k fs) new f) where
  pushed_stacked : Stacked (length new) (f ∷ drop k fs)
  pushed_stacked = (m.long, m.none, subst (λ n. Stacked n (drop k fs)) (sym m.first) (stacked_drop (length ls) k fs s))

  pushed_bottom : bottom (length new) (f ∷ drop k fs) ≡ bottom (length ls) fs
  unfolding bottom
  pushed_bottom = ap (λ n. bottom n (drop k fs)) m.first ∙ bottom_drop (length ls) k fs

  pushed_broken : (q : ℕ) → broken q new (f ∷ drop k fs) ≡ v q ∷ drop k (broken q ls fs)
  unfolding broken
  pushed_broken q =
      ap₂ ◌∷◌ (m.each q)
      (ap (λ l. broken q l (drop k fs)) (m.same ∙ ap (λ n. take n ls) m.first) ∙ broken_drop q k (length ls) ls fs refl s)

-- In arrays: the entry is put at the last place of those that it stands for.
module _ {v : ℕ → Bool} {places stack : List ℕ} {top end : ℕ} (h : Stack places stack top end) (k i f : ℕ) (new : List ℕ) (to : ℕ)
    (at : suc i ≡ top + k) (low : i < length stack) (room : to ≤ length new)
    (m : Made v (take end places) (take k (drop top stack)) (take to new) f) where
  fs : List ℕ
  fs = drop top stack

  put : drop i (set stack i f) ≡ f ∷ drop k fs
  unfolding fs
  put =
      ap (drop i) (set_split stack i f low)
      ∙ drop_at (take i stack) (f ∷ drop (suc i) stack) i (length-take-le i stack (omega arith))
      ∙ ap (λ l. f ∷ l) (ap (λ n. drop n stack) at ∙ sym (drop-drop k top stack))

  before : Stacked (length (take end places)) fs
  unfolding fs
  before = subst (λ n. Stacked n (drop top stack)) (sym (length-take-le end places h.room)) h.stacked

  new_stack : Stack new (set stack i f) i to
  unfolding fs
  new_stack =
      record {
        room = room;
        low = simp length-set (omega arith);
        stacked = rw put (subst (λ n. Stacked n (f ∷ drop k fs)) (length-take-le to new room)
            (pushed_stacked (take end places) fs (take to new) k f before m));
        whole = rw put (ap (λ n. bottom n (f ∷ drop k fs)) (sym (length-take-le to new room))
            ∙ pushed_bottom (take end places) fs (take to new) k f before m
            ∙ ap (λ n. bottom n fs) (length-take-le end places h.room) ∙ h.whole);
        inside = m.inside;
      }

  new_values : (q : ℕ) → broken q (take to new) (drop i (set stack i f)) ≡ v q ∷ drop k (broken q (take end places) (drop top stack))
  unfolding fs
  new_values q = rw put (pushed_broken (take end places) fs (take to new) k f before m q)

  pub pushed : Stack new (set stack i f) i to
      × ((q : ℕ) → broken q (take to new) (drop i (set stack i f)) ≡ v q ∷ drop k (broken q (take end places) (drop top stack)))
  pushed = (new_stack, new_values)
