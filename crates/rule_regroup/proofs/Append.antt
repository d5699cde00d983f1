-- Numbers written into a list one after another: nothing yet, one more, and more after them.
use mathlib.Core.List.{List, [], ◌∷◌, ◌++◌, append-nil, append_assoc}
use mathlib.Core.Path.{◌≡◌, refl, sym, ap, ◌∙◌}
use Prim.Native.Nat.{ℕ, ◌+◌, ◌-◌, ◌≤◌, ◌<◌}
use native.Mathlib.Numerals.{add-one}
use native.Mathlib.Omega.{arith}
use borrow.Rule.Slice.PartMut.{put_mid, post_of}
use lib.ListN.{length, take, set, length-append, length-set}
use lib.Seq.{take_at, take-suc-set, length-take-le}
use Rattle.rule_regroup.specs.Regrouped.{Appended}

pub appended_none : (from : ℕ) (l : List ℕ) → Appended [] from l l from
appended_none from l = record { end = omega arith; front = sym (append-nil (take from l)) }

pub appended_one : (x from : ℕ) (l : List ℕ) → from < length l → Appended (x ∷ []) from l (set l from x) (from + 1)
appended_one x from l h = record { end = refl; front = rw add-one (take-suc-set l from x h) }

-- Two runs, one after the other, are one.
pub appended_both :
    {p q : List ℕ} {from mid to : ℕ} {old new newer : List ℕ} →
    Appended p from old new mid →
    Appended q mid new newer to →
    Appended (p ++ q) from old newer to
appended_both {p} {q} {from} {old = old} a b =
    record {
      end = omega (arith, a.end, b.end, length-append p q);
      front = b.front ∙ ap (λ t. t ++ q) a.front ∙ append_assoc (take from old) p q;
    }

-- A run that is known by another name.
pub appended_as : {p q : List ℕ} {from to : ℕ} {old new : List ℕ} → p ≡ q → Appended p from old new to → Appended q from old new to
appended_as e a = rw e at a

-- A run that is put in place of as many numbers.
pub appended_put :
    (src : List ℕ) (from : ℕ) (l : List ℕ) →
    from + length src ≤ length l →
    Appended src from l (put_mid from (from + length src - from) l src) (from + length src)
appended_put src from l h =
    let k = from + length src - from in
    let long : length (take from l ++ src) ≡ from + length src = omega (arith, length-append (take from l) src, length-take-le from l (omega arith)) in
    record {
      end = refl;
      front = ap (take (from + length src)) (sym (append_assoc (take from l) src (post_of from k l))) ∙ take_at (take from l ++ src) (post_of from k l) (from + length src) long;
    }

-- Three numbers.
pub appended_three :
    (x y z from : ℕ) (l : List ℕ) →
    from + 3 ≤ length l →
    Appended (x ∷ y ∷ z ∷ []) from l (set (set (set l from x) (from + 1) y) (from + 2) z) (from + 3)
appended_three x y z from l h =
    let two : from + 1 + 1 ≡ from + 2 = omega arith in
    let three : from + 2 + 1 ≡ from + 3 = omega arith in
    let m = set l from x in
    let n = set m (from + 1) y in
    appended_both (appended_one x from l (omega arith))
    (appended_both (rw two at (appended_one y (from + 1) m (simp length-set (omega arith)))) (rw three at (appended_one z (from + 2) n (simp length-set (omega arith)))))
