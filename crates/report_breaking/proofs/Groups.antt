-- Trees that a connective joins: which literals break the tree that they make.
use mathlib.Core.Bool.{Bool, true, false, ◌&&◌, ◌||◌, or_comm}
use mathlib.Core.List.{List, [], ◌∷◌}
use mathlib.Core.Logic.{⊎_elim}
use mathlib.Core.Path.{◌≡◌, refl, sym, ap, ◌∙◌}
use Prim.Native.Nat.{ℕ, suc, ◌+◌, ◌-◌, ◌*◌, ◌≤◌, ◌<◌}
use native.Mathlib.Omega.{arith}
use borrow.Author.Tests.{eqb-true, leb-false, le-leb, lt-leb}
use lib.Dec.{eqb, leb}
use lib.ListN.{length, get_or, take, drop}
use lib.Seq.{length-take-le, take_all, take-take, drop-length}
use Rattle.model.specs.Base.{pick}
use Rattle.model.specs.Forest.{Conn, or}
use Rattle.model.specs.Clauses.{need}
use Rattle.theory_meaning.specs.Evaluation.{fails_all, count, threshold}
use Rattle.theory_meaning.specs.Families.{leb_same}
use Rattle.theory_forms.specs.Logic.{either, and_split, and_join, same_test, fails_if, true_false}
use Rattle.report_breaking.specs.Stacks.{among, InTable, begin, failing, broken, Stacked, bottom, standing, Counted, Made}
use Rattle.report_breaking.proofs.Among.{among_take, among_drop, among_cut}
use Rattle.report_breaking.proofs.Entries.{even_entry, odd_entry, standing_most, bottom_low, broken_length}

-- One tree more, which fails as it is or by a literal or not at all, beside s that stand and k that fail of n.
least_step : (a m : Bool) (n s k : ℕ) → n ≤ s + k → suc n ≤ pick a s (suc s) + pick (a || m) (suc k) k
unfolding pick
least_step true m n s k h = omega arith
least_step false true n s k h = omega arith
least_step false false n s k h = omega arith

more_step : (a m : Bool) (n s k : ℕ) → n ≤ s + k →
    leb (suc (suc n)) (pick a s (suc s) + pick (a || m) (suc k) k) ≡ pick a (leb (suc n) (s + k)) (m || leb (suc n) (s + k))
unfolding pick
more_step true m n s k h = leb_same (suc (suc n)) (s + suc k) (suc n) (s + k) (λ l. omega (arith, l)) (λ l. omega (arith, l))
more_step false true n s k h = le-leb (suc (suc n)) (suc s + suc k) (omega arith)
more_step false false n s k h = leb_same (suc (suc n)) (suc s + k) (suc n) (s + k) (λ l. omega (arith, l)) (λ l. omega (arith, l))

module _ (q : ℕ) where
  -- At least those of the trees fail that fail as they are.
  pub fail_least : (ls fs : List ℕ) → length fs ≤ standing fs + count (broken q ls fs)
  unfolding broken count standing
  fail_least ls [] = omega arith
  fail_least ls (f ∷ fs) =
      let rest = take (begin f) ls in
      least_step (failing f) (among q (drop (begin f) ls)) (length fs) (standing fs) (count (broken q rest fs)) (fail_least rest fs)

  -- More of them fail exactly where the literal is one of those that break some.
  pub more_fail : (ls fs : List ℕ) {n : ℕ} → length ls ≡ n → Stacked n fs →
      leb (suc (length fs)) (standing fs + count (broken q ls fs)) ≡ among q (drop (bottom n fs) ls)
  unfolding broken bottom count standing among pick
  more_fail ls [] e s = rw (← e, drop-length ls)
  more_fail ls (f ∷ fs) e s =
      let low = s.0 in
      let rest = take (begin f) ls in
      let under = bottom (begin f) fs in
      let inner = more_fail rest fs (length-take-le (begin f) ls (omega arith)) s.2 in
      more_step (failing f) (among q (drop (begin f) ls)) (length fs) (standing fs) (count (broken q rest fs)) (fail_least rest fs)
      ∙ ⊎_elim
      (λ (b : failing f ≡ true). rw b (inner ∙ ap (λ l. among q (drop under l)) (take_all (begin f) ls (omega (arith, s.1 b)))))
      (λ (b : failing f ≡ false). rw (b, inner)
      (or_comm (among q (drop (begin f) ls)) (among q (drop under rest))
      ∙ sym (among_cut q under (begin f) ls (bottom_low (begin f) fs s.2) (omega arith))))
      (either (failing f))

-- Where literals were counted, those of the last trees whose counts are at the number break a disjunction.
pub common_breaks : {ls fs held : List ℕ} {n : ℕ} → Counted ls fs held n → 1 ≤ n → (q : ℕ) →
    (among q (drop (bottom (length ls) fs) ls) && eqb (get_or held q 0) n) ≡ fails_all or (broken q ls fs)
common_breaks {ls} {fs} {held} {n} h l q =
    same_test (among q (drop (bottom (length ls) fs) ls) && eqb (get_or held q 0) n) (eqb (get_or held q 0) n)
    (λ e. (and_split (among q (drop (bottom (length ls) fs) ls)) (eqb (get_or held q 0) n) e).1)
    (λ e. and_join (⊎_elim (λ z. absurd (omega (arith, eqb-true (get_or held q 0) n e))) (λ z. z) (h.blank q)) e)
    ∙ h.common q

-- Any connective, by how many of its children it needs to fail and how many do as they are.
module _ (c : Conn) (q : ℕ) (ls fs : List ℕ) where
  by_need : fails_all c (broken q ls fs) ≡ leb (need c (length fs)) (count (broken q ls fs))
  by_need = threshold c (broken q ls fs) ∙ ap (λ m. leb (need c m) (count (broken q ls fs))) (broken_length q ls fs)

  -- Enough do: it fails.
  pub falls_by : need c (length fs) ≤ length fs - standing fs → fails_all c (broken q ls fs) ≡ true
  falls_by h = by_need ∙ le-leb (need c (length fs)) (count (broken q ls fs)) (omega (arith, fail_least q ls fs))

  -- One is lacking: the literals of all that stand break it.
  pub stands_by : Stacked (length ls) fs → need c (length fs) ≡ suc (length fs - standing fs) →
      among q (drop (bottom (length ls) fs) ls) ≡ fails_all c (broken q ls fs)
  stands_by s h =
      let most = standing_most fs in
      sym (by_need
      ∙ ap (λ r. leb r (count (broken q ls fs))) h
      ∙ leb_same (suc (length fs - standing fs)) (count (broken q ls fs)) (suc (length fs)) (standing fs + count (broken q ls fs))
      (λ l. omega (arith, l)) (λ l. omega (arith, l))
      ∙ more_fail q ls fs refl s)

  -- More are lacking than one literal makes fail: none breaks it.
  pub far_from : count (broken q ls fs) ≤ suc (length fs - standing fs) → suc (length fs - standing fs) < need c (length fs) →
      fails_all c (broken q ls fs) ≡ false
  far_from few h = by_need ∙ lt-leb (need c (length fs)) (count (broken q ls fs)) (omega arith)

-- A literal that is in no list makes no tree fail.
pub fail_as_they_are : (q : ℕ) (ls fs : List ℕ) {n : ℕ} → length ls ≡ n → Stacked n fs → among q ls ≡ false →
    count (broken q ls fs) ≤ length fs - standing fs
fail_as_they_are q ls fs {n} e s h =
    let none : among q (drop (bottom n fs) ls) ≡ false =
    fails_if (among q (drop (bottom n fs) ls)) (λ m. true_false (sym (among_drop q (bottom n fs) ls m) ∙ h)) in
    omega (arith, leb-false (suc (length fs)) (standing fs + count (broken q ls fs)) (more_fail q ls fs e s ∙ none))

-- The tree that is made of them.
module _ (v : ℕ → Bool) (ls fs : List ℕ) (s : Stacked (length ls) fs) (inside : InTable ls) {base : ℕ}
    (e : base ≡ bottom (length ls) fs) where
  pub makes_failing : ((q : ℕ) → v q ≡ true) → Made v ls fs (take base ls) (2 * base + 1)
  makes_failing h =
      let o = odd_entry base in
      let long : length (take base ls) ≡ base = length-take-le base ls (omega (arith, bottom_low (length ls) fs s)) in
      record {
        first = o.0 ∙ e;
        long = omega arith;
        same = take-take (begin (2 * base + 1)) base ls (omega arith);
        inside = λ x m. inside x (among_take x base ls m);
        each = λ q. rw o.1 (sym (h q));
        none = λ z. omega arith;
      }

  pub makes_standing : (new : List ℕ) → base ≤ length new → take base new ≡ take base ls → InTable new →
      ((q : ℕ) → among q (drop base new) ≡ v q) → Made v ls fs new (2 * base)
  makes_standing new long same inside_new h =
      let o = even_entry base in
      record {
        first = o.0 ∙ e;
        long = omega arith;
        same = rw o.0 same;
        inside = inside_new;
        each = λ q. rw (o.0, o.1) (h q);
        none = λ z. true_false (sym z ∙ o.1);
      }
