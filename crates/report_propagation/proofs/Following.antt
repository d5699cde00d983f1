-- Laws of a trail that is followed: a turn's chain passed, each of its literals followed for all parts; and that at its end the
-- table has the report.
use mathlib.Core.Bool.{Bool, true, false, not, ◌&&◌}
use mathlib.Core.List.{List}
use mathlib.Core.Logic.{inl, inr, ⊎_elim}
use mathlib.Core.Path.{◌≡◌, refl, sym, ap, ◌∙◌}
use Prim.Native.Nat.{ℕ, suc, ◌+◌, ◌-◌, ◌≤◌, ◌<◌}
use native.Mathlib.Omega.{arith}
use borrow.Author.Tests.{ltb-true, ltb-false, leb-true, leb-false, eq-eqb, lt-ltb}
use lib.Dec.{eqb, ltb, leb}
use lib.ListN.{length, get_or, set}
use lib.Seq.{get_or-set_other}
use Rattle.model.specs.Limits.{sheet_length, most_literals}
use Rattle.model.specs.Literal.{Literal, complement, option}
use Rattle.model.specs.Forest.{root}
use Rattle.model.specs.Code.{decode}
use Rattle.model.specs.Sheet.{options_in, nodes_in, numbers_in, report_in}
use Rattle.theory_forms.specs.Logic.{true_false, either, fails_if, and_split, and_join}
use Rattle.theory_forms.specs.Scan.{is_literal}
use Rattle.theory_forms.specs.Sheets.{Formed}
use Rattle.theory_meaning.specs.Evaluation.{fails}
use Rattle.theory_meaning.specs.FailedLiterals.{place_of, set_of, forced_by, place_below, HasReport, report_conflict, sheet_report, sheet_failed}
use Rattle.theory_reading.specs.Leaves.{place_at}
use Rattle.theory_meaning.specs.NumberTrees.{tree_fails}
use Rattle.report_parts.specs.Parts.{stretch, PartFails, Parted, Occurs, links_length, OnChain, Linked}
use Rattle.report_parts.proofs.Parting.{same_fails}
use Rattle.report_parts.proofs.Linking.{same_or_not, below_next}
use Rattle.report_parts.proofs.Finding.{stretch_number, stretch_long}
use Rattle.report_breaking.specs.Breaking.{opposite}
use Rattle.report_propagation.specs.declared.Extent.{Extent}
use Rattle.report_propagation.specs.declared.Turn.{Turn}
use Rattle.report_propagation.specs.Trails.{HasFallen, Exhausted, Looked, Watching, due, Passed, PassedTo, NextDue}
use Rattle.report_propagation.proofs.Learning.{opposite_place}
use Rattle.report_propagation.proofs.Looking.{part_inside}
use Rattle.report_propagation.proofs.Watching.{watching_looked, noted_later, noted_now}

-- A place of the chain is passed: its part is not due.
module _ {s ends homes links : List ℕ} (table : Parted s ends homes) (links_of : Linked s links) {q : ℕ}
    (small : q < most_literals) {seen : List ℕ} {turn : Turn} where
  pub passed_none : OnChain s q turn.place → Passed s ends seen q turn (get_or links turn.place 0)
  passed_none c =
      let latest = links_of.before q turn.place small c in
      record {
        there = ⊎_elim (λ e. inl e) (λ p. inr p.1) latest.there;
        looked = λ i k l b d e z o. absurd (omega (arith, latest.last k b o));
      }

  pub passed_more : {m : ℕ} → 0 < m → {part : Extent} → part.from ≡ get_or homes m 0 → part.to ≡ get_or ends part.from 0 →
      due part (get_or seen part.from 0) turn ≡ false → Passed s ends seen q turn m → Passed s ends seen q turn (get_or links m 0)
  unfolding due
  passed_more {m} l {part} f t idle w =
      let o : Occurs s q m = ⊎_elim (λ e. absurd (omega arith)) (λ p. p) w.there in
      let latest = links_of.before q m small (inr o) in
      record {
        there = ⊎_elim (λ e. inl e) (λ p. inr p.1) latest.there;
        looked = λ i k a b d e z p. ⊎_elim
            (λ same.
            let home : part.from ≡ i = f ∙ table.home i m (λ y. omega arith) (omega arith) (omega arith) in
            let to : part.to ≡ get_or ends i 0 = t ∙ ap (λ x. get_or ends x 0) home in
            ⊎_elim
            (λ (y : leb (get_or seen part.from 0) turn.index ≡ true). true_false (sym (and_join
            (lt-ltb part.from part.to (omega arith))
            (and_join (lt-ltb (part.to - part.from) turn.limit (omega arith)) y)) ∙ idle))
            (λ y. rw home at (leb-false (get_or seen part.from 0) turn.index y))
            (either (leb (get_or seen part.from 0) turn.index)))
            (λ other. ⊎_elim
            (λ g. absurd (omega (arith, latest.last k (ltb-true k m g) p)))
            (λ g. w.looked i k (omega (arith, ltb-false k m g)) b d e z p)
            (either (ltb k m)))
            (same_or_not k m);
      }

-- A part that is due is one.
pub due_begins : (part : Extent) (n : ℕ) (turn : Turn) → due part n turn ≡ true → part.from < part.to
unfolding due
due_begins part n turn e = ltb-true part.from part.to (and_split (ltb part.from part.to) _ e).0

-- The literals of the trail before one were followed for all parts.
abbrev pub Followed : List ℕ → List ℕ → List ℕ → List ℕ → ℕ → Type 0
Followed s ends seen trail large =
    (h i k : ℕ) → h < large → i ≤ k → k < get_or ends i 0 → Occurs s (get_or trail h 0) k → h < get_or seen i 0

-- They were, but the last of them only from a turn's place on, where the turn leaves no part out.
pub record Following (s ends seen t trail : List ℕ) (n large : ℕ) (turn : Turn) : Type 0 where
  pub watching : Watching s ends sheet_length seen t trail n
  pub ahead : large ≤ n
  pub near : turn.place < links_length
  pub chain : turn.limit ≡ sheet_length → OnChain s (get_or trail turn.index 0) turn.place × (suc turn.index ≡ large)
  pub done : (h i k : ℕ) → h < large → (turn.limit ≡ sheet_length → suc h ≡ large → turn.place ≤ k) →
      i ≤ k → k < get_or ends i 0 → Occurs s (get_or trail h 0) k → h < get_or seen i 0

pub following_none : {s ends seen t trail : List ℕ} {n : ℕ} → Watching s ends sheet_length seen t trail n → {turn : Turn} →
    turn.limit ≡ 0 → turn.place ≡ 0 →
    Following s ends seen t trail n 0 turn
following_none w z p =
    record {
      watching = w;
      ahead = omega arith;
      near = omega arith;
      chain = λ e. absurd (omega arith);
      done = λ h i k l. absurd (omega arith);
    }

module _ {s ends homes links : List ℕ} (sheet : Formed s) (table : Parted s ends homes) (links_of : Linked s links)
    {seen t trail : List ℕ} {n large : ℕ} {turn : Turn} (v : Following s ends seen t trail n large turn) where
  -- From a place of the chain on, which the turn leads to.
  from_place : {m : ℕ} → PassedTo ends homes links seen turn m → (h i k : ℕ) → h < large →
      (turn.limit ≡ sheet_length → suc h ≡ large → m < k) → i ≤ k → k < get_or ends i 0 → Occurs s (get_or trail h 0) k → h < get_or seen i 0
  from_place {m} passed_to h i k l after a b o = ⊎_elim
      (λ all. ⊎_elim
      (λ (last : suc h ≡ large). ⊎_elim
      (λ g. v.done h i k l (λ x y. leb-true turn.place k g) a b o)
      (λ g. between all last (leb-false turn.place k g))
      (either (leb turn.place k)))
      (λ other. v.done h i k l (λ x y. absurd (other y)) a b o)
      (same_or_not (suc h) large))
      (λ some. v.done h i k l (λ x y. absurd (some x)) a b o)
      (same_or_not turn.limit sheet_length)
    where
      between : turn.limit ≡ sheet_length → suc h ≡ large → k < turn.place → h < get_or seen i 0
      between all last before =
          let c = v.chain all in
          let same : turn.index ≡ h = omega (arith, c.1) in
          let p = table.part i (λ z. omega arith) in
          let q = get_or trail h 0 in
          let small : q < most_literals = v.watching.facts.placed h (omega (arith, v.ahead)) in
          let on : OnChain s q turn.place = rw same at c.0 in
          let passed = passed_to s q table links_of small on in
          let w = passed.looked i k (after all last) before a b (omega (arith, p.begins, p.ends, sheet.used)) o in
          omega arith

  -- A part of the chain is looked at.
  pub following_looked : {m : ℕ} → NextDue ends homes links seen turn m → {i : ℕ} → i ≡ get_or homes m 0 →
      {t' trail' : List ℕ} {n' : ℕ} → Looked s i (get_or ends i 0) t trail n t' trail' n' → {turn' : Turn} →
      turn'.index ≡ turn.index → turn'.place ≡ m → turn'.limit ≡ turn.limit → Following s ends (set seen i n) t' trail' n' large turn'
  following_looked {m} next {i} home {t'} {trail'} {n'} w {turn'} a b c =
      let far : i < sheet_length = rw home (table.near m) in
      let ahead = v.ahead in
      record {
        watching = watching_looked sheet table.part v.watching far (λ j x e. x) w;
        ahead = omega (arith, w.grown.more);
        near = omega (arith, next.down, v.near);
        chain = λ all. chained (sym c ∙ all);
        done = λ h j k x after d e o.
            let same = w.grown.old h (omega arith) in
            let p : Occurs s (get_or trail h 0) k = rw same at o in
            ⊎_elim
            (λ (here : k ≡ m).
            let own : j ≡ i = sym (table.home j m (λ z. omega arith) (omega arith) (omega arith)) ∙ sym home in
            rw (own, noted_now sheet table.part v.watching far) (omega arith))
            (λ other.
            let was = from_place next.passed h j k x (λ y z. past other (after (c ∙ y) z)) d e p in
            omega (arith, noted_later sheet table.part v.watching far j))
            (same_or_not k m);
      }
    where
      past : {k : ℕ} → (k ≡ m → ⊥) → turn'.place ≤ k → m < k
      past other z = omega arith

      chained : turn.limit ≡ sheet_length → OnChain s (get_or trail' turn'.index 0) turn'.place × (suc turn'.index ≡ large)
      chained all =
          let u = v.chain all in
          let index : turn'.index < n = omega (arith, u.1, v.ahead) in
          let q = get_or trail turn.index 0 in
          let small : q < most_literals = v.watching.facts.placed turn.index (omega arith) in
          let same : get_or trail' turn'.index 0 ≡ q = w.grown.old turn'.index index ∙ ap (λ x. get_or trail x 0) a in
          let there = (next.passed s q table links_of small u.0).there in
          (rw (same, b) (inr (⊎_elim (λ z. absurd (omega arith)) (λ z. z) there)), omega (arith, u.1))

  -- The chain is passed; and another literal's turn, for some parts or for all.
  module _ (passed_to : PassedTo ends homes links seen turn 0) where
    pub following_over : Followed s ends seen trail large
    following_over h i k l a b o = from_place passed_to h i k l (λ x y. omega (arith, o.from)) a b o

    module _ {turn' : Turn} {h : ℕ} (index : turn'.index ≡ h) (place : turn'.place ≡ sheet_length + get_or trail h 0) (below : h < n) where
      pub following_some : (turn'.limit ≡ sheet_length → ⊥) → Following s ends seen t trail n large turn'
      following_some some =
          record {
            watching = v.watching;
            ahead = v.ahead;
            near = omega (arith, place, v.watching.facts.placed h below);
            chain = λ all. absurd (some all);
            done = λ j i k l x a b o. following_over j i k l a b o;
          }

      pub following_all : h ≡ large → turn'.limit ≡ sheet_length → Following s ends seen t trail n (large + 1) turn'
      following_all here all =
          record {
            watching = v.watching;
            ahead = omega arith;
            near = omega (arith, place, v.watching.facts.placed h below);
            chain = λ x. (inl (place ∙ ap (λ j. sheet_length + get_or trail j 0) (sym index)), omega arith);
            done = λ j i k l after a b o. ⊎_elim
                (λ g. following_over j i k g a b o)
                (λ g. absurd (omega (arith, after all (omega arith), o.below, sheet.used)))
                (below_next j large l);
          }

known_complement : (t : List ℕ) (l : Literal) → get_or t (opposite (place_of l)) 0 ≡ 1 → set_of t (complement l) ≡ true
unfolding set_of
known_complement t l e = eq-eqb (get_or t (place_of (complement l)) 0) 1 (ap (λ p. get_or t p 0) (sym (opposite_place l)) ∙ e)

as_tree : (s t : List ℕ) → fails (set_of t) root (decode (nodes_in s)) ≡ tree_fails t (numbers_in s)
unfolding tree_fails nodes_in
as_tree s t = refl

-- A table that has the report, and whether the sheet is contradictory.
abbrev Reported : List ℕ → List ℕ → Bool → Type 0
Reported s t b = HasReport s t × (b ≡ (report_in s).contradictory)

reported : (s t : List ℕ) {b : Bool} → tree_fails t (numbers_in s) ≡ b → HasReport s t → Reported s t b
reported s t e has = (has, sym (report_conflict s t has ∙ as_tree s t ∙ e))

-- A contradictory sheet's report needs no more.
pub fallen_report : {s t : List ℕ} → Formed s → HasFallen s t → Reported s t true
fallen_report {s} {t} sheet w = reported s t w.falls (sheet_failed s sheet t (as_tree s t ∙ w.falls) w.right)

-- At the end of the trail every part is exhausted.
module _ {s ends homes : List ℕ} (sheet : Formed s) (table : Parted s ends homes) {seen t trail : List ℕ} {n large : ℕ}
    (v : Watching s ends sheet_length seen t trail n) (all : Followed s ends seen trail large) (end : n ≤ large) where
  exhausted : (i : ℕ) → (get_or ends i 0 ≡ 0 → ⊥) → Exhausted s i (get_or ends i 0) t
  exhausted i d =
      let p = table.part i d in
      let far = part_inside sheet p in
      v.exhausted i (omega (arith, p.goes_on, far.1)) d (λ h m c l a b o. omega (arith, all h i m (omega arith) a b o))

  -- So the sheet does not fail, and a literal under which it fails is known.
  standing_yet : tree_fails t (numbers_in s) ≡ false
  standing_yet = fails_if (tree_fails t (numbers_in s)) (λ fall.
      let found = table.whole t fall in
      true_false (sym found.2 ∙ (exhausted found.0 found.1).stands))

  module _ (l : Literal) (near : place_of l < most_literals) (new : set_of t (complement l) ≡ false) where
    unforced : tree_fails (set t (place_of l) 1) (numbers_in s) ≡ true → ⊥
    unforced fall = true_false (sym (sym same ∙ found.2) ∙ (exhausted i d).stands)
      where
        found : PartFails s ends (set t (place_of l) 1)
        found = table.whole (set t (place_of l) 1) fall

        i : ℕ
        i = found.0

        d : get_or ends i 0 ≡ 0 → ⊥
        d = found.1

        agree : (j : ℕ) → j < length (stretch i (get_or ends i 0) s) → is_literal (get_or (stretch i (get_or ends i 0) s) j 0) ≡ true →
            eqb (get_or (set t (place_of l) 1) (place_at (get_or (stretch i (get_or ends i 0) s) j 0)) 0) 1
            ≡ eqb (get_or t (place_at (get_or (stretch i (get_or ends i 0) s) j 0)) 0) 1
        agree j b lit =
            let p = table.part i d in
            let short : j < get_or ends i 0 - i = rw (stretch_long i (get_or ends i 0) s (part_inside sheet p).0) at b in
            let here : get_or (stretch i (get_or ends i 0) s) j 0 ≡ get_or s (i + j) 0 = stretch_number i (get_or ends i 0) j s short in
            ap (λ x. eqb x 1)
            (get_or-set_other t (place_of l) (place_at (get_or (stretch i (get_or ends i 0) s) j 0)) 1 0 (λ e.
            let occurs : Occurs s (place_of l) (i + j) = record {
              from = omega (arith, p.begins);
              below = omega (arith, p.ends);
              literal = rw here at lit;
              same = ap place_at (sym here) ∙ e;
            } in
            let known = (exhausted i d).known (place_of l) (i + j) near (omega arith) (omega arith) occurs found.2 in
            true_false (sym (known_complement t l known) ∙ new)))

        same : tree_fails (set t (place_of l) 1) (stretch i (get_or ends i 0) s) ≡ tree_fails t (stretch i (get_or ends i 0) s)
        same = same_fails (set t (place_of l) 1) t (stretch i (get_or ends i 0) s) agree

  unforced_all : (l : Literal) → option l < options_in s → forced_by (decode (nodes_in s)) t l ≡ false
  unfolding forced_by
  unforced_all l few = go (set_of t (complement l)) refl
    where
      small_place : place_of l < most_literals
      small_place = omega (arith, place_below (options_in s) l few, sheet.options)

      go : (b : Bool) → set_of t (complement l) ≡ b → (not b && fails (set_of (set t (place_of l) 1)) root (decode (nodes_in s))) ≡ false
      go true e = refl
      go false e = fails_if _ (λ f. unforced l small_place e (sym (as_tree s (set t (place_of l) 1)) ∙ f))

  pub followed : Reported s t false
  followed =
      let facts = v.facts in
      reported s t standing_yet (sheet_report s sheet t (omega (arith, facts.long, sheet.options)) facts.right unforced_all)
