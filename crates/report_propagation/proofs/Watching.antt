-- Laws of watching parts: before anything is known, one part looked at, and no part at a place.
use mathlib.Core.List.{List}
use mathlib.Core.Logic.{⊎_elim}
use mathlib.Core.Path.{◌≡◌, refl, ap, ◌∙◌}
use Prim.Native.Nat.{ℕ, zero, suc, ◌+◌, ◌≤◌, ◌<◌}
use native.Mathlib.Omega.{arith}
use lib.ListN.{length, get_or, set, replicate, length-set, length-replicate}
use lib.Seq.{get_or-set_same, get_or-set_other}
use Rattle.model.specs.Base.{pick}
use Rattle.model.specs.Limits.{sheet_length, most_literals}
use Rattle.theory_meaning.specs.FailedLiterals.{right_none, zero_everywhere}
use Rattle.theory_forms.specs.Sheets.{Formed}
use Rattle.report_parts.proofs.Linking.{same_or_not, below_next}
use Rattle.report_propagation.specs.Trails.{unset, Looked, PartEnds, Watching}
use Rattle.report_propagation.proofs.Learning.{exhausted_on}
use Rattle.report_propagation.proofs.Looking.{part_inside}

unset_zeros : (k : ℕ) → unset (replicate k 0) ≡ k
unfolding unset pick
unset_zeros zero = refl
unset_zeros (suc k) = ap suc (unset_zeros k)

pub watching_none : (s ends : List ℕ) {seen t trail : List ℕ} → seen ≡ replicate sheet_length 0 → t ≡ replicate most_literals 0 →
    length trail ≡ most_literals → Watching s ends 0 seen t trail 0
watching_none s ends {seen} {t} {trail} a b c =
    record {
      facts = record {
        long = ap length b ∙ length-replicate {A = ℕ} most_literals 0;
        wide = c;
        room = omega (arith, ap unset b ∙ unset_zeros most_literals);
        placed = λ h l. absurd (omega arith);
        right = rw b (right_none _ most_literals);
      };
      long = ap length a ∙ length-replicate {A = ℕ} sheet_length 0;
      most = λ i. let z : get_or seen i 0 ≡ 0 = ap (λ l. get_or l i 0) a ∙ zero_everywhere sheet_length i in omega arith;
      exhausted = λ i l. absurd (omega arith);
    }

module _ {s ends : List ℕ} (sheet : Formed s) (table : PartEnds s ends) {to : ℕ} {seen t trail : List ℕ} {n : ℕ}
    (w : Watching s ends to seen t trail n) where
  module _ {i : ℕ} (far : i < sheet_length) where
    noted : (j : ℕ) → j ≡ i → get_or (set seen i n) j 0 ≡ n
    noted j e = ap (λ m. get_or (set seen i n) m 0) e ∙ get_or-set_same seen i n 0 (omega (arith, w.long))

    pub watching_looked : {to' : ℕ} → ((j : ℕ) → j < to' → (j ≡ i → ⊥) → j < to) → {t' trail' : List ℕ} {n' : ℕ} →
        Looked s i (get_or ends i 0) t trail n t' trail' n' → Watching s ends to' (set seen i n) t' trail' n'
    watching_looked near {t'} {trail'} {n'} v =
        record {
          facts = v.facts;
          long = length-set seen i n ∙ w.long;
          most = λ j. ⊎_elim
              (λ e. rw (noted j e) v.grown.more)
              (λ e. rw (get_or-set_other seen i j n 0 e) (omega (arith, w.most j, v.grown.more)))
              (same_or_not j i);
          exhausted = λ j l d. ⊎_elim
              (λ e. rw (noted j e, e) v.exhausted)
              (λ e.
              let p = table j d in
              rw (get_or-set_other seen i j n 0 e)
              (exhausted_on v.grown w.facts.long v.facts.long p (part_inside sheet p).0 (w.most j)
              (w.exhausted j (near j l e) d)))
              (same_or_not j i);
        }

    -- Whatever was noted for a part was noted no earlier, and for the part itself as late as can be.
    pub noted_later : (j : ℕ) → get_or seen j 0 ≤ get_or (set seen i n) j 0
    noted_later j =
        ⊎_elim (λ e. rw (noted j e) (w.most j)) (λ e. rw (get_or-set_other seen i j n 0 e) (omega arith)) (same_or_not j i)

    pub noted_now : get_or (set seen i n) i 0 ≡ n
    noted_now = noted i refl

  pub watching_past : {i : ℕ} → to ≡ i → get_or ends i 0 ≡ 0 → Watching s ends (i + 1) seen t trail n
  watching_past {i} e z =
      record {
        facts = w.facts;
        long = w.long;
        most = w.most;
        exhausted = λ j l d. ⊎_elim
            (λ g. w.exhausted j (omega arith) d)
            (λ g. absurd (d (ap (λ m. get_or ends m 0) g ∙ z)))
            (below_next j i l);
      }
