-- The report is exact: what it says is what is derived, so equal facts give equal reports.
use Rattle.std.specs.Prelude.{Bool, true, false, List, map, ◌↔◌, ◌≡◌, refl, ℕ, ◌<◌, length, get_or, replicate}
use Rattle.std.proofs.Common.{⊎_elim, sym, ap, ◌∙◌, zero-add, arith, ext_get_or}
use mathlib.Core.Logic.Iff
use Rattle.std.proofs.lemmas.List.{length-replicate}
use Rattle.model.specs.Base.{pick}
use Rattle.model.specs.Literal.{Literal, pos, neg, complement, has}
use Rattle.model.specs.Clauses.{Clause, Derived, Contradictory}
use Rattle.model.specs.Propagation.{Report, conflict, mark, count_from, report_by, report}
use Rattle.theory_forms.specs.Logic.{true_false, fails_if, same_test, pick_true}
use Rattle.theory_forms.specs.Lists.{count_length, count_at}
use Rattle.theory_meaning.specs.Exact.{Saturated, exact_derived, exact_contradictory, facts_saturated, derived_or_not, contradictory_or_not, consistent}

-- What a report tells of the clauses: whether they are contradictory; if so, 3 for each option; if not, 1 for each option
-- that is derived, 2 for each whose complement is, 0 for the others.
pub record Tells (n : ℕ) (cs : List Clause) (r : Report) : Type 0 where
  pub conflicts : (r.contradictory ≡ true) ↔ Contradictory cs
  pub width : length r.marks ≡ n
  pub all_three : Contradictory cs → r.marks ≡ replicate n 3
  pub is_in : (Contradictory cs → ⊥) → (v : ℕ) → v < n → (get_or r.marks v 0 ≡ 1) ↔ Derived cs (pos v)
  pub is_out : (Contradictory cs → ⊥) → (v : ℕ) → v < n → (get_or r.marks v 0 ≡ 2) ↔ Derived cs (neg v)
  pub is_open : (Contradictory cs → ⊥) → (v : ℕ) → v < n → (get_or r.marks v 0 ≡ 0) ↔ ((Derived cs (pos v) → ⊥) × (Derived cs (neg v) → ⊥))

-- What a mark says, of two tests that never hold both.
told :
    {A B : Type 0} (x : ℕ) (a b : Bool) →
    x ≡ pick a 1 (pick b 2 0) →
    (a ≡ true) ↔ A →
    (b ≡ true) ↔ B →
    (A → B → ⊥) →
    ((x ≡ 1) ↔ A) × ((x ≡ 2) ↔ B) × ((x ≡ 0) ↔ ((A → ⊥) × (B → ⊥)))
unfolding pick
told x true true e p q n = absurd (n (p.0 refl) (q.0 refl))
told x true false e p q n = (
  (λ h. p.0 refl, λ h. e),
  (λ h. absurd (omega arith), λ h. true_false (sym (q.1 h))),
  (λ h. absurd (omega arith), λ h. absurd (h.0 (p.0 refl))),
)
told x false true e p q n = (
  (λ h. absurd (omega arith), λ h. true_false (sym (p.1 h))),
  (λ h. q.0 refl, λ h. e),
  (λ h. absurd (omega arith), λ h. absurd (h.1 (q.0 refl))),
)
told x false false e p q n = (
  (λ h. absurd (omega arith), λ h. true_false (sym (p.1 h))),
  (λ h. absurd (omega arith), λ h. true_false (sym (q.1 h))),
  (λ h. (λ y. true_false (sym (p.1 y)), λ y. true_false (sym (q.1 y))), λ h. e),
)

-- The report read off saturated facts tells.
pub report_by_tells : (n : ℕ) {cs : List Clause} {facts : List Literal} → Saturated cs facts → Tells n cs (report_by n cs facts)
unfolding report_by mark complement pick
report_by_tells n {cs} {facts} s =
    record {
      conflicts = exact_contradictory s;
      width = wide (conflict facts cs);
      all_three = λ d. pick_true (conflict facts cs) (replicate n 3) marks ((exact_contradictory s).1 d);
      is_in = λ d v h. (here d v h).0;
      is_out = λ d v h. (here d v h).1;
      is_open = λ d v h. (here d v h).2;
    }
  where
    marks : List ℕ
    marks = map (mark facts) (count_from 0 n)

    wide : (b : Bool) → length (pick b (replicate n 3) marks) ≡ n
    wide true = length-replicate n 3
    wide false = count_length (mark facts) 0 n

    Says : ℕ → ℕ → Type 0
    Says x v = ((x ≡ 1) ↔ Derived cs (pos v)) × ((x ≡ 2) ↔ Derived cs (neg v)) × ((x ≡ 0) ↔ ((Derived cs (pos v) → ⊥) × (Derived cs (neg v) → ⊥)))

    here : (Contradictory cs → ⊥) → (v : ℕ) → v < n → Says (get_or (pick (conflict facts cs) (replicate n 3) marks) v 0) v
    here d v h =
        let quiet : conflict facts cs ≡ false = fails_if (conflict facts cs) (λ e. d ((exact_contradictory s).0 e)) in
        let same_mark : get_or marks v 0 ≡ mark facts v = count_at (mark facts) 0 n v h ∙ ap (mark facts) (zero-add v) in
        told (get_or (pick (conflict facts cs) (replicate n 3) marks) v 0) (has (pos v) facts) (has (neg v) facts) (rw quiet same_mark) (exact_derived s (pos v)) (exact_derived s (neg v)) (consistent d (pos v))

-- The report that contracts cite tells.
pub report_tells : (n : ℕ) (cs : List Clause) → Tells n cs (report n cs)
unfolding report
report_tells n cs = report_by_tells n (facts_saturated cs)

-- A report is settled by what it tells: with the same contradiction and, short of that, the same derived literals, two
-- reports are one.
pub tells_equal :
    (n : ℕ) {cs ds : List Clause} {r s : Report} →
    Tells n cs r →
    Tells n ds s →
    Contradictory cs ↔ Contradictory ds →
    ((Contradictory cs → ⊥) → (l : Literal) → Derived cs l ↔ Derived ds l) →
    r ≡ s
tells_equal n {cs} {ds} {r} {s} t u both facts = λ i. record { contradictory = tests i; marks = lists i }
  where
    tests : r.contradictory ≡ s.contradictory
    tests = same_test r.contradictory s.contradictory (λ e. u.conflicts.1 (both.0 (t.conflicts.0 e))) (λ e. t.conflicts.1 (both.1 (u.conflicts.0 e)))

    equal_at : (Contradictory cs → ⊥) → (v : ℕ) → v < n → get_or r.marks v 0 ≡ get_or s.marks v 0
    equal_at d v h =
        let d' : Contradictory ds → ⊥ = λ w. d (both.1 w) in
        ⊎_elim
        (λ p. (t.is_in d v h).1 p ∙ sym ((u.is_in d' v h).1 ((facts d (pos v)).0 p)))
        (λ p. ⊎_elim
        (λ q. (t.is_out d v h).1 q ∙ sym ((u.is_out d' v h).1 ((facts d (neg v)).0 q)))
        (λ q. (t.is_open d v h).1 (p, q) ∙ sym ((u.is_open d' v h).1 (λ x. p ((facts d (pos v)).1 x), λ x. q ((facts d (neg v)).1 x))))
        (derived_or_not cs (neg v)))
        (derived_or_not cs (pos v))

    lists : r.marks ≡ s.marks
    lists = ⊎_elim
        (λ d. t.all_three d ∙ sym (u.all_three (both.0 d)))
        (λ d. ext_get_or 0 r.marks s.marks (t.width ∙ sym u.width) (λ v h. equal_at d v (rw t.width at h)))
        (contradictory_or_not cs)

-- The reports of two lists of clauses with the same contradiction and the same derived literals are equal.
pub tells_same :
    (n : ℕ) {cs ds : List Clause} →
    Contradictory cs ↔ Contradictory ds →
    ((Contradictory cs → ⊥) → (l : Literal) → Derived cs l ↔ Derived ds l) →
    report n cs ≡ report n ds
tells_same n {cs} {ds} = tells_equal n (report_tells n cs) (report_tells n ds)

-- Any saturated facts give the report, however they were found.
pub report_by_saturated : (n : ℕ) {cs : List Clause} {facts : List Literal} → Saturated cs facts → report_by n cs facts ≡ report n cs
report_by_saturated n {cs} s = tells_equal n (report_by_tells n s) (report_tells n cs) Iff.rfl (λ d l. Iff.rfl)
