-- The table, one number noted at a time.
use mathlib.Core.Bool.{true, false}
use mathlib.Core.List.{List}
use mathlib.Core.Logic.{◌⊎◌, inl, inr, ⊎_elim}
use mathlib.Core.Path.{◌≡◌, sym, ap, subst, ◌∙◌}
use Prim.Native.Nat.{ℕ, ◌+◌, ◌-◌, ◌/◌, ◌≤◌, ◌<◌, ◌*◌}
use native.Mathlib.Omega.{arith}
use borrow.Author.Tests.{eqb-true, eqb-false, ltb-true, lt-ltb}
use lib.Dec.{eqb}
use lib.ListN.{length, get_or, drop, set}
use lib.Seq.{get_or-set_other, get_or-set_same, drop-drop}
use Rattle.model.specs.Limits.{kind_factor}
use Rattle.model.specs.Code.{kind, children}
use Rattle.theory_forms.specs.Logic.{true_false, either, or_split, pick_true, pick_false, pick_keeps}
use Rattle.theory_forms.specs.Scan.{is_literal}
use Rattle.theory_reading.specs.Spans.{span, span_none, span_end}
use Rattle.theory_rewriting.specs.Children.{first_left}
use Rattle.search_sizes.specs.TreeHops.{span_hop}
use Rattle.rule_factor.specs.Walks.{unit_place, among, group_here}
use Rattle.rule_factor.proofs.Walk.{unit_further}
use Rattle.rule_factor.proofs.Here.{shares_group}
use Rattle.search_common.specs.Held.{entry, Noted, Carried, literal_numbers}

-- Literals are of kinds 1 and 2, so the table has an entry for each.
pub literal_bounds : (x : ℕ) → is_literal x ≡ true → (kind_factor ≤ x) × (x < 3 * kind_factor)
unfolding is_literal kind
literal_bounds x h =
    ⊎_elim
    (λ e. let k = eqb-true (x / kind_factor) 1 e in (omega arith, omega arith))
    (λ e. let k = eqb-true (x / kind_factor) 2 e in (omega arith, omega arith))
    (or_split (eqb (x / kind_factor) 1) _ h)

-- A number that is no literal's leaves the table as it is.
pub noted_other : {x : ℕ} (groups : ℕ) (held : List ℕ) → is_literal x ≡ false → Noted x groups held held
noted_other groups held h =
    record { higher = λ y. omega arith; risen = λ e n. true_false (sym e ∙ h) }

-- An entry that has reached just so many conjunctions rises by one.
pub noted_literal :
    {x groups : ℕ} (held : List ℕ) →
    is_literal x ≡ true →
    length held ≡ literal_numbers →
    get_or held (x - kind_factor) 0 ≡ groups →
    Noted x groups held (set held (x - kind_factor) (groups + 1))
noted_literal {x} {groups} held h long e =
    let same : entry x (set held (x - kind_factor) (groups + 1)) ≡ groups + 1 =
    get_or-set_same held (x - kind_factor) (groups + 1) 0 (omega (arith, literal_bounds x h)) in
    record {
      higher = λ y. ⊎_elim
          (λ t. let q : x - kind_factor ≡ y - kind_factor = eqb-true (x - kind_factor) (y - kind_factor) t in
          subst (λ k. get_or held k 0 ≤ get_or (set held (x - kind_factor) (groups + 1)) k 0) q (omega (arith, same, e)))
          (λ t. let other : y - kind_factor ≡ x - kind_factor → ⊥ = λ d. eqb-false (x - kind_factor) (y - kind_factor) t (sym d) in
          omega (arith, get_or-set_other held (x - kind_factor) (y - kind_factor) (groups + 1) 0 other))
          (either (eqb (x - kind_factor) (y - kind_factor)));
      risen = λ t n. omega (arith, same);
    }

-- A literal is no group, and any other tree is one.
pub group_small : (x : ℕ) → group_here x ≤ 1
unfolding group_here
group_small x = pick_keeps (λ k. k ≤ 1) (is_literal x) (omega arith) (omega arith)

pub group_literal : (x : ℕ) → is_literal x ≡ true → group_here x ≡ 0
unfolding group_here
group_literal x h = pick_true (is_literal x) 0 1 h

pub group_inner : (x : ℕ) → is_literal x ≡ false → group_here x ≡ 1
unfolding group_here
group_inner x h = pick_false (is_literal x) 0 1 h

-- A number that is among trees, one tree further: the first is another, and it is among none.
module _ (x n i : ℕ) (l : List ℕ) where
  among_further :
      0 < n →
      i < length l →
      (get_or l i 0 ≡ x → ⊥) →
      among x n (drop i l) ≡ true →
      among x (n - 1) (drop (i + span 1 (drop i l)) l) ≡ true
  unfolding among
  among_further some inside other h =
      let next = i + span 1 (drop i l) in
      let short = ltb-true (unit_place x n (drop i l)) (span n (drop i l)) h in
      lt-ltb (unit_place x (n - 1) (drop next l)) (span (n - 1) (drop next l))
      (omega (arith, short, unit_further x n i l some inside other, span_hop n i l some))

  among_none : (n ≡ 0) ⊎ (length l ≤ i) → among x n (drop i l) ≡ true → ⊥
  unfolding among
  among_none past h =
      let short = ltb-true (unit_place x n (drop i l)) (span n (drop i l)) h in
      ⊎_elim
      (λ e. omega (arith, short, ap (λ m. span m (drop i l)) e ∙ span_none (drop i l)))
      (λ e. omega (arith, short, span_end n i l e))
      past

-- The children of a conjunction, some of them noted: a literal among them whose entry had reached the conjunctions before has
-- risen above those, or is among the children left.
abbrev pub Holding : ℕ → ℕ → ℕ → List ℕ → List ℕ → List ℕ → ℕ → ℕ → Type 0
Holding groups m start l old new left from =
    (x : ℕ) → is_literal x ≡ true → among x m (drop start l) ≡ true → groups ≤ entry x old →
    (groups < entry x new) ⊎ ((groups ≤ entry x new) × (among x left (drop from l) ≡ true))

pub holding_more :
    (groups m start : ℕ) (l old new : List ℕ) {last : List ℕ} (left from : ℕ) →
    Holding groups m start l old new left from →
    0 < left →
    from < length l →
    {y : ℕ} →
    y ≡ get_or l from 0 →
    Noted y groups new last →
    Holding groups m start l old last (left - 1) (from + span 1 (drop from l))
holding_more groups m start l old new {last} left from h some inside {y} read n x lit there reached =
    ⊎_elim (λ risen. inl (omega (arith, n.higher x))) (λ t. go t.0 t.1 (either (eqb (get_or l from 0) x))) (h x lit there reached)
  where
    go :
        groups ≤ entry x new →
        among x left (drop from l) ≡ true →
        (eqb (get_or l from 0) x ≡ true) ⊎ (eqb (get_or l from 0) x ≡ false) →
        (groups < entry x last) ⊎ ((groups ≤ entry x last) × (among x (left - 1) (drop (from + span 1 (drop from l)) l) ≡ true))
    go up later (inl e) =
        let same : y ≡ x = read ∙ eqb-true (get_or l from 0) x e in
        inl (subst (λ z. is_literal z ≡ true → groups ≤ entry z new → groups < entry z last) same n.risen lit up)
    go up later (inr e) = inr (omega (arith, n.higher x), among_further x left from l some inside (eqb-false (get_or l from 0) x e) later)

pub holding_all :
    (groups at : ℕ) (l old new : List ℕ) (left from : ℕ) →
    is_literal (get_or l at 0) ≡ false →
    Holding groups (children (get_or l at 0)) (at + 1) l old new left from →
    (left ≡ 0) ⊎ (length l ≤ from) →
    Carried groups (groups + 1) (drop at l) old new
holding_all groups at l old new left from inner h past x lit shared reached =
    let found = shares_group x (drop at l) shared (ap is_literal (first_left at l) ∙ inner) in
    let there : among x (children (get_or l at 0)) (drop (at + 1) l) ≡ true = rw (first_left at l, drop-drop 1 at l) at found.1 in
    ⊎_elim
    (λ risen. omega (arith, risen))
    (λ t. absurd (among_none x left from l past t.1))
    (h x lit there reached)
