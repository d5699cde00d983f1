-- The children of the first tree, one after another.
use mathlib.Core.Bool.{true, false}
use mathlib.Core.List.{List}
use mathlib.Core.Logic.{◌⊎◌, ⊎_elim}
use mathlib.Core.Path.{◌≡◌, sym, ap, ◌∙◌}
use Prim.Native.Nat.{ℕ, ◌+◌, ◌-◌, ◌≤◌, ◌<◌}
use native.Mathlib.Omega.{arith}
use borrow.Author.Tests.{ne_eqb}
use lib.ListN.{length, get_or, drop}
use Rattle.model.specs.Code.{kind, children}
use Rattle.theory_forms.specs.Logic.{true_false, either, and_split}
use Rattle.theory_forms.specs.Scan.{is_literal}
use Rattle.theory_reading.specs.Spans.{span}
use Rattle.theory_rewriting.specs.Children.{first_left}
use Rattle.rule_factor.specs.Walks.{shares_here, all_share, group_here, groups_in}
use Rattle.rule_factor.proofs.Walk.{share_step, share_fails, groups_none, groups_end, groups_step, sharing_all, sharing_not}
use Rattle.rule_factor.proofs.Here.{shares_not}
use Rattle.search_common.specs.Held.{entry, Carried, Filter}

-- Some children passed: their conjunctions are counted; a literal that all share is shared by those left and has reached the count.
pub record Passing (groups : ℕ) (l held : List ℕ) (left from : ℕ) : Type 0 where
  pub counted : groups_in (children (get_or l 0 0)) (drop 1 l) ≡ groups + groups_in left (drop from l)
  pub reached :
      (x : ℕ) →
      is_literal x ≡ true →
      all_share x (children (get_or l 0 0)) (drop 1 l) ≡ true →
      (all_share x left (drop from l) ≡ true) × (groups ≤ entry x held)

pub passing_none : (l held : List ℕ) → Passing 0 l held (children (get_or l 0 0)) 1
passing_none l held = record { counted = omega arith; reached = λ x lit h. (h, omega arith) }

-- One child more.
pub passing_more :
    {groups with : ℕ} {l held last : List ℕ} {left from : ℕ} →
    Passing groups l held left from →
    0 < left →
    from < length l →
    with ≡ groups + group_here (get_or l from 0) →
    Carried groups with (drop from l) held last →
    Passing with l last (left - 1) (from + span 1 (drop from l))
passing_more {groups} {with} {l} {held} {last} {left} {from} p some inside e carried =
    record {
      counted = omega (arith, p.counted, groups_step left from l some inside);
      reached = λ x lit all. let h = p.reached x lit all in
          let s =
          and_split (shares_here x (drop from l)) (all_share x (left - 1) (drop (from + span 1 (drop from l)) l))
          (sym (share_step x left from l some inside) ∙ h.0) in
          (s.1, carried x lit s.0 h.1);
    }

-- All children passed.
pub passing_all :
    {groups : ℕ} {l held : List ℕ} {left from : ℕ} →
    Passing groups l held left from →
    (left ≡ 0) ⊎ (length l ≤ from) →
    Filter groups l held
passing_all {groups} {l} {held} {left} {from} p past x lit two =
    let k = children (get_or l 0 0) in
    let over : groups_in left (drop from l) ≡ 0 = ⊎_elim (groups_none left from l) (groups_end left from l) past in
    ⊎_elim
    (λ all. (omega (arith, sharing_all x k (drop 1 l) all, p.counted, over), (p.reached x lit all).1))
    (λ not_all. absurd (omega (arith, sharing_not x k (drop 1 l) not_all)))
    (either (all_share x k (drop 1 l)))

-- A child that is neither a literal nor a conjunction shares no literal.
pub passing_other :
    {groups : ℕ} {l held : List ℕ} {left from : ℕ} (last : List ℕ) →
    Passing groups l held left from →
    0 < left →
    from < length l →
    3 < kind (get_or l from 0) →
    Filter 0 l last
unfolding is_literal
passing_other {groups} {l} {held} {left} {from} last p some inside other x lit two =
    let k = children (get_or l 0 0) in
    let inner : is_literal (get_or (drop from l) 0 0) ≡ false =
    ap is_literal (first_left from l) ∙
    rw (ne_eqb (kind (get_or l from 0)) 1 (λ e. omega arith), ne_eqb (kind (get_or l from 0)) 2 (λ e. omega arith)) in
    let no : shares_here x (drop from l) ≡ false = shares_not x (drop from l) inner (λ e. omega (arith, ap kind (first_left from l))) in
    ⊎_elim
    (λ all. true_false (sym (p.reached x lit all).0 ∙ share_fails x left from l some inside no))
    (λ not_all. absurd (omega (arith, sharing_not x k (drop 1 l) not_all)))
    (either (all_share x k (drop 1 l)))
