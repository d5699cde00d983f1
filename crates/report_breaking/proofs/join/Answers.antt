-- `report_breaking::join` meets its contract: the tree fails by the number of its children that do; else the literals of all that
-- stand stay, or those that all of them have, or none.
use mathlib.Core.Bool.{Bool, false}
use mathlib.Core.List.{List}
use mathlib.Core.Logic.{⊎_elim}
use mathlib.Core.Path.{◌≡◌, refl, sym, ap, subst, ◌∙◌}
use Prim.Native.Nat.{ℕ, suc, ◌+◌, ◌-◌, ◌*◌, ◌≤◌, ◌<◌}
use native.Mathlib.Omega.{arith}
use borrow.Author.Tests.{eqb-false}
use lib.Dec.{eqb}
use lib.ListN.{length, take, drop, drop_of_length-le}
use lib.Seq.{length-take-le, take-take}
use Rattle.model.specs.Limits.{sheet_room}
use Rattle.model.specs.Forest.{or}
use Rattle.model.specs.Code.{kind}
use Rattle.model.specs.Clauses.{need}
use Rattle.theory_forms.specs.Logic.{either}
use Rattle.theory_meaning.specs.Evaluation.{fails_all}
use Rattle.theory_meaning.specs.NumberTrees.{conn_at}
use Rattle.theory_meaning.specs.TreeValues.{conn_any, conn_all}
use Rattle.report_breaking.specs.Stacks.{among, InTable, broken, Stacked, bottom, standing, Children, Apart, Made}
use Rattle.report_breaking.proofs.Among.{among_take}
use Rattle.report_breaking.proofs.Entries.{bottom_low}
use Rattle.report_breaking.proofs.Groups.{falls_by, stands_by, far_from, makes_failing, makes_standing}
use Rattle.report_breaking.proofs.join.Goals as goal
use Rattle.report_breaking.proofs.join.Goals.{After-count_standing, Else-kind_of-ne4, Else-need-failing-2, Start}

-- Where more are lacking than one: a conjunction lacks none or one, and of members one literal makes at most one more fail.
lacks_more :
    (x q : ℕ) (ls fs : List ℕ) →
    (kind x ≡ 4 → ⊥) →
    Apart x ls fs →
    suc (length fs - standing fs) < need (conn_at x) (length fs) →
    fails_all (conn_at x) (broken q ls fs) ≡ false
unfolding need
lacks_more x q ls fs d apart h =
    ⊎_elim
    (λ six. far_from (conn_at x) q ls fs (apart six q) h)
    (λ six. absurd (omega (arith, rw (conn_all x d (eqb-false (kind x) 6 six)) at h)))
    (either (eqb (kind x) 6))

-- A disjunction that lacks more has trees that stand.
some_stand : (x : ℕ) (fs : List ℕ) → kind x ≡ 4 → suc (length fs - standing fs) < need (conn_at x) (length fs) → 1 ≤ standing fs
unfolding need
some_stand x fs e h = omega (arith, rw (conn_any x e) at h)

module _ {places fs : List ℕ} {base end : ℕ} (g : Children places fs base end) (x : ℕ) where
  long : length (take end places) ≡ end
  long = length-take-le end places g.room

  stacked : Stacked (length (take end places)) fs
  stacked = rw long g.stacked

  base_is : base ≡ bottom (length (take end places)) fs
  base_is = rw long g.first

  low : base ≤ end
  low = omega (arith, g.first, bottom_low end fs g.stacked)

  -- Whether the tree fails as it is or with a literal.
  abbrev value : ℕ → Bool
  value q = fails_all (conn_at x) (broken q (take end places) fs)

  falls : need (conn_at x) (length fs) ≤ length fs - standing fs → Made value (take end places) fs (take base places) (2 * base + 1)
  falls h =
      subst (λ l. Made value (take end places) fs l (2 * base + 1)) (take-take base end places low)
      (makes_failing value (take end places) fs stacked g.inside base_is (λ q. falls_by (conn_at x) q (take end places) fs h))

  stands : need (conn_at x) (length fs) ≡ suc (length fs - standing fs) → Made value (take end places) fs (take end places) (2 * base)
  stands h =
      makes_standing value (take end places) fs stacked g.inside base_is (take end places) (omega (arith, long, low)) refl g.inside
      (λ q. ap (λ n. among q (drop n (take end places))) base_is ∙ stands_by (conn_at x) q (take end places) fs stacked h)

  -- With no literals.
  unmoved :
      (kind x ≡ 4 → ⊥) →
      Apart x (take end places) fs →
      suc (length fs - standing fs) < need (conn_at x) (length fs) →
      Made value (take end places) fs (take base places) (2 * base)
  unfolding among
  unmoved d apart h =
      let short : length (take base places) ≡ base = length-take-le base places (omega (arith, low, g.room)) in
      let same : take base (take end places) ≡ take base places = take-take base end places low in
      makes_standing value (take end places) fs stacked g.inside base_is (take base places) (omega arith)
      (take-take base base places (omega arith) ∙ sym same)
      (λ y m. g.inside y (among_take y base (take end places) (rw same m)))
      (λ q. ap (among q) (drop_of_length-le (take base places) {i = base} (omega arith)) ∙ sym (lacks_more x q (take end places) fs d apart h))

  -- With the literals that all have.
  meets : kind x ≡ 4 → (new : List ℕ) (r : ℕ) → base ≤ r → r ≤ length new → take base new ≡ take base places →
      InTable (take r new) → ((q : ℕ) → among q (drop base (take r new)) ≡ fails_all or (broken q (take end places) fs)) →
      Made value (take end places) fs (take r new) (2 * base)
  meets e new r above most same places-new each =
      makes_standing value (take end places) fs stacked g.inside base_is (take r new) (omega (arith, length-take-le r new most))
      (take-take base r new above ∙ same ∙ sym (take-take base end places low)) places-new (λ q. rw (conn_any x e) (each q))

-- The base is below the end, which is small.
below : (c : goal.Start) → (c.args.base ≤ c.args.end) × (c.args.end ≤ sheet_room)
below c = let p = c.requires.children in (low p.0 c.args.x, omega (arith, p.0.room, p.1))

-- What the counts are.
counted :
    (c : goal.After-count_standing) →
    let a = c.args in
    (c.need_of-need.result ≡ need (conn_at a.x) (length a.children.now))
    × (length a.children.now - c.count_standing.result ≡ length a.children.now - standing a.children.now)
counted c = (c.need_of-need.ensures, omega (arith, c.count_standing.ensures.0))

-- More than one is lacking; and the node is a disjunction.
lacking :
    (c : goal.Else-need-failing-2) →
    let a = c.args in
    suc (length a.children.now - standing a.children.now) < need (conn_at a.x) (length a.children.now)
lacking c = omega (arith, c.need_of-need.ensures, c.count_standing.ensures.0, c.if-need-failing.false, c.if-need-failing-2.false)

four : (c : goal.Else-kind_of-ne4) → kind c.args.x ≡ 4
four c = omega (arith, c.kind_of.ensures, c.if-kind_of-ne4.false)

pub failing-requires : goal.failing-requires
failing-requires c = let b = below (goal.at.failing-requires c).Start in omega (arith, b.0, b.1)

pub standing-requires : goal.standing-requires
standing-requires c = let b = below (goal.at.standing-requires c).Start in omega (arith, b.0, b.1)

pub standing-requires-then-kind_of-ne4 : goal.standing-requires-then-kind_of-ne4
standing-requires-then-kind_of-ne4 c = let b = below (goal.at.standing-requires-then-kind_of-ne4 c).Start in omega (arith, b.0, b.1)

pub returns-then-need-failing : goal.returns-then-need-failing
returns-then-need-failing c =
    let p = c.requires.children in
    rw (c.failing.ensures.0, c.failing.ensures.1)
    record {
      made = falls p.0 c.args.x (omega (arith, counted (goal.at.returns-then-need-failing c).After-count_standing, c.if-need-failing.true));
      end_le_end = ((below (goal.at.returns-then-need-failing c).Start).0, p.2);
    }

pub returns-then-need-failing-2 : goal.returns-then-need-failing-2
returns-then-need-failing-2 c =
    let p = c.requires.children in
    rw (c.standing.ensures.0, c.standing.ensures.1)
    record {
      made = stands p.0 c.args.x (omega (arith, counted (goal.at.returns-then-need-failing-2 c).After-count_standing, c.if-need-failing-2.true));
      end_le_end = (omega arith, p.2);
    }

pub returns-then-kind_of-ne4 : goal.returns-then-kind_of-ne4
returns-then-kind_of-ne4 c =
    let p = c.requires.children in
    let other : kind c.args.x ≡ 4 → ⊥ = λ e. c.if-kind_of-ne4.true (c.kind_of.ensures ∙ e) in
    let tree = c.standing-then-kind_of-ne4 in
    rw (tree.ensures.0, tree.ensures.1)
    record {
      made = unmoved p.0 c.args.x other c.requires.apart (lacking (goal.at.returns-then-kind_of-ne4 c).Else-need-failing-2);
      end_le_end = ((below (goal.at.returns-then-kind_of-ne4 c).Start).0, p.2);
    }

pub intersect-requires : goal.intersect-requires
intersect-requires c =
    let p = c.requires.children in
    let k = goal.at.intersect-requires c in
    (p.0, some_stand c.args.x c.args.children.now (four k.Else-kind_of-ne4) (lacking k.Else-need-failing-2), p.2)

pub returns-else-kind_of-ne4 : goal.returns-else-kind_of-ne4
returns-else-kind_of-ne4 c =
    let p = c.requires.children in
    let i = c.intersect in
    let tree = c.standing-else-kind_of-ne4 in
    rw (tree.ensures.0, tree.ensures.1)
    record {
      made = meets p.0 c.args.x (four (goal.at.returns-else-kind_of-ne4 c).Else-kind_of-ne4) i.new.places i.result i.ensures.lower_bound.0
          (omega (arith, i.ensures.lower_bound.1, i.auto.places, p.0.room)) i.ensures.lower_bound.2 i.ensures.in_table.0 i.ensures.by_index;
      end_le_end = (i.ensures.lower_bound.1, i.ensures.in_table.1);
    }
