-- `run_one_step::resize` meets its contract: no size is made anew, or those of the zone, or those of all nodes; or the sizes move and
-- fall, and those of the zone are made anew.
use mathlib.Core.Logic.{◌⊎◌, inl, inr, ⊎_elim}
use mathlib.Core.Path.{◌≡◌, subst, ◌∙◌}
use Prim.Native.Nat.{ℕ, ◌+◌, ◌≤◌, ◌<◌}
use native.Mathlib.Omega.{arith}
use borrow.Author.Tests.{leb-true, leb-false}
use lib.Dec.{leb}
use Rattle.theory_forms.specs.Logic.{either}
use lib.ListN.{length, get_or, drop, length-drop}
use Rattle.common_lists.proofs.Lent.{lent_part}
use Rattle.theory_reading.specs.Spans.{span}
use Rattle.locality.specs.Locality.{Level}
use Rattle.search_sizes.specs.SizeTables.{SizesFrom}
use Rattle.run_one_step.proofs.MinMax.{lesser}
use Rattle.run_one_step.proofs.Sizing.{sizes_both}
use Rattle.run_one_step.proofs.resize.Goals as goal
use Rattle.run_one_step.proofs.resize.Goals.{After-resize_by, In_default}

-- Where the sizes of the zone alone are made anew the rule is 11, 12 or 17.
level : {r : ℕ} → (r ≤ 12 → 9 ≤ r) → (13 ≤ r → r ≡ 17) → Level r
level {r} low high = ⊎_elim (λ e. inl (low (leb-true r 12 e), leb-true r 12 e)) (λ e. inr (high (leb-false r 12 e))) (either (leb r 12))

-- Past all tests the rule is not 14.
other : (c : goal.In_default) → c.args.rule ≡ 14 → ⊥
other c e = grind arith

-- Once the sizes have moved and fallen, they are right outside the zone.
right : (c : goal.After-resize_by) → let a = c.args in
    (q : ℕ) → q < length (drop 2 a.sheet.now) → (q < a.zone.from) ⊎ (a.zone.new ≤ q) →
    get_or c.resize_by.new.sizes q 0 ≡ span 1 (drop q (drop 2 a.sheet.now))
right c =
    let to = c.min-to in
    let other : c.args.rule ≡ 14 → ⊥ = λ e. grind arith in
    c.requires.moved other to.result c.resize_by.new.sizes (lesser c.args.zone.from (c.args.place + 1) to.ensures) c.resize_by.ensures

pub resize_by-requires : goal.resize_by-requires
resize_by-requires c =
    let w = c.requires in
    let to = lesser c.args.zone.from (c.args.place + 1) c.min-to.ensures in
    record {
      sizes_len = w.long;
      to_le = (omega (arith, to.0, w.order), w.new_old, w.old_within, w.place_within);
      falls = w.falls (other (goal.at.resize_by-requires c).In_default) c.min-to.result to.0 to.1;
    }

pub refill-requires-in_default : goal.refill-requires-in_default
refill-requires-in_default c =
    let a = c.args in
    let w = c.requires in
    let l = length-drop 2 a.sheet.now in
    rw (lent_part 2 a.sheet.now)
    (record {
      s_len_bound =
          (omega (arith, w.whole), omega (arith, w.whole, w.long, c.resize_by.auto.sizes), w.order, omega (arith, w.whole, w.new_old, w.old_within));
      sizes_from = λ q from to. right (goal.at.refill-requires-in_default c).After-resize_by q to (inr from);
    })

pub refill-requires-in-11-to-12 : goal.refill-requires-in-11-to-12
refill-requires-in-11-to-12 c =
    let a = c.args in
    let even : Level a.rule = level (λ h. grind arith) (λ h. grind arith) in
    let w = c.requires in
    let l = length-drop 2 a.sheet.now in
    rw (lent_part 2 a.sheet.now)
    (record {
      s_len_bound = (omega (arith, w.whole), omega (arith, w.whole, w.long), w.order, omega (arith, w.whole, w.new_old, w.old_within));
      sizes_from = λ q from to. w.outside even q to (inr from);
    })

pub returns-in_default : goal.returns-in_default
returns-in_default c =
    let a = c.args in
    let from = a.zone.from in
    let new = subst (λ l. SizesFrom from l c.refill-in_default.new.sizes) (lent_part 2 a.sheet.now) c.refill-in_default.ensures.sizes_from_2 in
    sizes_both from (drop 2 a.sheet.now) c.refill-in_default.new.sizes new
    (λ q l n. c.refill-in_default.ensures.by_index q l ∙ right (goal.at.returns-in_default c).After-resize_by q n (inl l))

pub returns-in-11-to-12 : goal.returns-in-11-to-12
returns-in-11-to-12 c =
    let even : Level c.args.rule = level (λ h. grind arith) (λ h. grind arith) in
    let a = c.args in
    let from = a.zone.from in
    let right = subst (λ l. SizesFrom from l c.refill-in-11-to-12.new.sizes) (lent_part 2 a.sheet.now) c.refill-in-11-to-12.ensures.sizes_from_2 in
    sizes_both from (drop 2 a.sheet.now) c.refill-in-11-to-12.new.sizes right
    (λ q l n. c.refill-in-11-to-12.ensures.by_index q l ∙ c.requires.outside even q n (inl l))
