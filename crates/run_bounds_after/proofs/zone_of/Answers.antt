-- `run_bounds_after::zone_of` meets its contract: the rule's number says which zone it is.
use mathlib.Core.Logic.{inl, inr, ⊎_elim}
use mathlib.Core.Path.{◌≡◌, refl, ap, ◌∙◌}
use Prim.Native.Nat.{ℕ, ◌+◌, ◌≤◌, ◌<◌}
use native.Mathlib.Omega.{arith}
use borrow.Author.Tests.{eqb-true, eqb-false, leb-true, leb-false}
use lib.Dec.{eqb, leb}
use Rattle.theory_forms.specs.Logic.{either}
use Rattle.model.specs.Limits.{sheet_room, last_rule}
use Rattle.model.specs.Sheet.{nodes_in}
use Rattle.locality.specs.Zones.{tree_end}
use Rattle.run_bounds_after.proofs.SheetZones.{Unheads, within, rules, child, end_by, zone_1, zone_child, zone_7, zone_9, zone_14, zone_16, zone_17}
use Rattle.run_bounds_after.proofs.zone_of.Goals as goal
use Rattle.run_bounds_after.proofs.zone_of.Goals.{After-from, In_default, Start}

-- The place is one of the nodes, and the rule one of the table's.
here : (c : goal.Start) → (c.args.redex.place < sheet_room) × (1 ≤ c.args.redex.rule) × (c.args.redex.rule ≤ last_rule)
here c =
    let a = c.args in
    let h = c.requires.measured.sheet in
    let r = rules a.sheet.now h a.redex c.requires.applies in
    (omega (arith, within a.sheet.now h a.redex c.requires.applies, h.used), r.0, r.1)

-- Where the tree at the place ends.
ended :
    (c : goal.After-from) →
    let a = c.args in
    a.redex.place + c.from.result ≡ tree_end a.redex.place (nodes_in a.sheet.now)
ended c =
    let p = c.requires in
    let a = c.args in
    ap (λ n. a.redex.place + n) c.from.ensures ∙ end_by a.sheet.now p.measured.sheet a.redex p.applies a.sizes.now p.measured.each

-- A rule that takes the head of a child away.
unheads : (r : ℕ) → (r ≤ 6 → 4 ≤ r) → (7 ≤ r → 13 ≤ r) → r ≤ 15 → (r ≡ 14 → ⊥) → Unheads r
unheads r low past high other =
    ⊎_elim
    (λ e. inl (low (leb-true r 6 e), leb-true r 6 e))
    (λ e. let late : 13 ≤ r = past (leb-false r 6 e) in
    ⊎_elim (λ t. inr (inl (eqb-true r 13 t))) (λ t. let more = eqb-false r 13 t in inr (inr (omega arith))) (either (eqb r 13)))
    (either (leb r 6))

-- Past the single rules and the ranges the rule is 14.
last : (c : goal.In_default) → c.args.redex.rule ≡ 14
last c =
    let p = c.requires in
    let r : (1 ≤ c.args.redex.rule) × (c.args.redex.rule ≤ last_rule) = rules c.args.sheet.now p.measured.sheet c.args.redex p.applies in
    grind arith

pub offset_bounds-sizes-place : goal.offset_bounds-sizes-place
offset_bounds-sizes-place c = let w = here (goal.at.offset_bounds-sizes-place c).Start in omega arith

pub bounds-sizes-place : goal.bounds-sizes-place
bounds-sizes-place c = let w = here (goal.at.bounds-sizes-place c).Start in omega (arith, c.requires.measured.long)

pub overflow_add-end : goal.overflow_add-end
overflow_add-end c = let w = here (goal.at.overflow_add-end c).Start in omega arith

pub overflow_add-result : goal.overflow_add-result
overflow_add-result c = let w = here (goal.at.overflow_add-result c).Start in omega arith

pub overflow_add-place : goal.overflow_add-place
overflow_add-place c = let w = here (goal.at.overflow_add-place c).Start in omega arith

pub overflow_add-place-in-17 : goal.overflow_add-place-in-17
overflow_add-place-in-17 c = let w = here (goal.at.overflow_add-place-in-17 c).Start in omega arith

pub overflow_add-result-in-1-to-3 : goal.overflow_add-result-in-1-to-3
overflow_add-result-in-1-to-3 c = let w = here (goal.at.overflow_add-result-in-1-to-3 c).Start in omega arith

pub node_gone-requires : goal.node_gone-requires
node_gone-requires c = (here (goal.at.node_gone-requires c).Start).0

pub child_place-requires : goal.child_place-requires
child_place-requires c =
    let low : c.args.redex.rule ≤ 15 = grind arith in
    record { formed = c.requires.measured.sheet; i_bound = child c.args.sheet.now c.requires.measured.sheet c.args.redex c.requires.applies low }

pub returns-in-16 : goal.returns-in-16
returns-in-16 c =
    zone_16 c.args.sheet.now c.requires.measured.sheet c.args.redex c.requires.applies c.in-16.is refl
    (ended (goal.at.returns-in-16 c).After-from) refl

pub returns-in-17 : goal.returns-in-17
returns-in-17 c =
    zone_17 c.args.sheet.now c.requires.measured.sheet c.args.redex c.requires.applies c.unmoved.ensures c.in-17.is refl refl

pub returns-in-1-to-3 : goal.returns-in-1-to-3
returns-in-1-to-3 c =
    let p = c.requires in
    zone_1 c.args.sheet.now p.measured.sheet c.args.redex p.applies (omega arith) refl (ended (goal.at.returns-in-1-to-3 c).After-from) refl

pub returns-in-7-to-8 : goal.returns-in-7-to-8
returns-in-7-to-8 c =
    zone_7 c.args.sheet.now c.requires.measured.sheet c.args.redex c.requires.applies c.node_gone.ensures (omega arith) (omega arith) refl

pub returns-in-9-to-10 : goal.returns-in-9-to-10
returns-in-9-to-10 c =
    let a = c.args in
    let p = c.requires in
    zone_9 a.sheet.now p.measured.sheet a.redex p.applies c.unmoved-in-9-to-10.ensures (omega arith) (omega arith) refl
    (ended (goal.at.returns-in-9-to-10 c).After-from)

pub returns-in_default : goal.returns-in_default
returns-in_default c =
    let a = c.args in
    let p = c.requires in
    zone_14 a.sheet.now p.measured.sheet a.redex p.applies c.unmoved-in_default.ensures (last (goal.at.returns-in_default c).In_default) refl refl

pub returns-in-4-to-6 : goal.returns-in-4-to-6
returns-in-4-to-6 c =
    let r = c.args.redex.rule in
    let other : r ≡ 14 → ⊥ = λ e. grind arith in
    let takes = unheads r (λ h. grind arith) (λ h. grind arith) (grind arith) other in
    zone_child c.args.sheet.now c.requires.measured.sheet c.args.redex c.requires.applies c.node_gone-in-4-to-6.ensures takes c.child_place.ensures.0
