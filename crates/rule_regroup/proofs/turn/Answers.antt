-- `rule_regroup::turn` meets its contract: what was written elsewhere is copied back, and zeros follow it.
use mathlib.Core.Path.{◌≡◌, sym, ◌∙◌}
use Prim.Native.Nat.{ℕ, ◌-◌, ◌≤◌}
use native.Mathlib.Omega.{arith}
use lib.ListN.{length, take, length-replicate}
use lib.Seq.{length-take-le}
use Rattle.model.specs.Limits.{sheet_room}
use Rattle.rule_factor.proofs.Asking.{Applied}
use Rattle.rule_regroup.specs.Regrouped.{step_after}
use Rattle.rule_regroup.proofs.Turning.{rule_found, step_room, turned}
use Rattle.rule_regroup.proofs.turn.Goals as goal
use Rattle.rule_regroup.proofs.turn.Goals.{After-write_step-total, Start}

-- What the rule asks holds; there is room for what it makes of the stretch.
applies : (c : goal.Start) → Applied c.args.i c.args.j c.requires.headed.children
applies c = rule_found c.requires.stretch c.requires.headed c.args.i c.args.j c.requires.part_value

room : (c : goal.After-write_step-total) → let l = c.args.part.now in
    (c.write_step-total.result ≤ length l) × (length l ≤ sheet_room)
room c = (
  omega (
    arith,
    c.write_step-total.ensures.end,
    step_room c.requires.stretch c.requires.headed (rule_found c.requires.stretch c.requires.headed c.args.i c.args.j c.requires.part_value),
  ),
  c.requires.stretch.short,
)

wide : (c : goal.After-write_step-total) → length c.write_step-total.new.out ≡ sheet_room
wide c = c.write_step-total.auto.out ∙ length-replicate {A = ℕ} sheet_room 0

taken : (c : goal.After-write_step-total) → length (take c.write_step-total.result c.write_step-total.new.out) ≡ c.write_step-total.result
taken c = length-take-le c.write_step-total.result c.write_step-total.new.out (omega (arith, room c, wide c))

pub write_step-total-requires : goal.write_step-total-requires
write_step-total-requires c =
    record {
      stretch = c.requires.stretch;
      headed = c.requires.headed;
      part_value = c.requires.part_value;
      part_in_bounds = omega (arith, c.requires.stretch.short, length-replicate {A = ℕ} sheet_room 0);
    }

pub slice_bounds-out-end : goal.slice_bounds-out-end
slice_bounds-out-end c =
    omega (arith, room (goal.at.slice_bounds-out-end c).After-write_step-total, wide (goal.at.slice_bounds-out-end c).After-write_step-total)

pub slice_bounds-copy-end : goal.slice_bounds-copy-end
slice_bounds-copy-end c = sym (taken (goal.at.slice_bounds-copy-end c).After-write_step-total)

pub copy-requires : goal.copy-requires
copy-requires c = omega (arith, room (goal.at.copy-requires c).After-write_step-total, taken (goal.at.copy-requires c).After-write_step-total)

pub clear_from-requires : goal.clear_from-requires
clear_from-requires c = omega (arith, room (goal.at.clear_from-requires c).After-write_step-total, c.copy.auto.out)

pub returns : goal.returns
returns c =
    let copied = c.copy in
    let total : copied.result ≡ c.write_step-total.result = omega (arith, copied.ensures.end, taken (goal.at.returns c).After-write_step-total) in
    let front : take c.write_step-total.result copied.new.out ≡ step_after c.args.i c.args.j c.args.part.now =
    rw total at copied.ensures.front ∙ c.write_step-total.ensures.front in
    let same : length c.clear_from.new.s ≡ length c.args.part.now = c.clear_from.auto.s ∙ c.copy.auto.out in
    turned c.requires.stretch c.requires.headed (applies (goal.at.returns c).Start)
    (length copied.new.out - c.write_step-total.result) c.requires.part_value front
    c.clear_from.ensures same
