-- `run_bounds_after::resize_by` meets its contract: what follows moves up, ones follow it, and the sizes before fall.
use mathlib.Core.Path.{subst}
use Prim.Native.Nat.{◌-◌}
use native.Mathlib.Omega.{arith}
use Rattle.model.specs.Limits.{sheet_room}
use Rattle.run_bounds_after.proofs.RenewedEntries.{Ones, gone}
use Rattle.run_bounds_after.proofs.FallenSizes.{falls_same, kept_before, resized}
use Rattle.run_bounds_after.proofs.resize_by.Goals as goal
use Rattle.run_bounds_after.proofs.resize_by.Goals.{After-put_ones}

-- The table before its first entries fall.
moved : (c : goal.After-put_ones) → let a = c.args in
    Ones (sheet_room - (a.old - a.new)) sheet_room (gone a.sizes.now a.new (a.old - a.new)) c.put_ones.new.low
moved c =
    let a = c.args in
    let e = c.put_ones.ensures in
    subst (λ t. Ones (sheet_room - (a.old - a.new)) sheet_room t c.put_ones.new.low) c.close_up.ensures (record {
      ones = e.by_index;
      before = e.by_index_2.0;
      after = e.by_index_2.1;
    })

pub shrink-requires : goal.shrink-requires
shrink-requires c =
    let p = c.requires in
    let a = c.args in
    let low = c.put_ones.new.low in
    let same = kept_before a.to a.place a.new a.old a.sizes.now low low p.sizes_len p.to_le.0 p.to_le.1 p.to_le.2
    (moved (goal.at.shrink-requires c).After-put_ones) in
    record {
      to_in_bounds = (omega (arith, c.put_ones.auto.low, c.close_up.auto.low, p.sizes_len, p.to_le), omega (arith, p.to_le));
      falls = falls_same a.to a.place (a.old - a.new) a.sizes.now low (λ q l. same q (omega (arith, p.to_le.0))) p.falls;
    }

pub returns : goal.returns
returns c =
    let p = c.requires in
    let a = c.args in
    resized a.to a.place a.new a.old a.sizes.now c.put_ones.new.low c.shrink.new.sizes p.sizes_len p.to_le.0 p.to_le.1 p.to_le.2
    (moved (goal.at.returns c).After-put_ones) c.shrink.ensures
