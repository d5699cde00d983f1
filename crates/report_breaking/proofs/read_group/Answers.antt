-- `report_breaking::read_group` meets its contract: the part that is lent holds the children's entries.
use mathlib.Core.List.{List}
use mathlib.Core.Path.{◌≡◌, sym, subst}
use Prim.Native.Nat.{ℕ, ◌+◌, ◌-◌}
use native.Mathlib.Omega.{arith}
use lib.ListN.{take, drop, length-take, length-drop}
use Rattle.model.specs.Code.{children}
use Rattle.report_breaking.specs.Stacks.{Apart}
use Rattle.report_breaking.proofs.Entries.{stacked_take}
use Rattle.report_breaking.proofs.read_group.Goals as goal

-- The children's entries, in the part that is lent.
lent_children : (x top : ℕ) (stack : List ℕ) {v : ℕ} → v ≡ children x →
    take (top + v - top) (drop top stack) ≡ take (children x) (drop top stack)
lent_children x top stack {v} e = let n : top + v - top ≡ children x = omega arith in rw n

pub join-requires : goal.join-requires
join-requires c =
    let v = c.children_of in
    let g = c.args in
    let p = c.requires in
    let k = p.x_in_bounds.2 in
    let fs = drop g.top g.stack.now in
    let part : ℕ = g.top + v.result - g.top in record {
      children = (
        record {
          few = omega (arith, length-take part fs, length-drop g.top g.stack.now, p.x_in_bounds.1);
          room = k.room;
          inside = k.inside;
          stacked = stacked_take g.end part fs k.stacked;
          first = c.base_of-base.ensures;
        },
        p.places_len.0,
        p.places_len.1,
      );
      apart = subst (Apart g.x (take g.end g.places.now)) (sym (lent_children g.x g.top g.stack.now v.ensures)) p.apart;
    }
