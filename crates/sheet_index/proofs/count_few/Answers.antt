use mathlib.Core.Path.{◌≡◌, ap, ◌∙◌}
use Prim.Native.Nat.{◌+◌, ◌-◌}
use native.Mathlib.Omega.{arith}
use Rattle.model.specs.Base.{placed}
use Rattle.sheet_index.specs.Walk.{fresh_from}
use Rattle.sheet_index.proofs.Filling.{filled_start, start_filled, filled_further}
use Rattle.sheet_index.proofs.count_few.Goals as goal

pub loop-place-init : goal.loop-place-init
loop-place-init c = start_filled c.args.sheet.now c.args.few c.args.index.now c.requires.2

pub count_node-requires : goal.count_node-requires
count_node-requires c =
    let l = c.loop-place in
    let s = c.args.sheet.now in
    let next : l.place ≡ l.place - 1 + 1 = omega arith in
    (c.requires.0, omega (arith, c.requires.1), filled_start s l.place c.args.index.now l.invariant ∙ ap (fresh_from s) next)

pub loop-place-preserved : goal.loop-place-preserved
loop-place-preserved c =
    let l = c.loop-place in
    filled_further c.args.sheet.now (l.place - 1) l.place c.args.index.now l.invariant c.count_node.ensures

pub returns : goal.returns
returns c =
    let l = c.loop-place in
    let a = c.args in
    let first : l.place ≡ 0 = omega arith in
    l.invariant ∙ ap (λ p. placed (fresh_from a.sheet.now p) a.index.now) first
