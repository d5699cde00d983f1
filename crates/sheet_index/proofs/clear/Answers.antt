use mathlib.Core.List.{[]}
use mathlib.Core.Path.{◌≡◌, sym, ap, ◌∙◌}
use Prim.Native.Nat.{◌+◌, ◌*◌, ◌<◌}
use native.Mathlib.Omega.{arith}
use lib.ListN.{length, length-set}
use Rattle.model.specs.Base.{placed}
use Rattle.theory_index.specs.Entries.{entries_from, from_root}
use Rattle.sheet_index.proofs.Filling.{cleared_none, cleared_more}
use Rattle.sheet_index.proofs.clear.Goals as goal

pub loop-v-init : goal.loop-v-init
loop-v-init c = cleared_none c.args.index.now

pub bounds-index-at-in-loop-v : goal.bounds-index-at-in-loop-v
bounds-index-at-in-loop-v c = simp length-set (omega arith)

pub loop-v-preserved : goal.loop-v-preserved
loop-v-preserved c =
    let l = c.loop-v in
    let old = c.args.index.now in
    let here : 2 * l.v + 1 < length old = omega arith in
    rw l.invariant (cleared_more old l.v here)

pub returns : goal.returns
returns c =
    let l = c.loop-v in
    let a = c.args in
    let all : l.v ≡ a.options = omega arith in
    let old = a.index.now in
    l.invariant ∙ ap (λ n. placed (entries_from 0 0 n []) old) all ∙ ap (λ new. placed new old) (sym (from_root 0 a.options []))
