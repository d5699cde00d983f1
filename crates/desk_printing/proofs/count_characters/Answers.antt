use mathlib.Core.List.{append-nil}
use mathlib.Core.Path.{◌≡◌, refl, sym, ◌∙◌}
use native.Mathlib.Omega.{arith}
use lib.ListN.{take}
use Rattle.desk_printing.proofs.Options.{characters_stop, characters_more, characters_end}
use Rattle.desk_printing.proofs.count_characters.Goals as goal

pub loop-k-init : goal.loop-k-init
loop-k-init c = refl

pub returns-then-code-k-eq0 : goal.returns-then-code-k-eq0
returns-then-code-k-eq0 c =
    let s = c.args.code.now in
    let k = c.loop-k.k in (
      omega arith,
      sym (c.loop-k.invariant ∙ rw (characters_stop s k c.requires (omega arith) c.if-code-k-eq0.true) (append-nil (take k s))),
    )

pub loop-k-preserved : goal.loop-k-preserved
loop-k-preserved c =
    let s = c.args.code.now in
    let k = c.loop-k.k in
    c.loop-k.invariant ∙ characters_more s k c.requires (omega arith) c.if-code-k-eq0.false

pub returns : goal.returns
returns c =
    let s = c.args.code.now in
    let k = c.loop-k.k in
    let e : k ≡ 13 = omega arith in (
      omega arith,
      sym (c.loop-k.invariant ∙ rw (e, characters_end s) (append-nil (take 13 s))),
    )
