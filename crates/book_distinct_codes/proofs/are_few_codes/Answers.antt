use mathlib.Core.Path.{refl, sym, ◌∙◌}
use Prim.Native.Nat.{◌-◌}
use native.Mathlib.Omega.{arith}
use Rattle.model.specs.Limits.{most_options}
use Rattle.book_distinct_codes.specs.Hashes.{buckets}
use Rattle.book_distinct_codes.proofs.ComesAgain.{ok_more}
use Rattle.book_distinct_codes.proofs.HashTables.{entered_none, entered_before, entered_more, entered_all, walk, bad_from}
use Rattle.book_distinct_codes.proofs.are_few_codes.Goals as goal

pub loop-i-init : goal.loop-i-init
loop-i-init c = entered_none c.args.n c.args.s.now buckets most_options refl refl (omega arith)

pub returns-then-not-is_code : goal.returns-then-not-is_code
returns-then-not-is_code c =
    let m = c in
    let n = m in
    let a = n.args in
    sym (bad_from a.n a.s.now (n.loop-i.i - 1) (omega arith)
    (ok_more a.n a.s.now (n.loop-i.i - 1) (omega arith) ∙ rw (← m.is_code.ensures, c.if-not-is_code.true)))

pub comes_again-requires : goal.comes_again-requires
comes_again-requires c =
    let g = c in
    let n = g in
    walk (entered_before (omega arith) n.loop-i.invariant) (omega arith) g.hash_of-h.result g.hash_of-h.ensures.1 g.hash_of-h.ensures.0
    (omega arith) c.from.ensures

pub returns-then-comes_again : goal.returns-then-comes_again
returns-then-comes_again c =
    let r = c in
    let l = r in
    let m = l in
    let n = m in
    let a = n.args in
    sym (bad_from a.n a.s.now (n.loop-i.i - 1) (omega arith) (ok_more a.n a.s.now (n.loop-i.i - 1) (omega arith)
    ∙ rw (← m.is_code.ensures, l.if-not-is_code.false, ← r.comes_again.ensures, c.if-comes_again.true)))

pub loop-i-preserved : goal.loop-i-preserved
loop-i-preserved c =
    let r = c in
    let g = r in
    let l = g in
    let m = l in
    let n = m in
    entered_more (entered_before (omega arith) n.loop-i.invariant) (omega arith) g.hash_of-h.result g.hash_of-h.ensures.1 g.hash_of-h.ensures.0
    (sym m.is_code.ensures ∙ l.if-not-is_code.false) (sym r.comes_again.ensures ∙ c.if-comes_again.false)

pub returns : goal.returns
returns c = sym (entered_all (omega arith) c.loop-i.invariant)
