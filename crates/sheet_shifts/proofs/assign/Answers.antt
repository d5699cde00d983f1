use Rattle.std.proofs.Common.{◌≡◌, ◌++◌, ◌+◌, ◌-◌, take, drop, map, sym, ap, ◌∙◌, arith}
use borrow.Rule.Slice.PartMut.{Post-is}
use Rattle.std.proofs.Math.Seq.{slice}
use Rattle.std.proofs.lemmas.Grind.{common_steps, get_or_default_zero}
use Rattle.std.proofs.lemmas.List.{drop-take}
use Rattle.std.proofs.lemmas.List.Edits.{map_over_more}
use Rattle.sheet_shifts.specs.Replaced.{replaced}
use Rattle.sheet_shifts.proofs.assign.Goals as goal

pub loop-x-preserved : goal.loop-x-preserved
loop-x-preserved c =
    let a = c.args in
    let xs = c.loop-x.x-items in
    let i = c.loop-x.x-index in
    rw c.replacement.ensures
    (map_over_more (replaced a.same a.opposite a.for_same a.for_opposite) _ xs i _ (omega arith) c.loop-x.invariant (sym (get_or_default_zero xs i _ (omega arith))))

pub returns : goal.returns
returns c =
    let a = c.args in
    let f = replaced a.same a.opposite a.for_same a.for_opposite in
    let l = a.s.now in
    let wide : a.to ≡ a.from + (a.to - a.from) = omega arith in
    let part : slice a.from a.to l ≡ take (a.to - a.from) (drop a.from l) = ap (λ n. drop a.from (take n l)) wide ∙ drop-take a.from (a.to - a.from) l in
    let made : c.loop-x.x-items ≡ map f (take (a.to - a.from) (drop a.from l)) = grind (arith, common_steps) in
    ap (λ r. take a.from l ++ (c.loop-x.x-items ++ r)) (Post-is a.from a.to l (omega arith)) ∙ rw (made, part)
