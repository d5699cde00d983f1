-- `desk_printing::put_counted` meets its contract: the digits go into a small array first, which is then lent as the line's second word.
use mathlib.Core.Path.{sym, ap, ◌∙◌}
use native.Mathlib.Omega.{arith}
use lib.ListN.{replicate}
use lib.Seq.{length-take-le}
use Rattle.texts.specs.Decimals.{decimal}
use Rattle.calls.specs.Desk.{line}
use Rattle.common_decimal.specs.Placed.{filled}
use Rattle.theory_texts.specs.Decimals.{twenty_digits}
use Rattle.common_decimal.proofs.PlacedBytes.{placed_count, placed_within, placed_start}
use Rattle.desk_printing.proofs.put_counted.Goals as goal

pub put_decimal-k-requires : goal.put_decimal-k-requires
put_decimal-k-requires c = twenty_digits c.args.n c.ranges.n.fits

pub slice_bounds-digits-end : goal.slice_bounds-digits-end
slice_bounds-digits-end c =
    placed_within (decimal c.args.n) (replicate 20 0) c.put_decimal-k.ensures

pub slice_bounds-put_line-end : goal.slice_bounds-put_line-end
slice_bounds-put_line-end c =
    let call = c.put_decimal-k in
    sym (length-take-le call.result call.new.out (placed_within (decimal c.args.n) (replicate 20 0) call.ensures))

pub put_line-requires : goal.put_line-requires
put_line-requires c =
    let call = c.put_decimal-k in
    let n = c.args.n in
    let within = placed_within (decimal n) (replicate 20 0) call.ensures in
    omega (
      arith,
      length-take-le call.result call.new.out within,
      placed_count (decimal n) (replicate 20 0) call.ensures,
      twenty_digits n c.ranges.n.fits,
      c.requires,
    )

pub returns : goal.returns
returns c =
    let call = c.put_decimal-k in
    let word = c.args.word.now in
    let old = c.args.out.now in
    c.put_line.ensures
    ∙ ap (λ c. filled (line word c) old) (placed_start (decimal c.args.n) (replicate 20 0) call.ensures)
