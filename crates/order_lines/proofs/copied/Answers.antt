-- `order_lines::copied` meets its contract: the lines that may be read stand in the array, before blank ones.
use mathlib.Core.List.{◌++◌}
use mathlib.Core.Path.{sym, ap, ◌∙◌}
use native.Mathlib.Omega.{arith}
use lib.ListN.{length, drop, replicate}
use lib.Seq.{length-take-le}
use Rattle.order_lines.specs.LineMeaning.{blank}
use Rattle.order_lines.proofs.Copies.{readable_fits, copied_all}
use Rattle.order_lines.proofs.copied.Goals as goal

pub slice_bounds-all-end : goal.slice_bounds-all-end
slice_bounds-all-end c = omega (arith, readable_fits (length c.args.lines.now) c.args.count)

pub slice_bounds-copy_from_slice-end : goal.slice_bounds-copy_from_slice-end
slice_bounds-copy_from_slice-end c = sym (length-take-le c.readable-many.result _ (omega (arith, readable_fits (length c.args.lines.now) c.args.count)))

pub slice_bounds-copy_from_slice-end-2 : goal.slice_bounds-copy_from_slice-end-2
slice_bounds-copy_from_slice-end-2 c = sym (length-take-le c.readable-many.result _ (omega (arith, readable_fits (length c.args.lines.now) c.args.count)))

pub copy_from_slice-requires : goal.copy_from_slice-requires
copy_from_slice-requires c =
    let fits = readable_fits (length c.args.lines.now) c.args.count in
    length-take-le c.readable-many.result _ (omega (arith, fits)) ∙ sym (length-take-le c.readable-many.result c.args.lines.now (omega (arith, fits)))

pub returns : goal.returns
returns c =
    ap (λ l. l ++ drop c.readable-many.result (replicate 64 blank)) c.copy_from_slice.ensures.after
    ∙ copied_all c.args.lines.now c.args.count c.readable-many.result c.readable-many.ensures
