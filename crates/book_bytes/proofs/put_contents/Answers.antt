use mathlib.Core.Path.{refl, ap, ◌∙◌}
use native.Mathlib.Omega.{arith}
use Rattle.model.specs.Book.{bytes_of, lined_up}
use Rattle.theory_formats.specs.Contents.{total}
use Rattle.theory_reading.specs.Spans.{span, spans}
use Rattle.common_lists.proofs.Lent.{lent_part}
use Rattle.book_bytes.proofs.TreeContents.{begins, contents_more}
use Rattle.book_bytes.proofs.put_contents.Goals as goal

pub loop-k-init : goal.loop-k-init
unfolding bytes_of lined_up spans total
loop-k-init c = (omega arith, refl, refl)

pub loop-k-preserved : goal.loop-k-preserved
loop-k-preserved c =
    let s = c.args.s.now in
    let old = c.args.out.now in
    let k = c.loop-k.k in
    let tree = c.span_of-count in
    let here = c.loop-k.invariant.1 in
    let long = tree.ensures.0 ∙ ap (span 1) (lent_part c.loop-k.at s) in (
      omega arith,
      begins s k here long,
      contents_more s k here long old (omega arith) c.loop-k.invariant.2 c.put_word.ensures c.put_word-in-loop-k.ensures,
    )
