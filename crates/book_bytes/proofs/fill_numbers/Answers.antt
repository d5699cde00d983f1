-- `book_bytes::fill_numbers` meets its contract: the numbers stand at the start, and zeros follow.
use mathlib.Core.List.{◌++◌}
use mathlib.Core.Path.{ap, ap₂, ◌∙◌}
use Prim.Native.Nat.{◌-◌}
use lib.ListN.{take, drop, replicate}
use lib.Seq.{take_at}
use Rattle.model.specs.Book.{words}
use Rattle.theory_formats.specs.Bytes.{length_words}
use Rattle.book_bytes.proofs.fill_numbers.Goals as goal

pub returns : goal.returns
returns c =
    let a = c.args in
    let put = c.put_numbers in
    let n = a.count in
    let front = ap (take n) put.ensures ∙ take_at (words n a.s.now) (drop n a.out.now) n (length_words n a.s.now) in
    c.clear_from.ensures ∙ ap₂ (λ xs m. xs ++ replicate (m - n) 0) front put.auto.out
