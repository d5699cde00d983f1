-- `book_bytes::put_head` meets its contract: one number more, four times.
use mathlib.Core.List.{◌∷◌, []}
use mathlib.Core.Path.{refl, ◌∙◌}
use native.Mathlib.Omega.{arith}
use Rattle.model.specs.Book.{bytes_of}
use Rattle.book_bytes.proofs.NumberBytes.{bytes_more}
use Rattle.book_bytes.proofs.put_head.Goals as goal

pub returns : goal.returns
unfolding bytes_of
returns c =
    let old = c.args.out.now in
    let n = c.args.n in
    let m = c.args.m in
    let t = c.args.t in
    let s1 = c.put_word.ensures ∙ bytes_more [] old n refl (omega arith) refl in
    let s2 = c.put_word-2.ensures ∙ bytes_more (n ∷ []) old m refl (omega arith) s1 in
    let s3 = c.put_word-3.ensures ∙ bytes_more (n ∷ m ∷ []) old t refl (omega arith) s2 in
    c.put_word-4.ensures ∙ bytes_more (n ∷ m ∷ t ∷ []) old 0 refl (omega arith) s3
