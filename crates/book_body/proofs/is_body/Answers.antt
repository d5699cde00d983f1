-- `book_body::is_body` meets its contract: its numbers are one tree.
use mathlib.Core.Bool.{false}
use mathlib.Core.List.{List}
use mathlib.Core.Option.{Option, none, some}
use mathlib.Core.Path.{◌≡◌, refl, sym, ap, ◌∙◌}
use Prim.Native.Nat.{ℕ, ◌*◌, ◌/◌, ◌≤◌}
use native.Mathlib.Omega.{arith}
use lib.Dec.{eqb}
use lib.ListN.{length, take}
use lib.Seq.{length-take-le}
use Rattle.model.specs.Base.{maybe}
use Rattle.model.specs.Code.{exactly_one}
use Rattle.model.specs.Book.{words}
use Rattle.theory_formats.specs.Bytes.{length_words}
use Rattle.common_members.specs.Tested.{tested, body_tested}
use Rattle.common_members.proofs.Counting.{same_count}
use Rattle.book_body.proofs.BookNumbers.{words_taken}
use Rattle.book_body.proofs.is_body.Goals as goal

-- The numbers that are lent.
lent : (n : ℕ) (s : List ℕ) → 2 * n ≤ length s → let part = take (2 * n) s in words (length part / 2) part ≡ words n s
lent n s h =
    let half : length (take (2 * n) s) / 2 ≡ n = omega (arith, length-take-le (2 * n) s h) in
    rw half (words_taken n s h)

one_counted : (o : Option ℕ) → maybe false (λ t. eqb t 1) o ≡ exactly_one o
unfolding exactly_one maybe
one_counted none = refl
one_counted (some t) = refl

pub count_trees-requires : goal.count_trees-requires
count_trees-requires c =
    let a = c.args in
    rw (lent a.count a.s.now c.requires.1) (omega (arith, length_words a.count a.s.now, c.requires.0), c.requires.2)

pub returns : goal.returns
returns c =
    let a = c.args in
    let counted = same_count c.count_trees.result 1 (c.count_trees.ensures ∙ ap (tested a.n) (lent a.count a.s.now c.requires.1)) in
    c.eq.ensures ∙ counted ∙ one_counted (tested a.n (words a.count a.s.now)) ∙ sym (body_tested a.n (words a.count a.s.now))
