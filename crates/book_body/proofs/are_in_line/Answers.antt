use mathlib.Core.Bool.{◌&&◌}
use mathlib.Core.Logic.{⊎_elim}
use mathlib.Core.Path.{◌≡◌, sym, ◌∙◌}
use Prim.Native.Nat.{◌+◌, ◌<◌}
use native.Mathlib.Nat.{sub-zero, sub_self}
use native.Mathlib.Omega.{arith}
use borrow.Author.Tests.{eq-eqb, ne_eqb, le-leb, lt-leb}
use lib.Dec.{eqb, leb}
use Rattle.model.specs.Book.{entries, in_line}
use Rattle.book_body.proofs.BookNumbers.{word_small, entries_from, in_line_at}
use Rattle.book_body.proofs.are_in_line.Goals as goal
use Rattle.book_body.proofs.are_in_line.Goals.{After-word_at-count, Else-first-sum}

-- One entry more.
more :
    (c : goal.After-word_at-count) →
    let n = c in
    let a = n.args in
    in_line a.total 0 (entries a.m a.s.now)
    ≡ (eqb c.word_at-first.result n.loop-i.sum && leb 1 c.word_at-count.result && in_line a.total (n.loop-i.sum + c.word_at-count.result)
    (entries_from a.m (n.loop-i.i + 1) a.s.now))
more c =
    let n = c in
    let a = n.args in
    n.loop-i.invariant.1
    ∙ rw (c.word_at-first.ensures, c.word_at-count.ensures)
    (in_line_at a.total n.loop-i.sum a.m n.loop-i.i a.s.now c.loop-i-test.true)

-- Where the entry's first node is the sum, its count decides.
by_count :
    (c : goal.Else-first-sum) →
    let a = c.args in
    in_line a.total 0 (entries a.m a.s.now)
    ≡ (leb 1 c.word_at-count.result && in_line a.total (c.loop-i.sum + c.word_at-count.result) (entries_from a.m (c.loop-i.i + 1) a.s.now))
by_count c =
    let a = c.args in
    c.loop-i.invariant.1
    ∙ rw (in_line_at a.total c.loop-i.sum a.m c.loop-i.i a.s.now c.loop-i-test.true, ← c.word_at-first.ensures, ← c.word_at-count.ensures)
    (rw (eq-eqb c.word_at-first.result c.loop-i.sum c.if-first-sum.false))

pub loop-i-init : goal.loop-i-init
loop-i-init c = (omega arith, rw (sub-zero c.args.m))

pub returns-then-first-sum : goal.returns-then-first-sum
returns-then-first-sum c =
    let k = more (goal.at.returns-then-first-sum c).After-word_at-count in
    let first = c.word_at-first.result in
    sym
    (⊎_elim
    (λ n. k ∙ rw (ne_eqb first c.loop-i.sum n))
    (λ p. k ∙ rw (eq-eqb first c.loop-i.sum p.0, lt-leb 1 c.word_at-count.result p.1))
    c.then-first-sum.either)

pub overflow_add-sum : goal.overflow_add-sum
overflow_add-sum c =
    let small : c.word_at-count.result < 65536 = rw c.word_at-count.ensures (word_small c.args.s.now _ (λ i. (c.type_inv.s i).fits)) in
    omega arith

pub loop-i-preserved : goal.loop-i-preserved
loop-i-preserved c =
    let small : c.word_at-count.result < 65536 = rw c.word_at-count.ensures (word_small c.args.s.now _ (λ i. (c.type_inv.s i).fits)) in
    (omega arith, by_count (goal.at.loop-i-preserved c).Else-first-sum ∙ rw (le-leb 1 c.word_at-count.result c.if-count-lt1.false))

pub returns : goal.returns
unfolding entries in_line
returns c =
    let n = c in
    let e : n.loop-i.i ≡ n.args.m = omega arith in
    sym (n.loop-i.invariant.1 ∙ rw (e, sub_self n.args.m))
