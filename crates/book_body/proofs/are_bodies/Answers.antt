use mathlib.Core.Bool.{true, ◌&&◌}
use mathlib.Core.List.{List}
use mathlib.Core.Path.{◌≡◌, sym, ◌∙◌}
use Prim.Native.Nat.{ℕ, ◌+◌, ◌*◌, ◌-◌, ◌≤◌, ◌<◌}
use native.Mathlib.Nat.{sub-zero, sub_self}
use native.Mathlib.Omega.{arith}
use borrow.Author.Rules.{part_to_end}
use lib.ListN.{drop, length-drop}
use Rattle.model.specs.Base.{all}
use Rattle.model.specs.Book.{word, words, entries, in_line, cut, body_ok}
use Rattle.theory_formats.specs.Bytes.{take_words}
use Rattle.book_body.proofs.BookNumbers.{words_from, entries_from, entries_at, drop_words_from, in_line_after, in_line_sum}
use Rattle.book_body.proofs.are_bodies.Goals as goal
use Rattle.book_body.proofs.are_bodies.Goals.{After-is_body, After-word_at-count}

-- One body more, where its entry ends within the total.
more :
    (n total sum m i : ℕ) (b s : List ℕ) →
    i < m →
    let k = word b (4 * i + 2) in
    sum + k ≤ total →
    all (body_ok n) (cut (entries_from m i b) (words_from total sum s))
    ≡ (body_ok n (words k (drop (2 * sum) s)) && all (body_ok n) (cut (entries_from m (i + 1) b) (words_from total (sum + k) s)))
unfolding cut all
more n total sum m i b s h within =
    let k = word b (4 * i + 2) in
    rw (entries_at m i b h, take_words k (total - sum) (drop (2 * sum) s) (omega arith), drop_words_from k total sum s)

-- What the next entry leaves: the entries after it are in line, so that its nodes are within the total.
lined :
    (c : goal.After-word_at-count) →
    let a = c.args in
    let l = c.loop-i in
    in_line a.total (l.sum + c.word_at-count.result) (entries_from a.m (l.i + 1) a.contents.now) ≡ true
lined c =
    let a = c.args in
    let l = c.loop-i in
    rw c.word_at-count.ensures
    (in_line_after a.total l.sum a.m l.i a.contents.now c.loop-i-test.true l.invariant.0)

fits :
    (c : goal.After-word_at-count) →
    c.loop-i.sum + c.word_at-count.result ≤ c.args.total
fits c = in_line_sum _ _ _ (lined c)

-- The answer for the next body, and what is left after it.
step :
    (c : goal.After-is_body) →
    let k = c in
    let a = k.args in
    let l = k.loop-i in
    all (body_ok a.n) (cut (entries a.m a.contents.now) (words a.total a.s.now))
    ≡ (c.is_body.result
    && all (body_ok a.n) (cut (entries_from a.m (l.i + 1) a.contents.now) (words_from a.total (l.sum + k.word_at-count.result) a.s.now)))
step c =
    let k = c in
    let a = k.args in
    let l = k.loop-i in
    let within = in_line_sum _ _ _ (in_line_after a.total l.sum a.m l.i a.contents.now k.loop-i-test.true l.invariant.0) in
    l.invariant.1
    ∙ rw (c.is_body.ensures, part_to_end a.s.now (2 * l.sum), k.word_at-count.ensures)
    (more a.n a.total l.sum a.m l.i a.contents.now a.s.now k.loop-i-test.true within)

pub loop-i-init : goal.loop-i-init
loop-i-init c =
    let a = c.args in
    (rw (sub-zero a.m) c.requires.contents_value, rw (sub-zero a.m, sub-zero a.total))

pub overflow_mul-sum : goal.overflow_mul-sum
overflow_mul-sum c = omega (arith, fits (goal.at.overflow_mul-sum c).After-word_at-count)

pub slice_bounds-is_body-count : goal.slice_bounds-is_body-count
slice_bounds-is_body-count c = omega (arith, fits (goal.at.slice_bounds-is_body-count c).After-word_at-count)

pub slice_bounds-is_body-start : goal.slice_bounds-is_body-start
slice_bounds-is_body-start c = omega (arith, fits (goal.at.slice_bounds-is_body-start c).After-word_at-count)

pub slice_bounds-is_body-end : goal.slice_bounds-is_body-end
slice_bounds-is_body-end c = omega (arith, fits (goal.at.slice_bounds-is_body-end c).After-word_at-count)

pub is_body-requires : goal.is_body-requires
is_body-requires c =
    let s = c.args.s.now in
    let k = 2 * c.loop-i.sum in
    let inside = fits (goal.at.is_body-requires c).After-word_at-count in
    let few = c.requires.m_le_most_rules.2 in
    (omega arith, rw (part_to_end s k, length-drop k s) (omega arith), few)

pub returns-then-not-is_body : goal.returns-then-not-is_body
returns-then-not-is_body c = sym (step (goal.at.returns-then-not-is_body c).After-is_body ∙ rw c.if-not-is_body.true)

pub overflow_add-sum : goal.overflow_add-sum
overflow_add-sum c = omega (arith, fits (goal.at.overflow_add-sum c).After-word_at-count)

pub loop-i-preserved : goal.loop-i-preserved
loop-i-preserved c =
    (lined (goal.at.loop-i-preserved c).After-word_at-count, step (goal.at.loop-i-preserved c).After-is_body ∙ rw c.if-not-is_body.false)

pub returns : goal.returns
unfolding cut entries all
returns c =
    let n = c in
    let e : n.loop-i.i ≡ n.args.m = omega arith in
    sym (n.loop-i.invariant.1 ∙ rw (e, sub_self n.args.m))
