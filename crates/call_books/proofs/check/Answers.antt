-- `call_books::check` meets its contract: length under 8, head, length, and then the parts.
use mathlib.Core.Bool.{true}
use mathlib.Core.Path.{◌≡◌, sym, ◌∙◌}
use Prim.Native.Nat.{◌+◌, ◌*◌, ◌≤◌}
use native.Mathlib.Omega.{arith}
use borrow.Author.Tests.{lt-ltb, le-ltb, eq-eqb, ne_eqb}
use Rattle.model.specs.Limits.{most_options, most_rules, most_nodes}
use Rattle.model.specs.Book.{head_in_limits, length_due}
use Rattle.call_laws.specs.Books.{too_short, bad_head, bad_length, then_parts}
use Rattle.call_books.proofs.BookTests.{head_limits, length_is, refused_by, done_by}
use Rattle.call_books.proofs.check.Goals as goal
use Rattle.call_books.proofs.check.Goals.{After-word_at-t, Else-not-is_head}

-- Past the second test the head is good, and its numbers are small.
good_head : (c : goal.Else-not-is_head) → head_in_limits c.args.book.now ≡ true
good_head c = sym c.is_head.ensures ∙ c.if-not-is_head.false

limits :
    (c : goal.After-word_at-t) →
    (c.word_at-n.result ≤ most_options) × (c.word_at-m.result ≤ most_rules) × (c.word_at-t.result ≤ most_nodes)
limits c =
    head_limits _ _ _ _ c.word_at-n.ensures c.word_at-m.ensures c.word_at-t.ensures
    (sym c.is_head.ensures ∙ c.if-not-is_head.false)

-- The length due, as it is added up.
due_here :
    (c : goal.After-word_at-t) →
    let n = c.word_at-n.result in
    let m = c.word_at-m.result in
    length_due c.args.book.now ≡ 8 + 13 * n + 4 * m + 2 * c.word_at-t.result
due_here c = length_is _ _ _ _ c.word_at-n.ensures c.word_at-m.ensures c.word_at-t.ensures

pub returns-then-book-lt-HEAD_LENGTH : goal.returns-then-book-lt-HEAD_LENGTH
returns-then-book-lt-HEAD_LENGTH c = refused_by _ _ (too_short _ (lt-ltb _ 8 c.if-book-lt-HEAD_LENGTH.true))

pub returns-then-not-is_head : goal.returns-then-not-is_head
returns-then-not-is_head c =
    refused_by _ _
    (bad_head _ (le-ltb _ 8 c.if-book-lt-HEAD_LENGTH.false)
    (sym c.is_head.ensures ∙ c.if-not-is_head.true))

pub overflow_mul-n : goal.overflow_mul-n
overflow_mul-n c = let l = limits (goal.at.overflow_mul-n c).After-word_at-t in omega arith

pub overflow_add-n : goal.overflow_add-n
overflow_add-n c = let l = limits (goal.at.overflow_add-n c).After-word_at-t in omega arith

pub overflow_mul-m : goal.overflow_mul-m
overflow_mul-m c = let l = limits (goal.at.overflow_mul-m c).After-word_at-t in omega arith

pub overflow_add-n-2 : goal.overflow_add-n-2
overflow_add-n-2 c = let l = limits (goal.at.overflow_add-n-2 c).After-word_at-t in omega arith

pub overflow_mul-t : goal.overflow_mul-t
overflow_mul-t c = let l = limits (goal.at.overflow_mul-t c).After-word_at-t in omega arith

pub overflow_add-n-3 : goal.overflow_add-n-3
overflow_add-n-3 c = let l = limits (goal.at.overflow_add-n-3 c).After-word_at-t in omega arith

pub returns-then-book-n : goal.returns-then-book-n
returns-then-book-n c =
    let other = ne_eqb _ _ (λ q. c.if-book-n.true (q ∙ due_here (goal.at.returns-then-book-n c).After-word_at-t)) in
    refused_by _ _ (bad_length _ (le-ltb _ 8 c.if-book-lt-HEAD_LENGTH.false) (good_head (goal.at.returns-then-book-n c).Else-not-is_head) other)

pub check_parts-requires : goal.check_parts-requires
check_parts-requires c =
    let l = limits (goal.at.check_parts-requires c).After-word_at-t in
    record {
      options = c.word_at-n.ensures;
      rules = c.word_at-m.ensures;
      nodes = c.word_at-t.ensures;
      few_options = l.0;
      few_rules = l.1;
      few_nodes = l.2;
      long = c.if-book-n.false;
    }

pub returns : goal.returns
returns c =
    let due = eq-eqb _ _ (c.if-book-n.false ∙ sym (due_here (goal.at.returns c).After-word_at-t)) in
    let parts = then_parts _ (le-ltb _ 8 c.if-book-lt-HEAD_LENGTH.false) (good_head (goal.at.returns c).Else-not-is_head) due in
    done_by _ c.check_parts.result (c.check_parts.ensures ∙ sym parts)
