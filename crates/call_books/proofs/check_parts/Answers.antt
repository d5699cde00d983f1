-- `call_books::check_parts` meets its contract: the first test that fails decides, and the tests before it held.
use mathlib.Core.Bool.{true}
use mathlib.Core.Path.{◌≡◌, sym, ◌∙◌}
use native.Mathlib.Omega.{arith}
use borrow.Author.Rules.{rules}
use Rattle.calls.specs.Conditions.{has_good_codes, has_good_contents, has_good_bodies}
use Rattle.call_books.proofs.BookTests.{codes_test, contents_test, bodies_test, weigh_test, codes_bad, contents_bad}
use Rattle.call_books.proofs.BookTests.{bodies_bad, weight_bad, all_good}
use Rattle.call_books.proofs.check_parts.Goals as goal
use Rattle.call_books.proofs.check_parts.Goals.{Else-not-are_bodies, Else-not-are_codes, Else-not-are_in_line}

-- The tests that are passed, and what each says of the book.
good_codes : (c : goal.Else-not-are_codes) → has_good_codes c.args.book.now ≡ true
good_codes c =
    codes_test c.requires c.are_codes.ensures
    ∙ c.if-not-are_codes.false

good_contents : (c : goal.Else-not-are_in_line) → has_good_contents c.args.book.now ≡ true
good_contents c =
    contents_test c.requires c.are_in_line.ensures
    ∙ c.if-not-are_in_line.false

good_bodies :
    (c : goal.Else-not-are_bodies) →
    let lined = c in
    has_good_bodies lined.args.book.now ≡ true
good_bodies c =
    let lined = c in
    bodies_test lined.requires c.are_bodies.ensures
    ∙ c.if-not-are_bodies.false

pub returns-then-not-are_codes : goal.returns-then-not-are_codes
returns-then-not-are_codes c =
    codes_bad _
    (codes_test c.requires c.are_codes.ensures
    ∙ c.if-not-are_codes.true)

pub returns-then-not-are_in_line : goal.returns-then-not-are_in_line
returns-then-not-are_in_line c =
    contents_bad _ (good_codes (goal.at.returns-then-not-are_in_line c).Else-not-are_codes)
    (contents_test c.requires c.are_in_line.ensures
    ∙ c.if-not-are_in_line.true)

pub are_bodies-requires : goal.are_bodies-requires
are_bodies-requires c =
    record { m_le_most_rules = search rules; m_in_bounds = search rules; contents_value = sym c.are_in_line.ensures ∙ c.if-not-are_in_line.false }

pub returns-then-not-are_bodies : goal.returns-then-not-are_bodies
returns-then-not-are_bodies c =
    let k = (goal.at.returns-then-not-are_bodies c).Else-not-are_codes in
    bodies_bad _ (good_codes k) (good_contents (goal.at.returns-then-not-are_bodies c).Else-not-are_in_line)
    (bodies_test c.requires c.are_bodies.ensures
    ∙ c.if-not-are_bodies.true)

pub weigh_book-requires : goal.weigh_book-requires
weigh_book-requires c = weigh_test c.requires

pub returns-then-weigh_book-gt-MOST_WEIGHT : goal.returns-then-weigh_book-gt-MOST_WEIGHT
returns-then-weigh_book-gt-MOST_WEIGHT c =
    let k = (goal.at.returns-then-weigh_book-gt-MOST_WEIGHT c).Else-not-are_codes in
    let l = (goal.at.returns-then-weigh_book-gt-MOST_WEIGHT c).Else-not-are_in_line in
    weight_bad _ (good_codes k) (good_contents l) (good_bodies (goal.at.returns-then-weigh_book-gt-MOST_WEIGHT c).Else-not-are_bodies)
    (omega (arith, c.if-weigh_book-gt-MOST_WEIGHT.true, c.weigh_book.ensures.0))

pub returns : goal.returns
returns c =
    let k = (goal.at.returns c).Else-not-are_codes in
    all_good _ (good_codes k) (good_contents (goal.at.returns c).Else-not-are_in_line) (good_bodies (goal.at.returns c).Else-not-are_bodies)
    (omega (arith, c.if-weigh_book-gt-MOST_WEIGHT.false, c.weigh_book.ensures.0))
