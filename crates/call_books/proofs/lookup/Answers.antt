-- `call_books::lookup` meets its contract: the book's refusal first, and then what was found among the codes.
use mathlib.Core.Option.{none}
use mathlib.Core.Path.{◌≡◌, refl, ap, ◌∙◌, sym}
use native.Mathlib.Omega.{arith}
use borrow.Author.Rules.{part_to_end}
use lib.ListN.{length-drop}
use Rattle.common_lists.specs.Given.{given}
use Rattle.calls.specs.Chains.{book_refusal}
use Rattle.call_laws.specs.Books.{check_none}
use Rattle.call_answers.specs.AnswerMeaning.{found_of}
use Rattle.call_answers.proofs.AnswersTold.{handed_on}
use Rattle.call_books.proofs.BookTests.{codes_room, lookup_refused, lookup_found, lookup_missing, found_code}
use Rattle.call_books.proofs.lookup.Goals as goal
use Rattle.call_books.proofs.lookup.Goals.{In_ok-check}

good : (c : goal.In_ok-check) → book_refusal c.args.book.now ≡ none
good c = check_none _ c.in_ok-check.ensures

pub returns-in_err-check : goal.returns-in_err-check
returns-in_err-check c = ap found_of (handed_on c.from_residual.ensures.1) ∙ lookup_refused _ _ _ c.in_err-check.ensures

pub word_at-n-requires : goal.word_at-n-requires
word_at-n-requires c = omega (arith, codes_room _ _ (good (goal.at.word_at-n-requires c).In_ok-check) refl)

pub slice_bounds-find-count : goal.slice_bounds-find-count
slice_bounds-find-count c = omega (arith, codes_room _ _ (good (goal.at.slice_bounds-find-count c).In_ok-check) refl)

pub slice_bounds-find-start : goal.slice_bounds-find-start
slice_bounds-find-start c = omega (arith, codes_room _ _ (good (goal.at.slice_bounds-find-start c).In_ok-check) refl)

pub find-place-requires : goal.find-place-requires
find-place-requires c =
    let b = c.args.book.now in
    rw (part_to_end b 8, length-drop 8 b) (omega (arith, codes_room b _ (good (goal.at.find-place-requires c).In_ok-check) c.word_at-n.ensures))

pub returns-in-Some : goal.returns-in-Some
returns-in-Some c =
    lookup_found _ _ (good (goal.at.returns-in-Some c).In_ok-check) _
    (found_code _ _ _ c.word_at-n.ensures (ap given (sym c.in-Some.is) ∙ c.find-place.ensures))

pub returns-in-None : goal.returns-in-None
returns-in-None c =
    lookup_missing _ _ (good (goal.at.returns-in-None c).In_ok-check)
    (found_code _ _ _ c.word_at-n.ensures (ap given (sym c.in-None.is) ∙ c.find-place.ensures))
