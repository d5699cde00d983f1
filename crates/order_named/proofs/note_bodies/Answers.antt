-- `order_named::note_bodies` meets its contract: the bodies stand at the end of the book, and each of their nodes has its place in the table.
use mathlib.Core.Bool.{true}
use mathlib.Core.List.{List}
use mathlib.Core.Path.{◌≡◌, refl, sym, ◌∙◌}
use Prim.Native.Nat.{ℕ, ◌+◌, ◌*◌, ◌-◌, ◌≤◌}
use native.Mathlib.Omega.{arith}
use lib.Dec.{leb}
use lib.ListN.{length, take, drop, length-drop}
use lib.Seq.{take_all}
use Rattle.model.specs.Base.{all}
use Rattle.model.specs.Limits.{most_options, most_nodes}
use Rattle.model.specs.Sheet.{body_node}
use Rattle.model.specs.Book.{word, words, options_of, rules_of, size_of, codes_end, contents_end, length_due, numbers_of}
use Rattle.theory_forms.specs.Lists.{all_weaken}
use Rattle.theory_formats.specs.Loading.{Accepted, book_numbers}
use Rattle.order_named.specs.Noting.{place_named}
use Rattle.order_named.proofs.Passes.{place_within}
use Rattle.order_named.proofs.note_bodies.Goals as goal
use Rattle.order_named.proofs.note_bodies.Goals.{After-word_at}

module _ (b : List ℕ) (a : Accepted b) where
  -- Where the bodies begin, by the numbers of the head; they are the rest of the book.
  abbrev begin : ℕ
  begin = 8 + 13 * word b 0 + 4 * word b 2

  whole : (length b ≡ begin + 2 * word b 4) × (word b 4 ≤ most_nodes)
  unfolding length_due contents_end codes_end options_of rules_of size_of
  whole = (a.long, a.nodes)

  bodies : numbers_of b ≡ words (word b 4) (drop begin b)
  unfolding numbers_of contents_end codes_end options_of rules_of size_of
  bodies = refl

  -- The part of the book from there on, and so many nodes of it.
  module _ {n t : ℕ} (from : n ≡ begin) (many : t ≡ word b 4) where
    abbrev part : List ℕ
    part = take (length b - n) (drop n b)

    part_is : part ≡ drop begin b
    part_is = rw from (take_all (length b - begin) (drop begin b) (omega (arith, length-drop begin b)))

    read : numbers_of b ≡ words t part
    read = bodies ∙ sym (rw (part_is, many))

    long : 2 * t ≤ length part
    long = rw part_is (omega (arith, many, whole.0, length-drop begin b))

    noted : all (λ x. leb (place_named x) most_options) (words t part) ≡ true
    noted =
        rw (← read)
        (all_weaken (body_node (options_of b)) _ (λ x. place_within x (options_of b) a.options) (numbers_of b) (book_numbers b a))

-- Where the bodies begin, as it was computed.
reckoned :
    (c : goal.After-word_at) →
    8 + 13 * c.word_at-codes.result + 4 * c.word_at.result ≡ begin c.args.book.now c.requires.0
reckoned c = omega (arith, c.word_at-codes.ensures, c.word_at.ensures)

pub word_at-codes-requires : goal.word_at-codes-requires
word_at-codes-requires c = omega (arith, c.requires.0.head)

pub overflow_mul-codes : goal.overflow_mul-codes
overflow_mul-codes c = omega (arith, c.word_at-codes.ensures, (whole _ c.requires.0).0)

pub overflow_add-bodies : goal.overflow_add-bodies
overflow_add-bodies c = omega (arith, c.word_at-codes.ensures, (whole _ c.requires.0).0)

pub word_at-requires : goal.word_at-requires
word_at-requires c = omega (arith, c.requires.0.head)

pub overflow_mul-bodies : goal.overflow_mul-bodies
overflow_mul-bodies c = omega (arith, c.word_at.ensures, (whole _ c.requires.0).0)

pub overflow_add-bodies-2 : goal.overflow_add-bodies-2
overflow_add-bodies-2 c = omega (arith, reckoned (goal.at.overflow_add-bodies-2 c).After-word_at, (whole _ c.requires.0).0)

pub slice_bounds-note_nodes-count : goal.slice_bounds-note_nodes-count
slice_bounds-note_nodes-count c = omega (arith, reckoned (goal.at.slice_bounds-note_nodes-count c).After-word_at, (whole _ c.requires.0).0)

pub slice_bounds-note_nodes-start : goal.slice_bounds-note_nodes-start
slice_bounds-note_nodes-start c = omega (arith, reckoned (goal.at.slice_bounds-note_nodes-start c).After-word_at, (whole _ c.requires.0).0)

pub word_at-requires-2 : goal.word_at-requires-2
word_at-requires-2 c = omega (arith, c.requires.0.head)

pub note_nodes-requires : goal.note_nodes-requires
note_nodes-requires c =
    let a = c.requires.0 in
    let from = reckoned (goal.at.note_nodes-requires c).After-word_at in
    let many = c.word_at-2.ensures in
    record { count_le_most_nodes = (omega (arith, many, (whole _ a).1), long _ a from many, c.requires.1); s_value = noted _ a from many }

pub returns : goal.returns
returns c =
    let from = reckoned (goal.at.returns c).After-word_at in
    rw (read _ c.requires.0 from c.word_at-2.ensures) c.note_nodes.ensures
