use mathlib.Core.List.{List, map}
use mathlib.Core.Path.{◌≡◌, refl, sym, ap, ◌∙◌}
use Prim.Native.Nat.{ℕ, ◌+◌, ◌*◌, ◌<◌}
use native.Mathlib.Omega.{arith}
use lib.ListN.{length, get_or, drop, length-map}
use Rattle.model.specs.Code.{literals, weight, node_of}
use Rattle.model.specs.Book.{word, options_of, rules_of, size_of, codes_end, contents_end, length_due, numbers_of, book_nodes}
use Rattle.theory_forms.specs.Scan.{is_literal}
use Rattle.theory_formats.specs.Bytes.{length_words, word_drop, word_among}
use Rattle.common_weight.proofs.Weighing.{begun, small, literal_weighed, other_weighed, all_weighed}
use Rattle.common_weight.proofs.weigh_book.Goals as goal
use Rattle.common_weight.proofs.weigh_book.Goals.{In-loop-i, then-is_literal, else-is_literal}

module _ (b : List ℕ) where
  -- Where the bodies begin, by the numbers of the head.
  abbrev begin : ℕ
  begin = 8 + 13 * word b 0 + 4 * word b 2

  read_size : size_of b ≡ word b 4
  unfolding size_of
  read_size = refl

  read_due : length_due b ≡ begin + 2 * size_of b
  unfolding length_due contents_end codes_end options_of rules_of
  read_due = refl

  -- The numbers of the bodies: how many, what each is, and their weight with the root's.
  bodies_many : length (numbers_of b) ≡ size_of b
  unfolding numbers_of
  bodies_many = length_words (size_of b) (drop (contents_end b) b)

  bodies_at : (i : ℕ) → i < size_of b → get_or (numbers_of b) i 0 ≡ word b (begin + 2 * i)
  unfolding numbers_of contents_end codes_end options_of rules_of
  bodies_at i h = word_among (size_of b) i (drop begin b) h ∙ word_drop begin (2 * i) b

  bodies_weight : weight (book_nodes b) ≡ 1 + size_of b + literals (map node_of (numbers_of b))
  unfolding weight book_nodes literals
  bodies_weight = omega (arith, length-map (numbers_of b) node_of, bodies_many)

-- In the loop: the place of the number, as it was computed; it is that of a body's number, and the number is in the book.
module _ (c : goal.In-loop-i) where
  abbrev book : List ℕ
  book = c.args.book.now

  at_place : 8 + 13 * c.word_at-codes.result + 4 * c.word_at.result + 2 * c.loop-i.i ≡ begin book + 2 * c.loop-i.i
  at_place = omega (arith, c.word_at-codes.ensures, c.word_at.ensures)

  inside : c.loop-i.i < size_of book
  inside = omega (arith, c.loop-i-test.true, c.from-i-end.ensures, c.number_at-size.ensures, read_size book)

  in_book : begin book + 2 * c.loop-i.i + 1 < length book
  in_book = omega (arith, inside, read_due book, c.requires.1)

pub word_at-codes-requires : goal.word_at-codes-requires
word_at-codes-requires c = omega (arith, read_due c.args.book.now, c.requires.1)

pub overflow_mul-codes : goal.overflow_mul-codes
overflow_mul-codes c = omega (arith, c.word_at-codes.ensures, read_due c.args.book.now, c.requires.1)

pub overflow_add-bodies : goal.overflow_add-bodies
overflow_add-bodies c = omega (arith, c.word_at-codes.ensures, read_due c.args.book.now, c.requires.1)

pub word_at-requires : goal.word_at-requires
word_at-requires c = omega (arith, read_due c.args.book.now, c.requires.1)

pub overflow_mul-bodies : goal.overflow_mul-bodies
overflow_mul-bodies c = omega (arith, c.word_at.ensures, read_due c.args.book.now, c.requires.1)

pub overflow_add-bodies-2 : goal.overflow_add-bodies-2
overflow_add-bodies-2 c =
    omega (arith, c.word_at-codes.ensures, c.word_at.ensures, read_due c.args.book.now, c.requires.1)

pub number_at-size-requires : goal.number_at-size-requires
number_at-size-requires c = omega (arith, read_due c.args.book.now, c.requires.1)

pub overflow_add-sum : goal.overflow_add-sum
overflow_add-sum c =
    omega (arith, c.number_at-size.ensures, read_size c.args.book.now, c.requires.0)

pub loop-i-init : goal.loop-i-init
loop-i-init c =
    let b = c.args.book.now in
    let size : size_of b ≡ c.number_at-size.result = read_size b ∙ sym c.number_at-size.ensures in
    rw (← size) (small (omega (arith, bodies_many b, c.requires.0)) (begun (bodies_weight b)))

pub overflow_mul-i : goal.overflow_mul-i
overflow_mul-i c = omega (arith, in_book (goal.at.overflow_mul-i c).In-loop-i)

pub overflow_add-bodies-in-loop-i : goal.overflow_add-bodies-in-loop-i
overflow_add-bodies-in-loop-i c =
    let k = (goal.at.overflow_add-bodies-in-loop-i c).In-loop-i in
    omega (arith, at_place k, in_book k)

pub word_at-requires-in-loop-i : goal.word_at-requires-in-loop-i
word_at-requires-in-loop-i c =
    let k = (goal.at.word_at-requires-in-loop-i c).In-loop-i in
    omega (arith, at_place k, in_book k)

pub loop-i-preserved : goal.loop-i-preserved
loop-i-preserved c =
    let k = (goal.at.loop-i-preserved c).In-loop-i in
    let b = book k in
    let i = c.loop-i.i in
    let here : i < length (numbers_of b) = omega (arith, inside k, bodies_many b) in
    let number : get_or (numbers_of b) i 0 ≡ c.word_at-in-loop-i.result =
    bodies_at b i (inside k) ∙ ap (word b) (sym (at_place k)) ∙ sym c.word_at-in-loop-i.ensures in
    let read : is_literal (get_or (numbers_of b) i 0) ≡ c.is_literal.result =
    ap is_literal number ∙ sym c.is_literal.ensures in
    small (omega (arith, bodies_many b, c.requires.0))
    (elim c.if-is_literal.branch [
      | then-is_literal w ↦ literal_weighed here c.loop-i.invariant.0 (read ∙ w.if-is_literal.true) w.sum-is
      | else-is_literal w ↦ other_weighed here c.loop-i.invariant.0 (read ∙ w.if-is_literal.false) w.sum-is
    ])

pub returns : goal.returns
returns c =
    let b = c.args.book.now in
    let count = c.from-i-end.ensures in
    let size = c.number_at-size.ensures in
    let all : c.loop-i.i ≡ length (numbers_of b) = omega (arith, count, size, read_size b, bodies_many b) in
    (all_weighed all c.loop-i.invariant.0, c.loop-i.invariant.1)
