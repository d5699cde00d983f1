use mathlib.Core.List.{List}
use mathlib.Core.Path.{◌≡◌, refl, sym, ap, ◌∙◌}
use Prim.Native.Nat.{ℕ, ◌+◌, ◌-◌, ◌≤◌}
use native.Mathlib.Omega.{arith}
use lib.Dec.{eqb}
use lib.ListN.{length, take, drop, get_or, set}
use lib.Seq.{drop-length}
use Rattle.model.specs.Base.{pick}
use Rattle.model.specs.Literal.{literal}
use Rattle.model.specs.Limits.{most_options}
use Rattle.calls.specs.Lines.{State}
use Rattle.calls.specs.Desk.{lines, keyed, go_on, all_keyed, with_no_lines}
use Rattle.call_answers.specs.AnswerMeaning.{found_of, on_sheet}
use Rattle.std.specs.Prelude.{Ok}
use Rattle.order_lines.specs.LineMeaning.{line, order}
use Rattle.desk_keying.specs.Endings.{ending}
use Rattle.call_answers.proofs.AnswersTold.{handed_on}
use Rattle.desk_keying.proofs.KeyedLines.{LastKeyed, line_stopped, line_accepted, asked_small, here_line, keyed_line, first_byte}
use Rattle.desk_keying.proofs.KeyedLines.{past_end, stopped_by, gone_on}
use Rattle.desk_keying.proofs.key_lines.Goals as goal
use Rattle.desk_keying.proofs.key_lines.Goals.{After-key_line}

-- A line that was looked at: where it ends, and what it and the lines after it give.
module _ (c : goal.After-key_line) where
  abbrev book : List ℕ
  book = c.args.book.now

  abbrev input : List ℕ
  input = c.args.input.now

  abbrev from : ℕ
  from = c.loop-at.at

  abbrev end : ℕ
  end = from + c.line_end.result

  abbrev so_far : State
  so_far = order c.loop-at.sheet c.loop-at.keyed c.loop-at.count

  ends : end ≡ from + ending (take (length input - from) (drop from input))
  ends = ap (λ k. from + k) c.line_end.ensures.0

  abbrev this : List ℕ
  this = here_line book input c.loop-at-test.true ends

  abbrev rest : List (List ℕ)
  rest = lines (drop (end + 1) input)

  all_from_here :
      let done = keyed book this so_far in
      on_sheet (go_on done.answer done.lent (all_keyed book rest))
      ≡ on_sheet (all_keyed book (lines input) (with_no_lines c.args.sheet.now))
  all_from_here =
      ap on_sheet (keyed_line book input c.loop-at-test.true ends so_far) ∙ c.loop-at.invariant.2

-- A line that was keyed: the option that it names is the last line now.
module _ (c : goal.After-key_line) (option : ℕ) (is : c.key_line.result ≡ Ok option) where
  abbrev left : List ℕ
  left = c.key_line.new.sheet

  taken : let n = c.loop-at in LastKeyed (book c) (this c) n.sheet n.keyed n.count option left
  taken =
      let n = c.loop-at in
      let told = ap found_of is in
      line_accepted (book c) (this c) n.sheet n.keyed n.count (rw told at c.key_line.ensures)

  small : (1 ≤ length (this c)) × (option ≤ most_options)
  small = asked_small (book c) (this c) option taken.asked_so

  -- What is left to key, beside the lines with this one.
  left_to_key :
      (w : ℕ) →
      w ≡ c.loop-at.count →
      let n = c.loop-at in
      on_sheet
      (all_keyed (book c) (rest c)
      (order left (set n.keyed w (line option (eqb (get_or (input c) (from c) 0) 45))) (n.count + 1)))
      ≡ on_sheet (all_keyed (book c) (lines (input c)) (with_no_lines c.args.sheet.now))
  left_to_key w e =
      let n = c.loop-at in
      let byte = first_byte (book c) (input c) c.loop-at-test.true (ends c) small.0 in
      ap on_sheet
      ((λ i. all_keyed (book c) (rest c) (order left (set n.keyed (e i) (line option (eqb (sym byte i) 45))) (n.count + 1)))
      ∙ gone_on (book c) (rest c) (keyed (book c) (this c) (so_far c)) taken.keyed_so)
      ∙ all_from_here c

pub loop-at-init : goal.loop-at-init
unfolding with_no_lines literal pick
loop-at-init c = (omega arith, refl, refl)

pub overflow_cast-keyed : goal.overflow_cast-keyed
overflow_cast-keyed c =
    record { fits = omega (arith, (small (goal.at.overflow_cast-keyed c).After-key_line c.in_ok-v.v c.in_ok-v.was).1) }

pub bounds-keyed-from : goal.bounds-keyed-from
bounds-keyed-from c =
    omega (arith, c.from.ensures, (taken (goal.at.bounds-keyed-from c).After-key_line c.in_ok-v.v c.in_ok-v.was).free)

pub overflow_add-count : goal.overflow_add-count
overflow_add-count c =
    record { fits = omega (arith, (taken (goal.at.overflow_add-count c).After-key_line c.in_ok-v.v c.in_ok-v.was).free) }

pub returns-in_err-v : goal.returns-in_err-v
returns-in_err-v c =
    let looked = (goal.at.returns-in_err-v c).After-key_line in
    let n = c.loop-at in
    let stopped = line_stopped (book looked) (this looked) n.sheet n.keyed n.count c.in_err-v.ensures in
    rw (handed_on c.from_residual.ensures.1)
    (stopped_by (book looked) (rest looked) (keyed (book looked) (this looked) (so_far looked)) stopped ∙ all_from_here looked)

pub loop-at-preserved-then-end-input : goal.loop-at-preserved-then-end-input
loop-at-preserved-then-end-input c =
    let looked = (goal.at.loop-at-preserved-then-end-input c).After-key_line in
    (omega arith, omega arith, left_to_key looked c.in_ok-v.v c.in_ok-v.was c.from.result c.from.ensures)

pub loop-at-preserved : goal.loop-at-preserved
loop-at-preserved c =
    let looked = (goal.at.loop-at-preserved c).After-key_line in
    let n = looked.loop-at in
    let v = c.in_ok-v.v in
    let same = past_end (book looked) (input looked)
    (order (left looked v c.in_ok-v.was) (set n.keyed c.from.result (line v (eqb (get_or (input looked) (from looked) 0) 45))) (n.count + 1))
    c.if-end-input.false in
    (omega arith, omega arith, ap on_sheet same ∙ left_to_key looked v c.in_ok-v.was c.from.result c.from.ensures)

pub returns : goal.returns
unfolding all_keyed lines
returns c =
    let input = c.args.input.now in
    let e : c.loop-at.at ≡ length input = omega arith in
    rw (e, drop-length input) at c.loop-at.invariant.2
