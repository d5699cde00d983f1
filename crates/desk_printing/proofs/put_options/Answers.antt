use mathlib.Core.Path.{◌≡◌, refl}
use Prim.Native.Nat.{◌*◌, ◌-◌, ◌≤◌}
use native.Mathlib.Omega.{arith}
use borrow.Author.Rules.{part_to_end}
use borrow.Rule.Slice.PartMut.{mid_of}
use lib.ListN.{length, take, drop, get_or, length-drop}
use lib.Seq.{take-length}
use Rattle.model.specs.Book.{characters, pieces}
use Rattle.calls.specs.Desk.{line, mark_word, option_lines}
use Rattle.model.specs.Base.{placed}
use Rattle.common_decimal.specs.Placed.{filled}
use Rattle.common_decimal.proofs.PlacedBytes.{placed_count}
use Rattle.desk_printing.proofs.Options.{options_more, option_short}
use Rattle.desk_printing.proofs.put_options.Goals as goal
use Rattle.desk_printing.proofs.put_options.Goals.{After-put_option-at}

-- The next line is short.
line_here : (c : goal.After-put_option-at) → c.put_option-at.result ≤ 19
line_here c =
    let codes = c.args.codes.now in
    let rest = take (length codes - 13 * c.loop-i.i) (drop (13 * c.loop-i.i) codes) in
    let mark = get_or c.args.marks.now c.loop-i.i 0 in
    let out = mid_of c.loop-i.at (length c.loop-i.out - c.loop-i.at) c.loop-i.out in
    omega (
      arith,
      option_short rest mark,
      placed_count (line (characters (take 13 rest)) (mark_word mark)) out c.put_option-at.ensures,
    )

pub loop-i-init : goal.loop-i-init
unfolding pieces option_lines filled placed
loop-i-init c = (omega arith, refl, refl)

pub put_option-at-requires : goal.put_option-at-requires
put_option-at-requires c =
    let codes = c.args.codes.now in
    let first = 13 * c.loop-i.i in (
      rw (part_to_end codes first) (omega (arith, length-drop first codes, c.requires)),
      rw (part_to_end c.loop-i.out c.loop-i.at) (omega (arith, length-drop c.loop-i.at c.loop-i.out, c.requires, c.loop-i.invariant)),
    )

pub overflow_add-at : goal.overflow_add-at
overflow_add-at c = omega (arith, line_here (goal.at.overflow_add-at c).After-put_option-at)

pub loop-i-preserved : goal.loop-i-preserved
loop-i-preserved c =
    let call = c.put_option-at in (
      omega (arith, line_here (goal.at.loop-i-preserved c).After-put_option-at),
      omega arith,
      options_more c.args.codes.now c.args.marks.now c.args.out.now c.loop-i.i (omega arith)
          c.loop-i.invariant.2 (omega arith) call.ensures,
    )

pub returns : goal.returns
returns c =
    let marks = c.args.marks.now in
    let e : c.loop-i.i ≡ length marks = omega arith in
    rw (e, take-length marks) at c.loop-i.invariant.2
