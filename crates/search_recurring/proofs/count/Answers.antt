use mathlib.Core.Path.{sym, ◌∙◌}
use Prim.Native.Nat.{◌<◌}
use native.Mathlib.Omega.{arith}
use lib.ListN.{length}
use Rattle.search_recurring.proofs.Tallies.{option_small, tallied_none, tallied_other, tallied_full, tallied_up}
use Rattle.search_recurring.proofs.count.Goals as goal
use Rattle.search_recurring.proofs.count.Goals.{After-value_of-option}

-- The option of a literal that is read has an entry in the tally.
option_within :
    (c : goal.After-value_of-option) →
    c.value_of-option.result < length c.loop-q.tally
option_within c =
    option_small (omega arith) (omega arith) c.requires.1 c.loop-q.invariant.1 c.from-x.ensures c.value_of-option.ensures

pub loop-q-init : goal.loop-q-init
loop-q-init c =
    (c.requires.0, tallied_none c.args.end c.args.part.now c.requires.3)

pub bounds-tally-option : goal.bounds-tally-option
bounds-tally-option c = option_within (goal.at.bounds-tally-option c).After-value_of-option

pub bounds-tally-option-then-tally-option-lt2 : goal.bounds-tally-option-then-tally-option-lt2
bounds-tally-option-then-tally-option-lt2 c = option_within (goal.at.bounds-tally-option-then-tally-option-lt2 c).After-value_of-option

pub bounds-tally-option-then-tally-option-lt2-2 : goal.bounds-tally-option-then-tally-option-lt2-2
bounds-tally-option-then-tally-option-lt2-2 c = option_within (goal.at.bounds-tally-option-then-tally-option-lt2-2 c).After-value_of-option

pub loop-q-preserved-then-tally-option-lt2 : goal.loop-q-preserved-then-tally-option-lt2
loop-q-preserved-then-tally-option-lt2 c = (
  omega arith,
  tallied_up (omega arith) (omega arith) c.requires.1 c.loop-q.invariant.1 c.from-x.ensures c.value_of-option.ensures
      (sym c.is_literal.ensures ∙ c.if-is_literal.true) c.if-tally-option-lt2.true,
)

pub loop-q-preserved-else-tally-option-lt2 : goal.loop-q-preserved-else-tally-option-lt2
loop-q-preserved-else-tally-option-lt2 c = (
  omega arith,
  tallied_full
      (omega arith) (omega arith) c.requires.1 c.loop-q.invariant.1 c.from-x.ensures c.value_of-option.ensures c.if-tally-option-lt2.false,
)

pub loop-q-preserved : goal.loop-q-preserved
loop-q-preserved c = (
  omega arith,
  tallied_other (omega arith) (omega arith) c.requires.1 c.loop-q.invariant.1 c.from-x.ensures
      (sym c.is_literal.ensures ∙ c.if-is_literal.false),
)
