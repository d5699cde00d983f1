-- `call_import::is_too_large` meets its contract: each limit in turn; a decimal of more than three digits is over 512.
use Prim.Native.Nat.{◌≤◌}
use native.Mathlib.Omega.{arith}
use Rattle.model.specs.Limits.{most_options}
use Rattle.texts.specs.Decimals.{number_in}
use Rattle.theory_texts.specs.Numbers.{decimal_digits, three_digits, four_digits}
use Rattle.call_import.proofs.LimitTests.{over_options, over_rules, over_nodes, by_weight}
use Rattle.call_import.proofs.is_too_large.Goals as goal
use Rattle.call_import.proofs.is_too_large.Goals.{Else-small_number-gt-MOST_OPTIONS}

-- Past the second test there are few options.
few : (c : goal.Else-small_number-gt-MOST_OPTIONS) → number_in c.args.options.now ≤ most_options
few c = omega (arith, c.small_number.ensures, c.if-small_number-gt-MOST_OPTIONS.false)

pub returns-then-options-gt3 : goal.returns-then-options-gt3
returns-then-options-gt3 c = let s = c in over_options _ _ _ (four_digits s.args.options.now s.requires.0 c.if-options-gt3.true)

pub small_number-requires : goal.small_number-requires
small_number-requires c =
    let s = c in
    let ds = decimal_digits s.args.options.now s.requires.0 in
    (ds, three_digits s.args.options.now ds c.if-options-gt3.false)

pub returns-then-small_number-gt-MOST_OPTIONS : goal.returns-then-small_number-gt-MOST_OPTIONS
returns-then-small_number-gt-MOST_OPTIONS c = over_options _ _ _ (omega (arith, c.small_number.ensures, c.if-small_number-gt-MOST_OPTIONS.true))

pub returns-then-clauses-gt-MOST_RULES : goal.returns-then-clauses-gt-MOST_RULES
returns-then-clauses-gt-MOST_RULES c =
    over_rules _ _ _ (few (goal.at.returns-then-clauses-gt-MOST_RULES c).Else-small_number-gt-MOST_OPTIONS) c.if-clauses-gt-MOST_RULES.true

pub returns-then-nodes-gt-MOST_NODES : goal.returns-then-nodes-gt-MOST_NODES
returns-then-nodes-gt-MOST_NODES c = over_nodes _ _ _ (few (goal.at.returns-then-nodes-gt-MOST_NODES c).Else-small_number-gt-MOST_OPTIONS)
    c.if-clauses-gt-MOST_RULES.false c.if-nodes-gt-MOST_NODES.true

pub returns : goal.returns
returns c =
    let sum = c in
    by_weight _ _ _ (few (goal.at.returns c).Else-small_number-gt-MOST_OPTIONS) sum.if-clauses-gt-MOST_RULES.false
    sum.if-nodes-gt-MOST_NODES.false {w = c.add_weights.result}
    (omega (arith, sum.add_weights-weight.ensures.0, c.add_weights.ensures.0))
