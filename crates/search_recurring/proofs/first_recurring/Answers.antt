-- `search_recurring::first_recurring` meets its contract.
use mathlib.Core.Option.{none}
use mathlib.Core.Path.{◌≡◌, refl, ◌∙◌}
use native.Mathlib.Omega.{arith}
use lib.ListN.{drop}
use Rattle.theory_reading.specs.Spans.{span}
use Rattle.search_recurring.specs.Recurring.{EndsAt}
use Rattle.search_recurring.proofs.SpreadTree.{first_number, tree_ends, again_applies}
use Rattle.search_recurring.proofs.first_recurring.Goals as goal
use Rattle.search_recurring.proofs.first_recurring.Goals.{After-from-end}

-- The first entry of the table is the size of the whole tree, so the tree ends there.
whole : (c : goal.After-from-end) → let a = c.args in c.from-end.result ≡ span 1 (drop 0 a.part.now)
whole c =
    let p = c.requires in
    c.from-end.ensures ∙ p.sizes_of.each 0 (omega arith) (first_number p.stretch p.headed)

ended : (c : goal.After-from-end) → let a = c.args in EndsAt c.from-end.result a.part.now
ended c = let p = c.requires in tree_ends p.stretch p.headed (whole c)

pub bounds-sizes-0 : goal.bounds-sizes-0
bounds-sizes-0 c =
    let p = c.requires in
    omega (arith, p.sizes_of.long, first_number p.stretch p.headed)

pub first_among-requires : goal.first_among-requires
first_among-requires c =
    record {
      ends_at = ended (goal.at.first_among-requires c).After-from-end;
      sizes_of = c.requires.sizes_of;
      tallied_if_any = λ some-entry. absurd (omega arith);
    }

pub returns-then-end-lt24 : goal.returns-then-end-lt24
returns-then-end-lt24 c =
    let p = c.requires in
    again_applies p.stretch p.headed (whole (goal.at.returns-then-end-lt24 c).After-from-end) p.le_rule.0 p.le_rule.1 _ c.first_among.ensures

pub has_literal-requires : goal.has_literal-requires
has_literal-requires c = record { ends_at = ended (goal.at.has_literal-requires c).After-from-end; sizes_of = c.requires.sizes_of }

-- Where no child is a literal, none applies.
pub returns-then-not-has_literal : goal.returns-then-not-has_literal
returns-then-not-has_literal c =
    let p = c.requires in
    again_applies p.stretch p.headed (whole (goal.at.returns-then-not-has_literal c).After-from-end) p.le_rule.0 p.le_rule.1 none
    (c.has_literal.ensures c.if-not-has_literal.true)

pub count-requires : goal.count-requires
count-requires c =
    let e = ended (goal.at.count-requires c).After-from-end in
    (e.some_head, e.within, e.short, refl)

pub first_among-requires-2 : goal.first_among-requires-2
first_among-requires-2 c =
    record {
      ends_at = ended (goal.at.first_among-requires-2 c).After-from-end;
      sizes_of = c.requires.sizes_of;
      tallied_if_any = λ some-entry. c.count.ensures;
    }

pub returns : goal.returns
returns c =
    let p = c.requires in
    again_applies p.stretch p.headed (whole (goal.at.returns c).After-from-end) p.le_rule.0 p.le_rule.1 _ c.first_among-2.ensures
