-- `rule_lift::is_literal_child` meets its contract: the head says whether there is such a child, and its number whether it is a literal.
use mathlib.Core.Path.{◌≡◌, ap, ◌∙◌}
use native.Mathlib.Omega.{arith}
use borrow.Author.Tests.{lt-ltb, le-ltb}
use lib.ListN.{get_or}
use Rattle.model.specs.Code.{children}
use Rattle.theory_forms.specs.Numbers.{children_small}
use Rattle.theory_forms.specs.Scan.{is_literal}
use Rattle.rule_lift.specs.Asked.{literal_child}
use Rattle.rule_lift.proofs.is_literal_child.Goals as goal
use Rattle.rule_lift.proofs.is_literal_child.Goals.{After-children_of}

-- The number of children.
counted : (c : goal.After-children_of) → c.children_of.result ≡ children (get_or c.args.part.now 0 0)
counted c = c.children_of.ensures ∙ ap children c.from.ensures

pub returns-else-j-children_of : goal.returns-else-j-children_of
unfolding literal_child
returns-else-j-children_of c =
    rw (le-ltb c.args.j (children (get_or c.args.part.now 0 0)) (omega (arith, counted (goal.at.returns-else-j-children_of c).After-children_of)))
    (le-ltb c.args.j c.children_of.result (omega arith))

pub child_at-requires : goal.child_at-requires
child_at-requires c =
    let l = c.args.part.now in
    omega (arith, counted (goal.at.child_at-requires c).After-children_of, children_small (get_or l 0 0))

pub bounds-part-child_at : goal.bounds-part-child_at
bounds-part-child_at c =
    let inside = c.requires.part_in_bounds (omega (arith, counted (goal.at.bounds-part-child_at c).After-children_of)) in
    omega arith

pub returns-then-j-children_of : goal.returns-then-j-children_of
unfolding literal_child
returns-then-j-children_of c =
    rw (
      lt-ltb c.args.j (children (get_or c.args.part.now 0 0)) (omega (arith, counted (goal.at.returns-then-j-children_of c).After-children_of)),
      ← c.child_at.ensures.0,
    )
    (c.is_literal.ensures ∙ ap is_literal c.from-then-j-children_of.ensures)
