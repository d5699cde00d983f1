-- `search_place::only_child` meets its contract: the rule applies to a single child.
use mathlib.Core.Bool.{Bool, true, false}
use mathlib.Core.List.{List}
use mathlib.Core.Path.{◌≡◌, refl, sym, ap, ◌∙◌}
use Prim.Native.Nat.{ℕ, ◌≤◌}
use borrow.Author.Tests.{eqb-true, eqb-false}
use lib.Dec.{eqb}
use lib.ListN.{get_or}
use Rattle.std.specs.Bool.{then_some}
use Rattle.common_lists.specs.Given.{given}
use Rattle.model.specs.Code.{children}
use Rattle.theory_reading.specs.Stretches.{Stretch}
use Rattle.theory_rewriting.specs.Heads.{Headed}
use Rattle.theory_rewriting.specs.Children.{headed_group, group_long}
use Rattle.search_sizes.specs.FirstApplying.{FirstChild}
use Rattle.search_place.proofs.FirstChildren.{single_first, single_none}
use Rattle.search_place.proofs.only_child.Goals as goal

told :
    (r : ℕ) (l : List ℕ) →
    Stretch l →
    Headed r l →
    7 ≤ r →
    r ≤ 8 →
    (b : Bool) →
    b ≡ eqb (children (get_or l 0 0)) 1 →
    FirstChild r (given (then_some b 0)) l
told r l s h low high true e = single_first s h low high (eqb-true (children (get_or l 0 0)) 1 (sym e))
told r l s h low high false e = single_none s h low high (eqb-false (children (get_or l 0 0)) 1 (sym e))

pub bounds-part-0 : goal.bounds-part-0
bounds-part-0 c = group_long (headed_group c.requires.stretch c.requires.headed)

pub returns : goal.returns
returns c =
    let p = c.requires in
    let counted : c.children_of.result ≡ children (get_or c.args.part.now 0 0) = c.children_of.ensures ∙ ap children c.from.ensures in
    rw (c.then_some.ensures, counted)
    (told c.args.rule c.args.part.now p.stretch p.headed p.le_rule.0 p.le_rule.1 (eqb (children (get_or c.args.part.now 0 0)) 1) refl)
