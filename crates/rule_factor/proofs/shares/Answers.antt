-- `rule_factor::shares` meets its contract, by the tests on the first number and the place of the literal among the children.
use mathlib.Core.Path.{◌≡◌, sym, ap, ◌∙◌}
use borrow.Author.Tests.{ne_eqb}
use lib.ListN.{get_or}
use Rattle.common_lists.proofs.Lent.{lent_part}
use Rattle.model.specs.Code.{kind, children}
use Rattle.theory_forms.specs.Scan.{is_literal}
use Rattle.rule_factor.proofs.Here.{shares_literal, shares_not, shares_among}
use Rattle.rule_factor.proofs.shares.Goals as goal
use Rattle.rule_factor.proofs.shares.Goals.{After-children_of, After-is_literal, After-kind_of, Start}

-- What is read of the first number.
literal : (c : goal.After-is_literal) → c.is_literal.result ≡ is_literal (get_or c.args.part.now 0 0)
literal c = c.is_literal.ensures ∙ ap is_literal c.from-x.ensures

kinded : (c : goal.After-kind_of) → c.kind_of.result ≡ kind (get_or c.args.part.now 0 0)
kinded c = c.kind_of.ensures ∙ ap kind c.from-x.ensures

counted : (c : goal.After-children_of) → c.children_of.result ≡ children (get_or c.args.part.now 0 0)
counted c = c.children_of.ensures ∙ ap children c.from-x.ensures

pub returns-then-is_literal : goal.returns-then-is_literal
returns-then-is_literal c =
    c.if-is_literal.true
    ∙ sym (shares_literal _ _ (sym (literal (goal.at.returns-then-is_literal c).After-is_literal) ∙ c.if-is_literal.true))

pub returns-else-kind_of-eq3 : goal.returns-else-kind_of-eq3
returns-else-kind_of-eq3 c =
    ne_eqb c.kind_of.result 3 c.if-kind_of-eq3.false
    ∙ sym (shares_not _ _ (sym (literal (goal.at.returns-else-kind_of-eq3 c).After-is_literal) ∙ c.if-is_literal.false)
    (λ e. c.if-kind_of-eq3.false (kinded (goal.at.returns-else-kind_of-eq3 c).After-kind_of ∙ e)))

pub returns-then-kind_of-eq3 : goal.returns-then-kind_of-eq3
returns-then-kind_of-eq3 c =
    let l = c.args.part.now in
    let kids = counted (goal.at.returns-then-kind_of-eq3 c).After-children_of in
    c.is_ok.ensures.value ∙ (rw (kids, lent_part 1 l) at c.unit_place.ensures.found)
    ∙ sym (shares_among _ l (sym (literal (goal.at.returns-then-kind_of-eq3 c).After-is_literal) ∙ c.if-is_literal.false)
    (sym (kinded (goal.at.returns-then-kind_of-eq3 c).After-kind_of) ∙ c.if-kind_of-eq3.true))
