-- `report_breaking::need_of` meets its contract, by the kind.
use mathlib.Core.Path.{sym, ◌∙◌}
use native.Mathlib.Omega.{arith}
use Rattle.model.specs.Clauses.{need}
use Rattle.theory_meaning.specs.TreeValues.{conn_any, conn_least, conn_all}
use Rattle.report_breaking.proofs.need_of.Goals as goal

pub returns-in-4 : goal.returns-in-4
unfolding need
returns-in-4 c = rw (conn_any c.args.x (sym c.kind_of.ensures ∙ c.in-4.is))

pub returns-in-6 : goal.returns-in-6
unfolding need
returns-in-6 c = rw (conn_least c.args.x (sym c.kind_of.ensures ∙ c.in-6.is), ← c.value_of.ensures) (omega arith)

pub returns-in_default : goal.returns-in_default
unfolding need
returns-in_default c =
    rw (conn_all c.args.x (λ e. omega (arith, c.kind_of.ensures, e)) (λ e. omega (arith, c.kind_of.ensures, e)))
