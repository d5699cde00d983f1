-- `rule_simplify::constant_for` meets its contract: the number is that of the constant in the rule's row.
use mathlib.Core.Logic.{⊎_elim}
use borrow.Author.Rules.{rules}
use Rattle.model.specs.Base.{pick, maybe}
use Rattle.model.specs.Code.{number, conn_kind}
use Rattle.model.specs.Rules.{neutral, deciding, table, row_of}
use Rattle.rule_simplify.specs.Constants.{wanted, group_of, constant_for}
use Rattle.rule_simplify.proofs.Simplifying.{constant_true}
use Rattle.rule_simplify.proofs.constant_for.Goals as goal

pub returns-in-1 : goal.returns-in-1
unfolding constant_for row_of table maybe group_of pick wanted neutral deciding conn_kind number
returns-in-1 c = ⊎_elim (λ e. rw e) (⊎_elim (λ e. rw e) (λ e. rw e)) c.in-1.is

pub returns-in_default : goal.returns-in_default
returns-in_default c = constant_true c.args.rule c.requires.0 c.requires.1 (λ e. search rules) (λ e. search rules) (λ e. search rules)
