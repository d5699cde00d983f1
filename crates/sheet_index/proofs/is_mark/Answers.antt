-- `sheet_index::is_mark` meets its contract: the kind of a number is 1 or 2 exactly from 4,096 to 12,287.
use Rattle.std.proofs.Common.{arith}
use Rattle.std.proofs.lemmas.Bool.Decides.{nat_tests}
use Rattle.model.specs.Code.{kind}
use Rattle.theory_forms.specs.Scan.{is_literal}
use Rattle.sheet_index.proofs.is_mark.Goals as goal

pub returns : goal.returns
unfolding is_literal kind
returns c = grind (arith, nat_tests)
