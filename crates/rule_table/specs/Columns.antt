-- The two columns of the table that the code reads. A number that has no row asks for more children than any node has, so that no
-- node is right for it.
use Rattle.std.specs.Prelude.{ℕ}
use Rattle.model.specs.Base.{maybe}
use Rattle.model.specs.Limits.{kind_factor}
use Rattle.model.specs.Rules.{row_of}

unfoldable pub kind_for : ℕ → ℕ
kind_for rule = maybe 0 (λ w. w.kind) (row_of rule)

unfoldable pub fewest_for : ℕ → ℕ
fewest_for rule = maybe kind_factor (λ w. w.fewest) (row_of rule)
