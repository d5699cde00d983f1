-- What a rule asks of the head of a stretch.
use Rattle.std.specs.Prelude.{Bool, ◌&&◌, List, ℕ, eqb, leb, get_or}
use Rattle.model.specs.Code.{kind, children}
use Rattle.rule_table.specs.Columns.{kind_for, fewest_for}

-- The first number is of the rule's kind and has enough children.
unfoldable pub headed : ℕ → List ℕ → Bool
headed r l = eqb (kind (get_or l 0 0)) (kind_for r) && leb (fewest_for r) (children (get_or l 0 0))
