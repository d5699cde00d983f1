-- The constant that a rule looks for among a node's children.
use Rattle.std.specs.Prelude.{ℕ, eqb}
use Rattle.model.specs.Base.{pick, maybe}
use Rattle.model.specs.Forest.{Conn, and, or, root}
use Rattle.model.specs.Code.{number, conn_kind}
use Rattle.model.specs.Rules.{neutral, deciding, Family, absorbs, omits, unwraps, spreads, lifts, merges, factors, drops, decides, renames}
use Rattle.model.specs.Rules.{row_of}

-- The deciding one for the rules that absorb, and the neutral one for those that omit. (No other rule is asked.)
unfoldable pub wanted : Family → Conn → Conn
wanted absorbs c = deciding c
wanted omits c = neutral c
wanted unwraps c = c
wanted spreads c = c
wanted lifts c = c
wanted merges c = c
wanted factors c = c
wanted drops c = c
wanted decides c = c
wanted renames c = c

-- The connective of a kind of the rules that look for constants.
unfoldable pub group_of : ℕ → Conn
group_of k = pick (eqb k 3) and (pick (eqb k 4) or root)

-- Its number.
unfoldable pub constant_for : ℕ → ℕ
constant_for rule = maybe 0 (λ w. number (conn_kind (wanted w.family (group_of w.kind))) 0) (row_of rule)
