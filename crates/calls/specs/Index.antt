-- Document 02, U5: the index of mentions. "Before an option is withdrawn from sale, the desk wants to know how often the sheet names it."
use Rattle.std.specs.Prelude.{Bool, false, List, [], ◌∷◌, ℕ, zero, suc, ◌+◌, eqb}
use Rattle.model.specs.Base.{pick}
use Rattle.model.specs.Literal.{option}
use Rattle.model.specs.Code.{Node, leaf, head}
use Rattle.model.specs.Sheet.{options_in, nodes_in}

-- The node is a mark of the option, plain or barred.
unfoldable pub names : ℕ → Node → Bool
names v (leaf l) = eqb v (option l)
names v (head c k) = false

-- "The count of its marks."
unfoldable pub mark_count : ℕ → List Node → ℕ
mark_count v [] = zero
mark_count v (x ∷ ns) = pick (names v x) 1 0 + mark_count v ns

-- "And the place of the first (65,535 if none)", among nodes that stand from a place on.
abbrev pub no_place : ℕ
no_place = 65535

unfoldable pub first_mark : ℕ → ℕ → List Node → ℕ
first_mark v place [] = no_place
first_mark v place (x ∷ ns) = pick (names v x) place (first_mark v (suc place) ns)

-- "Option after option, two 16-bit numbers each": so many options, from v on.
unfoldable pub entries : ℕ → ℕ → List Node → List ℕ
entries v zero ns = []
entries v (suc many) ns = mark_count v ns ∷ first_mark v 0 ns ∷ entries (suc v) many ns

-- "A fresh count of the sheet." Places count from the root, 0.
unfoldable pub fresh_count : List ℕ → List ℕ
fresh_count s = entries 0 (options_in s) (nodes_in s)

-- "Keep beside the sheet": all that a call with an index may write, its own and the index.
pub record Indexed (L : Type 0) : Type 0 where
  pub own : L
  pub index : List ℕ
