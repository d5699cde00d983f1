-- What the evaluation of a sheet reads: numbers as nodes.
use Rattle.std.specs.Prelude.{Bool, true, List, ◌∷◌, map, ◌≡◌, ℕ, ◌%◌, ◌<◌, eqb, length, get_or, take, drop}
use Rattle.std.proofs.Math.Option.{some}
use Rattle.model.specs.Base.{pick}
use Rattle.model.specs.Limits.{most_literals, least_factor}
use Rattle.model.specs.Forest.{Conn, or, root, at_least, all_seated}
use Rattle.model.specs.Code.{kind, value, children, node_of, decode, trees}
use Rattle.theory_forms.specs.Scan.{is_literal}
use Rattle.theory_reading.specs.Leaves.{place_at}
use Rattle.theory_meaning.specs.Evaluation.{fails_all, fails}
use Rattle.theory_meaning.specs.FailedLiterals.{set_of}

-- The connective of a number that is no literal's. An all-of is told as the root, which fails as it does.
unfoldable pub conn_at : ℕ → Conn
conn_at x = pick (eqb (kind x) 4) or (pick (eqb (kind x) 6) (at_least (value x % least_factor)) root)

-- The values of trees under a table of failed literals, after one node more before them, by its number.
unfoldable pub with_node : List ℕ → ℕ → List Bool → List Bool
with_node t x bs =
    pick (is_literal x)
    (eqb (get_or t (place_at x) 0) 1 ∷ bs)
    (fails_all (conn_at x) (take (children x) bs) ∷ drop (children x) bs)

-- Whether one of the trees that numbers spell fails under a table of failed literals.
unfoldable pub tree_fails : List ℕ → List ℕ → Bool
tree_fails t xs = fails (set_of t) root (decode (map node_of xs))

-- Numbers that spell one tree, whose literals have places in a table of 1,024 and whose members are in their seats.
pub record SpellsTree (xs : List ℕ) : Type 0 where
  pub one : trees (map node_of xs) ≡ some 1
  pub inside : (i : ℕ) → i < length xs → is_literal (get_or xs i 0) ≡ true → place_at (get_or xs i 0) < most_literals
  pub seated : all_seated (decode (map node_of xs)) ≡ true
