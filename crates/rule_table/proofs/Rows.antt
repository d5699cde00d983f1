-- A column of the table, read by the rule's number, and which numbers have a row.
use mathlib.Core.Bool.{true, false}
use mathlib.Core.List.{List, [], ◌∷◌, map}
use mathlib.Core.Option.{Option, none, some}
use mathlib.Core.Path.{◌≡◌, refl, sym}
use Prim.Native.Nat.{ℕ, zero, suc, ◌-◌, ◌≤◌, ◌<◌}
use native.Mathlib.Omega.{arith}
use lib.Dec.{ltb}
use lib.ListN.{length, get_or, get_elem?}
use Rattle.model.specs.Base.{is_some, maybe, all}
use Rattle.model.specs.Limits.{last_rule, kind_factor}
use Rattle.model.specs.Rules.{Row, table, row_of, is_rule}
use Rattle.theory_forms.specs.Logic.{fails_if}
use Rattle.theory_forms.specs.Lists.{all_at}
use Rattle.theory_rewriting.specs.Inversion.{of_table}
use Rattle.theory_rewriting.specs.Bounds.{rule_within}
use Rattle.rule_table.specs.Columns.{fewest_for}

entry : (f : Row → ℕ) (d : ℕ) (ws : List Row) (k : ℕ) → k < length ws → get_or (map f ws) k 0 ≡ maybe d f (get_elem? ws k)
unfolding maybe
entry f d [] k h = absurd (omega arith)
entry f d (w ∷ ws) zero h = refl
entry f d (w ∷ ws) (suc k) h = entry f d ws k (omega arith)

-- What stands at a rule's place of the column is what its row says.
pub column :
    (f : Row → ℕ) (d : ℕ) (xs : List ℕ) →
    xs ≡ map f table →
    (rule : ℕ) →
    1 ≤ rule →
    rule ≤ last_rule →
    get_or xs (rule - 1) 0 ≡ maybe d f (row_of rule)
unfolding row_of table
column f d xs e zero h l = absurd (omega arith)
column f d xs e (suc r) h l =
    let before : suc r - 1 ≡ r = omega arith in
    rw (before, e) (entry f d table r (omega arith))

-- A number outside the table has no row.
pub outside_rules : (r : ℕ) → ((1 ≤ r) × (r ≤ last_rule) → ⊥) → false ≡ is_rule r
outside_rules r h = sym (fails_if (is_rule r) (λ t. h (rule_within r t)))

-- A row asks for fewer children than some node has, so the column tells whether there is a row.
few_asked : all (λ w. ltb w.fewest kind_factor) table ≡ true
unfolding all table
few_asked = refl

pub by_fewest : (r : ℕ) → ltb (fewest_for r) kind_factor ≡ is_rule r
unfolding fewest_for is_rule maybe is_some
by_fewest r = go (row_of r) refl
  where
    go : (o : Option Row) → row_of r ≡ o → ltb (maybe kind_factor (λ w. w.fewest) o) kind_factor ≡ is_some o
    go none e = refl
    go (some w) e = all_at (λ v. ltb v.fewest kind_factor) table few_asked (of_table r e)
