-- The number of a node of kind 6 that stands at the head of a stretch.
use mathlib.Core.List.{List}
use mathlib.Core.Path.{◌≡◌, ◌∙◌}
use Prim.Native.Nat.{ℕ, ◌+◌, ◌*◌, ◌%◌, ◌<◌}
use native.Mathlib.Omega.{arith}
use borrow.Author.Tests.{ltb-true}
use lib.Dec.{ltb}
use lib.ListN.{get_or}
use Rattle.model.specs.Forest.{at_least, Forest, size}
use Rattle.model.specs.Code.{head, number, conn_kind, conn_value, number_of}
use Rattle.model.specs.Limits.{least_factor}
use Rattle.theory_forms.specs.Logic.{and_split}
use Rattle.theory_forms.specs.Numbers.{fits, fits_under}
use Rattle.theory_reading.specs.Flat.{fits_tree}
use Rattle.theory_rewriting.specs.Children.{Group, group_first}

-- Its number by its members and how many of them it asks for; each is below 64.
pub least_number : (a m : ℕ) → number_of (head (at_least a) m) ≡ 24576 + m * least_factor + a
unfolding number_of number conn_kind conn_value
least_number a m = omega arith

pub record Least (l : List ℕ) (k : Forest) (a : ℕ) : Type 0 where
  pub number : get_or l 0 0 ≡ 24576 + size k * least_factor + a
  pub asked : a < least_factor
  pub members : size k < least_factor
  pub rest : get_or l 0 0 % least_factor ≡ a

pub least_known : {l : List ℕ} {k f : Forest} {a z : ℕ} → Group l (at_least a) k f z → Least l k a
unfolding fits fits_under
least_known {l} {k} {f} {a} g =
    let s = and_split (ltb a least_factor) _ (fits_tree (at_least a) k f g.fitting).0 in
    let few = ltb-true a least_factor s.0 in
    let first = group_first g ∙ least_number a (size k) in
    record {
      number = first;
      asked = few;
      members = ltb-true (size k) least_factor s.1;
      rest = omega (arith, first);
    }
