-- The limits of 16 tested one after another; and that those tests are the file's.
use mathlib.Core.Bool.{true}
use mathlib.Core.List.{◌∷◌, flatten}
use mathlib.Core.Path.{◌≡◌}
use Prim.Native.Nat.{ℕ, ◌+◌, ◌≤◌, ◌<◌}
use native.Mathlib.Omega.{arith}
use borrow.Author.Tests.{lt-ltb, le-ltb}
use lib.Dec.{ltb}
use lib.ListN.{length}
use Rattle.model.specs.Limits.{most_options, most_rules, most_nodes, most_weight}
use Rattle.model.specs.Forest.{root}
use Rattle.model.specs.Code.{head, weight}
use Rattle.texts.specs.ClauseFile.{File}
use Rattle.texts.specs.ClauseBook.{nodes_of_file, is_too_large}
use Rattle.theory_imports.specs.Sizes.{length_nodes, weight_nodes}
use Rattle.call_import.specs.Sizes.{over_limits}

module _ (v c m : ℕ) where
  pub over_options : most_options < v → true ≡ over_limits v c m
  unfolding over_limits
  over_options h = rw (lt-ltb most_options v h)

  module _ (few : v ≤ most_options) where
    pub over_rules : most_rules < c → true ≡ over_limits v c m
    unfolding over_limits
    over_rules h = rw (le-ltb most_options v few, lt-ltb most_rules c h)

    module _ (short : c ≤ most_rules) where
      pub over_nodes : most_nodes < c + m → true ≡ over_limits v c m
      unfolding over_limits
      over_nodes h = rw (le-ltb most_options v few, le-ltb most_rules c short, lt-ltb most_nodes (c + m) h)

      pub by_weight : c + m ≤ most_nodes → {w : ℕ} → w ≡ 1 + (c + m) + m → ltb most_weight w ≡ over_limits v c m
      unfolding over_limits
      by_weight h e = rw (le-ltb most_options v few, le-ltb most_rules c short, le-ltb most_nodes (c + m) h, e)

-- They are those of the file.
pub file_limits : (f : File) → over_limits f.options (length f.clauses) (length (flatten f.clauses)) ≡ is_too_large f
unfolding over_limits is_too_large
file_limits f =
    let c = length f.clauses in
    let m = length (flatten f.clauses) in
    let w : weight (head root c ∷ nodes_of_file f) ≡ 1 + (c + m) + m = omega (arith, weight_nodes f) in
    rw (length_nodes f, w)
