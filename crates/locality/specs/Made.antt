-- What some families make of a node, said in one way: one that lost the head of a child, one that lost all, one of another name.
use Rattle.std.specs.Prelude.{◌&&◌, ◌≡◌, ℕ, suc, eqb, ltb}
use Rattle.std.proofs.Math.Logic.{⊎_elim}
use Rattle.std.proofs.Math.Option.{some}
use Rattle.std.proofs.Math.Path.{sym}
use Rattle.model.specs.Base.{only_if}
use Rattle.model.specs.Forest.{Conn, and, or, root, at_least, Forest, nil, node, constant, ◌⊕◌, size, first, after, conjunction_at, constant_at}
use Rattle.model.specs.Rules.{neutral, deciding, omit, merge, one_less, lower, drop_member, decided, decide, renamed, rename}
use Rattle.theory_forms.specs.Logic.{none_some, and_split, only_some, pick_some, then_some, only_then, first_some}
use Rattle.theory_forms.specs.Forests.{conjunction_here, constant_here}

-- The head of child i is gone, and that child's own children stand in its place. The node may have another connective.
pub record Unheaded (i : ℕ) (k g : Forest) : Type 0 where
  pub conn : Conn
  pub child : Conn
  pub inner : Forest
  pub was : after i k ≡ node child inner (after (suc i) k)
  pub became : g ≡ node conn (first i k ⊕ inner ⊕ after (suc i) k) nil

module _ (c : Conn) (i j : ℕ) (k : Forest) {g : Forest} where
  constant_goes :
      (b d : Conn) →
      only_if (eqb j 0 && constant_at d (after i k)) (node b (first i k ⊕ after (suc i) k) nil) ≡ some g →
      Unheaded i k g
  unfolding ◌⊕◌
  constant_goes b d e =
      let o = only_some _ _ e in
      record {
        conn = b;
        child = d;
        inner = nil;
        was = constant_here d i k (and_split (eqb j 0) _ o.0).1;
        became = sym o.1;
      }

  -- Rules 4, 5 and 6; 15; 13.
  pub omitted_head : omit c i j k ≡ some g → Unheaded i k g
  unfolding omit
  omitted_head e = constant_goes c (neutral c) e

  pub dropped_head : drop_member c i j k ≡ some g → Unheaded i k g
  unfolding drop_member lower
  dropped_head e = ⊎_elim omitted_head (constant_goes (one_less c) (deciding c)) (first_some (omit c i j k) (lower c i j k) e)

  pub merged_head : merge c i j k ≡ some g → Unheaded i k g
  unfolding merge
  merged_head e =
      let m = then_some (conjunction_at (after i k)) _ e in
      record {
        conn = c;
        child = and;
        inner = m.0;
        was = conjunction_here i k m.1;
        became = sym (only_some _ _ m.2).1;
      }

-- Rule 16 leaves a constant.
decided_constant : (c : Conn) (k : Forest) {g : Forest} → decided c k ≡ some g → (d : Conn) × (g ≡ constant d)
unfolding decided
decided_constant and k e = none_some e
decided_constant or k e = none_some e
decided_constant root k e = none_some e
decided_constant (at_least a) k e =
    ⊎_elim
    (λ w. (and, sym w.1))
    (λ w. (or, sym (only_some (ltb (size k) a) _ w.1).1))
    (pick_some (eqb a 0) _ _ e)

pub decides_constant : (c : Conn) (i j : ℕ) (k : Forest) {g : Forest} → decide c i j k ≡ some g → (d : Conn) × (g ≡ constant d)
unfolding decide
decides_constant c i j k e = decided_constant c k (only_then (eqb i 0 && eqb j 0) k (decided c) e).1

-- Rule 17 keeps the children.
renamed_node : (c : Conn) (k : Forest) {g : Forest} → renamed c k ≡ some g → (d : Conn) × (g ≡ node d k nil)
unfolding renamed
renamed_node and k e = none_some e
renamed_node or k e = none_some e
renamed_node root k e = none_some e
renamed_node (at_least a) k e =
    ⊎_elim
    (λ w. (or, sym w.1))
    (λ w. (and, sym (only_some (eqb a (size k)) _ w.1).1))
    (pick_some (eqb a 1) _ _ e)

pub renames_node : (c : Conn) (i j : ℕ) (k : Forest) {g : Forest} → rename c i j k ≡ some g → (d : Conn) × (g ≡ node d k nil)
unfolding rename
renames_node c i j k e = renamed_node c k (only_then (eqb i 0 && eqb j 0) k (renamed c) e).1
