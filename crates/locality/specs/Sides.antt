-- The two ways to stand before a zone: before the step's place, or among children that the step keeps.
use Rattle.std.specs.Prelude.{List, ◌≡◌, ℕ, suc, ◌+◌, ◌<◌, ltb, length, drop}
use Rattle.std.proofs.Common.{⊎_elim, sym, arith, ltb-true, ltb-false}
use Rattle.model.specs.Forest.{Conn, Forest, nil, node, ◌⊕◌, first, after, literal_at, conjunction_at}
use Rattle.model.specs.Code.{Node, encode, decode}
use Rattle.model.specs.Rules.{lift, Family, absorbs, omits, unwraps, spreads, lifts, merges, factors, drops, decides, renames, change}
use Rattle.theory_forms.specs.Logic.{either, some_inj, then_some}
use Rattle.theory_forms.specs.Forests.{first_after}
use Rattle.locality.specs.Zones.{Quiet, child_place, Holds, Twice, zone}
use Rattle.locality.specs.ChildPlaces.{child_offset}
use Rattle.locality.specs.Turned.{Turned, old_here}
use Rattle.locality.specs.Made.{Unheaded, omitted_head, dropped_head, merged_head}
use Rattle.locality.specs.Before.{before_place, beside_place}
use Rattle.locality.specs.Front.{front_quiet, front_tree}

data Side {x : Family} {p i j : ℕ} {ns ms : List Node} (w : Turned x p i j ns ms) (q : ℕ) : Type 0 where
  earlier : q < p → Side w q
  in_front :
      (b : Conn) (a d v : Forest) →
      w.children ≡ a ⊕ d →
      w.new ≡ node b (a ⊕ v) nil →
      p < q →
      q < p + suc (length (encode a)) →
      Side w q

-- A step that keeps the children before child i, at a place before that child.
before_child :
    {x : Family} {p i j : ℕ} {ns ms : List Node} (w : Turned x p i j ns ms) (b : Conn) (v : Forest) →
    w.new ≡ node b (first i w.children ⊕ v) nil →
    (q : ℕ) →
    q < child_place p i ns →
    (q ≡ p → ⊥) →
    Side w q
before_child {p = p} {i = i} {ns = ns} w b v e q lt other =
    ⊎_elim
    (λ t. earlier (ltb-true q p t))
    (λ t. in_front b (first i w.children) (after i w.children) v (sym (first_after i w.children)) e (let le = ltb-false q p t in omega arith) (omega (arith, child_offset p ns w.conn w.children w.rest (old_here w) i)))
    (either (ltb q p))

unheaded_side :
    {x : Family} {p i j : ℕ} {ns ms : List Node} (w : Turned x p i j ns ms) →
    Unheaded i w.children w.new →
    (q : ℕ) →
    q < child_place p i ns →
    (q ≡ p → ⊥) →
    Side w q
unheaded_side w u q lt other = before_child w u.conn _ u.became q lt other

side :
    (x : Family) {p i j : ℕ} {ns ms : List Node} (w : Turned x p i j ns ms) (q : ℕ) →
    q < (zone x p i j ns ms).from →
    (q ≡ p → ⊥) →
    Side w q
unfolding zone change lift
side absorbs w q lt other = earlier lt
side omits {i = i} {j = j} w q lt other = unheaded_side w (omitted_head w.conn i j w.children w.made) q lt other
side unwraps w q lt other = earlier lt
side spreads w q lt other = earlier lt
side lifts {i = i} {j = j} w q lt other =
    let m = then_some (conjunction_at (after i w.children)) _ w.made in
    let l = then_some (literal_at (after j m.0)) _ m.2 in
    before_child w w.conn _ (sym (some_inj l.2)) q lt other
side merges {i = i} {j = j} w q lt other = unheaded_side w (merged_head w.conn i j w.children w.made) q lt other
side factors w q lt other = earlier lt
side drops {i = i} {j = j} w q lt other = unheaded_side w (dropped_head w.conn i j w.children w.made) q lt other
side decides w q lt other = earlier lt
side renames w q lt other = earlier (omega arith)

-- Rules that do not apply, and trees, before the zone.
module _ {x : Family} {p i j : ℕ} {ns ms : List Node} (w : Turned x p i j ns ms) (q : ℕ) (lt : q < (zone x p i j ns ms).from) (other : q ≡ p → ⊥) where
  side_quiet : Side w q → (s : ℕ) → (Holds q p ns → Twice q p ns) → Quiet s q ns → Quiet s q ms
  side_quiet (earlier h) s deep = before_place w q s h deep
  side_quiet (in_front b a d v e t h n) s deep = front_quiet w b a d v e t q h n s

  side_tree : Side w q → (Holds q p ns → ⊥) → first 1 (decode (drop q ns)) ≡ first 1 (decode (drop q ms))
  side_tree (earlier h) out = beside_place w q h out
  side_tree (in_front b a d v e t h n) out = front_tree w b a d v e t q h n

  pub before_zone : (s : ℕ) → (Holds q p ns → Twice q p ns) → Quiet s q ns → Quiet s q ms
  before_zone s deep = side_quiet (side x w q lt other) s deep

  pub tree_before_zone : (Holds q p ns → ⊥) → first 1 (decode (drop q ns)) ≡ first 1 (decode (drop q ms))
  tree_before_zone out = side_tree (side x w q lt other) out
