-- From the zone on the nodes are the old ones, moved: a list equation a family.
use Rattle.std.specs.Prelude.{List, [], ◌∷◌, ◌++◌, ◌≡◌, ℕ, suc, ◌+◌, ◌-◌, ◌≤◌, length}
use Rattle.std.proofs.Math.Path.{refl}
use Rattle.std.proofs.Common.{sym, ap, ◌∙◌, arith, length-append}
use Rattle.model.specs.Forest.{Conn, and, Forest, nil, lit, node, ◌⊕◌, first, after, literal_at, conjunction_at}
use Rattle.model.specs.Code.{Node, leaf, encode}
use Rattle.model.specs.Rules.{assigned, absorb, unwrap, spread, lift, Family, absorbs, omits, unwraps, spreads, lifts, merges, factors, drops, decides, renames, change}
use Rattle.theory_forms.specs.Logic.{some_inj, only_some, then_some}
use Rattle.theory_forms.specs.Forests.{nil-⊕, ⊕-nil, ⊕-assoc, literal_here, conjunction_here, cut_at}
use Rattle.theory_forms.specs.Codes.{encode-⊕}
use Rattle.locality.specs.Zones.{tree_end, child_place, Zone, zone}
use Rattle.locality.specs.ChildPlaces.{Rest, rest_of, rest_one, rest_as, further, past_trees, past_children, child_offset, length_here, child_here, end_here}
use Rattle.locality.specs.Turned.{Turned, old_here, new_here}
use Rattle.locality.specs.Made.{Unheaded, omitted_head, dropped_head, merged_head, decides_constant, renames_node}
use Rattle.locality.specs.Assigned.{assigned_length}

-- The old nodes from one place on and the new ones from another are the same.
pub record Moved (old new : ℕ) (ns ms : List Node) : Type 0 where
  pub kept : List Node
  pub old_part : Rest old ns kept
  pub new_part : Rest new ms kept

module _ {x : Family} {p i j : ℕ} {ns ms : List Node} (w : Turned x p i j ns ms) where
  -- What stands at the place of child i, and after the tree.
  child_old : Rest (child_place p i ns) ns (encode (after i w.children ⊕ w.rest))
  child_old = child_here p ns w.conn w.children w.rest (old_here w) i

  child_at : child_place p i ns ≡ p + suc (length (encode (first i w.children)))
  child_at = child_offset p ns w.conn w.children w.rest (old_here w) i

  end_old : Rest (tree_end p ns) ns (encode w.rest)
  end_old = end_here p ns w.conn w.children w.rest (old_here w)

  end_at : tree_end p ns ≡ p + suc (length (encode w.children))
  end_at = ap (λ n. p + n) (length_here p ns w.conn w.children w.rest (old_here w))

  -- The nodes after some of the new tree's children.
  new_child : (b : Conn) (a d : Forest) → w.new ≡ node b (a ⊕ d) nil → Rest (p + suc (length (encode a))) ms (encode (d ⊕ w.rest))
  unfolding ◌⊕◌
  new_child b a d e =
      further (rest_as (new_here w) refl (ap (λ g. encode (g ⊕ w.rest)) e)) (past_children b a d w.rest)

absorbs_after : (p i j : ℕ) (ns ms : List Node) → Turned absorbs p i j ns ms → Moved (tree_end p ns) (p + 2) ns ms
unfolding change absorb encode ◌⊕◌
absorbs_after p i j ns ms w =
    let made = (only_some _ _ w.made).1 in
    record {
      kept = encode w.rest;
      old_part = end_old w;
      new_part = further (rest_as (new_here w) refl (ap (λ g. encode (g ⊕ w.rest)) (sym made))) (rest_of 2 (_ ∷ _ ∷ []) (encode w.rest) refl);
    }

-- Rules 4 to 6, 13 and 15: the head of child i is gone.
unheaded_after :
    {x : Family} (p i j : ℕ) (ns ms : List Node) (w : Turned x p i j ns ms) →
    Unheaded i w.children w.new →
    Moved (child_place p i ns + 1) (child_place p i ns) ns ms
unfolding encode ◌⊕◌
unheaded_after p i j ns ms w u =
    let k = w.children in
    let m = u.inner in
    let f = after (suc i) k ⊕ w.rest in
    let joined : encode ((m ⊕ after (suc i) k) ⊕ w.rest) ≡ encode m ++ encode f = ap encode (⊕-assoc m (after (suc i) k) w.rest) ∙ encode-⊕ m f in
    record {
      kept = encode m ++ encode f;
      old_part = further (rest_as (child_old w) refl (ap (λ g. encode (g ⊕ w.rest)) u.was)) (rest_one _ _);
      new_part = rest_as (new_child w u.conn (first i k) (m ⊕ after (suc i) k) u.became) (sym (child_at w)) joined;
    }

unwraps_after : (p i j : ℕ) (ns ms : List Node) → Turned unwraps p i j ns ms → Moved (p + 1) p ns ms
unfolding change unwrap encode
unwraps_after p i j ns ms w =
    let made = (only_some _ _ w.made).1 in
    record {
      kept = encode w.children ++ encode w.rest;
      old_part = further (old_here w) (rest_one _ _);
      new_part = rest_as (new_here w) refl (ap (λ g. encode (g ⊕ w.rest)) (sym made) ∙ encode-⊕ w.children w.rest);
    }

spreads_after : (p i j : ℕ) (ns ms : List Node) → Turned spreads p i j ns ms → Moved (tree_end p ns) (tree_end p ns) ns ms
unfolding change spread encode
spreads_after p i j ns ms w =
    let c = w.conn in
    let k = w.children in
    let l = then_some (literal_at (after i k)) _ w.made in
    let made = (only_some _ _ l.2).1 in
    let a = first i k in
    let b = after (suc i) k in
    let u = assigned c l.0 a in
    let v = assigned c l.0 b in
    let m = u ⊕ lit l.0 v in
    let stays = cut_at i k _ (literal_here i k l.1) in
    let as_long : length (encode m) ≡ length (encode k) =
    omega (arith, ap length (encode-⊕ u (lit l.0 v)), length-append (encode u) (encode (lit l.0 v)), length-append (encode a) (encode (lit l.0 b)), assigned_length c l.0 a, assigned_length c l.0 b, ap length (encode-⊕ a (lit l.0 b)), ap (λ g. length (encode g)) stays) in
    let new = new_child w c m nil (sym made ∙ ap (λ g. node c g nil) (sym (⊕-nil m))) in
    record {
      kept = encode w.rest;
      old_part = end_old w;
      new_part = rest_as new (ap (λ n. p + suc n) as_long ∙ sym (end_at w)) (ap encode (nil-⊕ w.rest));
    }

lifts_after :
    (p i j : ℕ) (ns ms : List Node) →
    Turned lifts p i j ns ms →
    let inner = child_place (child_place p i ns) j ns in
    Moved (inner + 1) (inner + 1) ns ms
unfolding change lift encode ◌⊕◌
lifts_after p i j ns ms w =
    let k = w.children in
    let m = then_some (conjunction_at (after i k)) _ w.made in
    let l = then_some (literal_at (after j m.0)) _ m.2 in
    let a = first j m.0 in
    let b = after (suc j) m.0 in
    let f = after (suc i) k ⊕ w.rest in
    let place = child_place p i ns in
    let group : Rest place ns (encode (node and m.0 f)) = rest_as (child_old w) refl (ap (λ g. encode (g ⊕ w.rest)) (conjunction_here i k m.1)) in
    let lifted : Rest place ms (leaf l.0 ∷ encode (node and (a ⊕ b) f)) = rest_as (new_child w w.conn (first i k) _ (sym (some_inj l.2))) (sym (child_at w)) refl in
    let inner : place + 1 + suc (length (encode a)) ≡ child_place place j ns + 1 = omega (arith, child_offset place ns and m.0 f group j) in
    record {
      kept = encode (b ⊕ f);
      old_part = further (rest_as (child_here place ns and m.0 f group j) refl (ap (λ g. encode (g ⊕ f)) (literal_here j m.0 l.1))) (rest_one _ _);
      new_part = rest_as (further (further lifted (rest_one _ _)) (past_children and a b f)) inner refl;
    }

factors_after :
    (p i j : ℕ) (ns ms : List Node) →
    Turned factors p i j ns ms →
    Moved (tree_end p ns) (tree_end p ns + length ms - length ns) ns ms
factors_after p i j ns ms w =
    let new = further (new_here w) (past_trees w.new w.rest) in
    let place : p + length (encode w.new) ≡ tree_end p ns + length ms - length ns = omega (arith, new.long, (end_old w).long) in
    record { kept = encode w.rest; old_part = end_old w; new_part = rest_as new place refl }

decides_after : (p i j : ℕ) (ns ms : List Node) → Turned decides p i j ns ms → Moved (tree_end p ns) (p + 1) ns ms
unfolding change encode ◌⊕◌
decides_after p i j ns ms w =
    let made = decides_constant w.conn i j w.children w.made in
    record {
      kept = encode w.rest;
      old_part = end_old w;
      new_part = further (rest_as (new_here w) refl (ap (λ g. encode (g ⊕ w.rest)) made.1)) (rest_one _ _);
    }

renames_after : (p i j : ℕ) (ns ms : List Node) → Turned renames p i j ns ms → Moved (p + 1) (p + 1) ns ms
unfolding change encode ◌⊕◌
renames_after p i j ns ms w =
    let made = renames_node w.conn i j w.children w.made in
    record {
      kept = encode w.children ++ encode w.rest;
      old_part = further (old_here w) (rest_one _ _);
      new_part = further (rest_as (new_here w) refl (ap (λ g. encode (g ⊕ w.rest)) made.1)) (rest_one _ _);
    }

-- The nodes from the zone's end on.
pub moved :
    (x : Family) (p i j : ℕ) (ns ms : List Node) →
    Turned x p i j ns ms →
    Moved (zone x p i j ns ms).old (zone x p i j ns ms).new ns ms
unfolding zone change
moved absorbs p i j ns ms w = absorbs_after p i j ns ms w
moved omits p i j ns ms w = unheaded_after p i j ns ms w (omitted_head w.conn i j w.children w.made)
moved unwraps p i j ns ms w = unwraps_after p i j ns ms w
moved spreads p i j ns ms w = spreads_after p i j ns ms w
moved lifts p i j ns ms w = lifts_after p i j ns ms w
moved merges p i j ns ms w = unheaded_after p i j ns ms w (merged_head w.conn i j w.children w.made)
moved factors p i j ns ms w = factors_after p i j ns ms w
moved drops p i j ns ms w = unheaded_after p i j ns ms w (dropped_head w.conn i j w.children w.made)
moved decides p i j ns ms w = decides_after p i j ns ms w
moved renames p i j ns ms w = renames_after p i j ns ms w

-- The zone's places, in their order.
pub record Ordered (p : ℕ) (z : Zone) : Type 0 where
  pub place_from : p ≤ z.from
  pub from_old : z.from ≤ z.old
  pub from_new : z.from ≤ z.new

pub ordered : (x : Family) (p i j : ℕ) (ns ms : List Node) → Turned x p i j ns ms → Ordered p (zone x p i j ns ms)
unfolding zone child_place
ordered absorbs p i j ns ms w = record { place_from = omega arith; from_old = omega arith; from_new = omega arith }
ordered omits p i j ns ms w = record { place_from = omega arith; from_old = omega arith; from_new = omega arith }
ordered unwraps p i j ns ms w = record { place_from = omega arith; from_old = omega arith; from_new = omega arith }
ordered spreads p i j ns ms w = record { place_from = omega arith; from_old = omega arith; from_new = omega arith }
ordered lifts p i j ns ms w = record { place_from = omega arith; from_old = omega arith; from_new = omega arith }
ordered merges p i j ns ms w = record { place_from = omega arith; from_old = omega arith; from_new = omega arith }
ordered factors p i j ns ms w =
    let new = further (new_here w) (past_trees w.new w.rest) in
    record { place_from = omega arith; from_old = omega arith; from_new = omega (arith, new.long, (end_old w).long) }
ordered drops p i j ns ms w = record { place_from = omega arith; from_old = omega arith; from_new = omega arith }
ordered decides p i j ns ms w = record { place_from = omega arith; from_old = omega arith; from_new = omega arith }
ordered renames p i j ns ms w = record { place_from = omega arith; from_old = omega arith; from_new = omega arith }
