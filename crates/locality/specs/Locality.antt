-- A step changes which rules apply only near its place: the theorems that a run by bounds rests on.
use Rattle.std.specs.Prelude.{List, ◌⊎◌, ◌≡◌, ℕ, ◌+◌, ◌-◌, ◌≤◌, ◌<◌, leb, drop}
use Rattle.std.proofs.Common.{inl, inr, ⊎_elim, sym, ◌∙◌, arith, leb-true, leb-false, length-append, length-drop, drop-drop}
use Rattle.std.proofs.Math.Option.{some}
use Rattle.std.proofs.Math.Path.{ap}
use Rattle.std.proofs.Math.ListN.{length}
use Rattle.model.specs.Forest.{◌⊕◌, first, after}
use Rattle.model.specs.Code.{Node, encode, decode, trees}
use Rattle.model.specs.Rules.{rewrite, step}
use Rattle.theory_forms.specs.Forests.{first_after}
use Rattle.theory_forms.specs.Codes.{encode-⊕, encode_decode, trees_drop}
use Rattle.theory_forms.specs.Logic.{either}
use Rattle.theory_rewriting.specs.Turns.{family_at, family_9, family_11, family_17}
use Rattle.locality.specs.Zones.{Quiet, tree_length, Holds, Twice, Zone, zone}
use Rattle.locality.specs.Turned.{Turned, old_here, new_here, turned, turned_trees, rest_stays}
use Rattle.locality.specs.After.{moved, Ordered, ordered}
use Rattle.locality.specs.Before.{above_place}
use Rattle.locality.specs.Sides.{before_zone, tree_before_zone}

-- Where the same nodes stand from two places on, the trees there are of one length.
pub same_length : (q m : ℕ) (ns ms : List Node) → drop q ms ≡ drop m ns → tree_length q ms ≡ tree_length m ns
unfolding tree_length
same_length q m ns ms e = ap (λ xs. length (encode (first 1 (decode xs)))) e

-- The nodes from a place on are its tree and the trees after it.
tree_and_rest :
    (q : ℕ) (ns : List Node) {t : ℕ} →
    trees ns ≡ some t →
    length (drop q ns) ≡ tree_length q ns + length (encode (after 1 (decode (drop q ns))))
unfolding tree_length
tree_and_rest q ns h =
    let u = trees_drop q ns h in
    let f = decode (drop q ns) in
    let parts : encode (first 1 f ⊕ after 1 f) ≡ drop q ns = ap encode (first_after 1 f) ∙ (encode_decode (drop q ns) u.0 u.1).0 in
    omega (arith, ap length parts, ap length (encode-⊕ (first 1 f) (after 1 f)), length-append (encode (first 1 f)) (encode (after 1 f)))

-- How the zone of a step lies: its places in their order, within the nodes, and moved by as much as the nodes grew.
pub record Extent (p : ℕ) (z : Zone) (ns ms : List Node) : Type 0 where
  pub order : Ordered p z
  pub old_within : z.old ≤ length ns
  pub new_within : z.new ≤ length ms
  pub moved_by : z.new + length ns ≡ z.old + length ms

module _ (r p i j : ℕ) (ns : List Node) {ms : List Node} {t : ℕ} (h : trees ns ≡ some t) (e : step r p i j ns ≡ some ms) where
  abbrev pub its_zone : Zone
  its_zone = zone (family_at r) p i j ns ms

  did : Turned (family_at r) p i j ns ms
  did = turned r p i j ns h e

  pub step_extent : Extent p its_zone ns ms
  step_extent =
      let m = moved (family_at r) p i j ns ms did in
      let old = m.old_part.long in
      let new = m.new_part.long in
      record {
        order = ordered (family_at r) p i j ns ms did;
        old_within = omega arith;
        new_within = omega arith;
        moved_by = omega arith;
      }

  -- From the zone on, the nodes are the old ones, moved.
  pub step_after : (q : ℕ) → its_zone.new ≤ q → drop q ms ≡ drop (its_zone.old + (q - its_zone.new)) ns
  step_after q le =
      let m = moved (family_at r) p i j ns ms did in
      let sum : its_zone.new + (q - its_zone.new) ≡ q = omega arith in
      ap (λ n. drop n ms) (sym sum)
      ∙ sym (drop-drop (q - its_zone.new) its_zone.new ms)
      ∙ ap (drop (q - its_zone.new)) (m.new_part.left ∙ sym m.old_part.left)
      ∙ drop-drop (q - its_zone.new) its_zone.old ns

  -- So what applies there is what applied where they stood.
  pub step_after_quiet : (q s : ℕ) → its_zone.new ≤ q → Quiet s (its_zone.old + (q - its_zone.new)) ns → Quiet s q ms
  step_after_quiet q s le quiet a b = ap (λ xs. rewrite s a b (decode xs)) (step_after q le) ∙ quiet a b

  -- Before the zone, a rule that does not apply at a place does not come to apply there, unless the place is the step's own, or
  -- holds it one or two levels down.
  pub step_before : (q s : ℕ) → q < its_zone.from → (q ≡ p → ⊥) → (Holds q p ns → Twice q p ns) → Quiet s q ns → Quiet s q ms
  step_before q s lt other deep = before_zone did q lt other s deep

  -- The trees from the zone on, and those before it that do not hold the place, keep their lengths; the tree at the place and
  -- those that hold it grow as the nodes do.
  pub length_after : (q : ℕ) → its_zone.new ≤ q → tree_length q ms ≡ tree_length (its_zone.old + (q - its_zone.new)) ns
  length_after q le = same_length q (its_zone.old + (q - its_zone.new)) ns ms (step_after q le)

  pub length_before : (q : ℕ) → q < its_zone.from → (q ≡ p → ⊥) → (Holds q p ns → ⊥) → tree_length q ms ≡ tree_length q ns
  unfolding tree_length
  length_before q lt other out = ap (λ f. length (encode f)) (sym (tree_before_zone did q lt other out))

  length_grows :
      (q : ℕ) →
      q ≤ p →
      after 1 (decode (drop q ns)) ≡ after 1 (decode (drop q ms)) →
      tree_length q ms + length ns ≡ tree_length q ns + length ms
  length_grows q le same =
      let old = tree_and_rest q ns h in
      let new = tree_and_rest q ms (turned_trees did ∙ h) in
      omega (arith, length-drop q ns, length-drop q ms, (old_here did).long, (new_here did).long, ap (λ f. length (encode f)) same)

  pub length_holding : (q : ℕ) → Holds q p ns → tree_length q ms + length ns ≡ tree_length q ns + length ms
  length_holding q t = length_grows q (omega arith) (above_place did q t)

  pub length_at : tree_length p ms + length ns ≡ tree_length p ns + length ms
  length_at = length_grows p (omega arith) (rest_stays did)

-- Rules 9 to 12 and 17 move no node that stands after their zone, and so keep the number of nodes.
abbrev pub Level : ℕ → Type 0
Level r = ((9 ≤ r) × (r ≤ 12)) ⊎ (r ≡ 17)

pub level_zone :
    (r p i j : ℕ) (ns ms : List Node) →
    Level r →
    (zone (family_at r) p i j ns ms).old ≡ (zone (family_at r) p i j ns ms).new
unfolding zone
level_zone r p i j ns ms (inl w) =
    ⊎_elim
    (λ d. rw (family_9 r w.0 (leb-true r 10 d)))
    (λ d. rw (family_11 r (leb-false r 10 d) w.1))
    (either (leb r 10))
level_zone r p i j ns ms (inr e) = rw (e, family_17)

pub level_length :
    (r p i j : ℕ) (ns : List Node) {ms : List Node} {t : ℕ} →
    trees ns ≡ some t →
    step r p i j ns ≡ some ms →
    Level r →
    length ms ≡ length ns
level_length r p i j ns {ms} h e level =
    omega (arith, (step_extent r p i j ns h e).moved_by, level_zone r p i j ns ms level)
