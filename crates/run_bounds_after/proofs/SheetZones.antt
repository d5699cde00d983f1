-- The zone of a step on a sheet, family by family.
use mathlib.Core.List.{List}
use mathlib.Core.Logic.{◌⊎◌, inl, inr}
use mathlib.Core.Option.{some}
use mathlib.Core.Path.{◌≡◌, sym, ap, subst, ◌∙◌}
use Prim.Native.Nat.{ℕ, suc, ◌+◌, ◌-◌, ◌≤◌, ◌<◌}
use native.Mathlib.Omega.{arith}
use lib.ListN.{length, get_or, drop, length-drop}
use Rattle.model.specs.Base.{pick, maybe}
use Rattle.model.specs.Limits.{sheet_room, last_rule}
use Rattle.model.specs.Literal.{Literal}
use Rattle.model.specs.Forest.{and, Forest, node, lit, size, after, kids, ◌⊕◌, conjunction_at, literal_at}
use Rattle.model.specs.Code.{Node, encode, decode, trees, weight}
use Rattle.model.specs.Rules.{Family, absorbs, omits, unwraps, spreads, lifts, decides, renames, change, lift, step}
use Rattle.model.specs.Sheet.{used_in, nodes_in}
use Rattle.theory_forms.specs.Logic.{is_some_of, then_some}
use Rattle.theory_forms.specs.Forests.{conjunction_here, literal_here, size_after}
use Rattle.theory_forms.specs.Codes.{size_length, decode_encode}
use Rattle.theory_forms.specs.Shape.{shaped_trees}
use Rattle.theory_forms.specs.Sheets.{Formed}
use Rattle.theory_rewriting.specs.Steps.{done, more, steps_weight}
use Rattle.theory_rewriting.specs.Bounds.{step_within, step_child}
use Rattle.theory_rewriting.specs.Turns.{last_at, family_at, family_1, family_4, family_7, family_9, family_11, family_16, family_17}
use Rattle.locality.specs.Zones.{between, zone, tree_length, tree_end, child_place}
use Rattle.locality.specs.ChildPlaces.{read_here, length_here, child_here}
use Rattle.locality.specs.Turned.{Turned, turned, old_here}
use Rattle.locality.specs.Locality.{step_extent, step_after, level_zone}
use Rattle.search_sizes.specs.SizeTables.{SizesFrom}
use Rattle.search_place.specs.declared.Redex.{Redex}
use Rattle.search_place.specs.Redexes.{Applies}
use Rattle.run_bounds_after.specs.declared.Zone.{Zone}
use Rattle.run_bounds_after.specs.Zoned.{after_step, own_zone, Zoned}
use Rattle.run_bounds_after.proofs.ZoneChildren.{size_here}

-- Rules 4 to 6, 13 and 15 take the head of a child away.
abbrev pub Unheads : ℕ → Type 0
Unheads r = ((4 ≤ r) × (r ≤ 6)) ⊎ (r ≡ 13) ⊎ (r ≡ 15)

lit_size : (l : Literal) (f : Forest) → 1 ≤ size (lit l f)
unfolding size
lit_size l f = omega arith

module _ (s : List ℕ) (h : Formed s) (x : Redex) (a : Applies x s) where
  abbrev ns : List Node
  ns = nodes_in s

  abbrev ms : List Node
  ms = after_step x (nodes_in s)

  pub one : trees (nodes_in s) ≡ some 1
  one = shaped_trees h.shaped

  pub few : length (nodes_in s) ≤ sheet_room
  few = omega (arith, h.count, h.used)

  pub did : step x.rule x.place x.i x.j (nodes_in s) ≡ some (after_step x (nodes_in s))
  unfolding after_step maybe
  did = let w = is_some_of (step x.rule x.place x.i x.j ns) a in w.1 ∙ ap some (sym (ap (maybe ns (λ x. x)) w.1))

  -- The rule is one of the table's, the place one of the nodes; and the child is there, where the rule names one.
  pub rules : (1 ≤ x.rule) × (x.rule ≤ last_rule)
  rules = let w = (step_within x.rule x.place x.i x.j ns did).1 in (w.rule_low, w.rule_high)

  pub within : x.place < used_in s
  within = omega (arith, (step_within x.rule x.place x.i x.j ns did).0, h.count)

  pub child : x.rule ≤ 15 → x.i < size (kids (decode (drop x.place (nodes_in s))))
  child low = step_child x.rule x.place x.i x.j ns low did

  -- The end of the tree at the place, by the table.
  pub end_by : (t : List ℕ) → SizesFrom 0 (drop 2 s) t → x.place + get_or t x.place 0 ≡ tree_end x.place (nodes_in s)
  end_by t sizes =
      let there : x.place < length (drop 2 s) = omega (arith, within, h.used, h.whole, length-drop 2 s) in
      omega (arith, sizes x.place (omega arith) there, size_here s h x.place within)

  -- A zone that is the step's own, and not longer after it.
  zoned :
      {z : Zone} →
      own_zone x (nodes_in s) ≡ between z.from z.old z.new →
      z.new ≤ z.old →
      Zoned x (nodes_in s) z
  unfolding zone
  zoned {z} e le =
      let w = step_extent x.rule x.place x.i x.j ns one did in
      let own = own_zone x ns in
      let f : own.from ≡ z.from = ap (λ k. k.from) e in
      let o : own.old ≡ z.old = ap (λ k. k.old) e in
      let n : own.new ≡ z.new = ap (λ k. k.new) e in
      record {
        place_from = omega (arith, w.order.place_from);
        from_new = omega (arith, w.order.from_new);
        new_old = le;
        old_within = omega (arith, w.old_within, few);
        before = omega (arith, f);
        after = λ q l m. let sum : own.old + (q - own.new) ≡ q + (z.old - z.new) = omega arith in
            (step_after x.rule x.place x.i x.j ns one did q (omega arith) ∙ ap (λ k. drop k ns) sum, omega (arith, w.moved_by));
        shift = λ k. omega (arith, w.moved_by);
        level = λ l. omega (arith, level_zone x.rule x.place x.i x.j ns ms l);
        spread = λ low top. let its = sym e ∙ ap (λ k. zone k x.place x.i x.j ns ms) (family_9 x.rule low top) in
            (ap (λ k. k.from) its, ap (λ k. k.new) its);
      }

  it : Turned (family_at x.rule) x.place x.i x.j (nodes_in s) (after_step x (nodes_in s))
  it = turned x.rule x.place x.i x.j ns one did

  -- The tree at the place has its head, and a node below it where the rule names a child.
  headed : tree_length x.place (nodes_in s) ≡ suc (length (encode it.children))
  headed = let w = it in length_here x.place ns w.conn w.children w.rest (old_here w)

  pub tall : x.rule ≤ 15 → 2 ≤ tree_length x.place (nodes_in s)
  unfolding kids
  tall low =
      let w = it in
      let p = x.place in
      let there : x.i < size w.children = subst (λ f. x.i < size (kids f)) (read_here p ns w.conn w.children w.rest (old_here w)) (child low) in
      omega (arith, headed, size_length w.children)

  -- The own zone of a step of a family; of a rule.
  of_family :
      (k : Family) →
      family_at x.rule ≡ k →
      own_zone x (nodes_in s) ≡ zone k x.place x.i x.j (nodes_in s) (after_step x (nodes_in s))
  of_family k = ap (λ k. zone k x.place x.i x.j ns ms)

  of_rule :
      (r : ℕ) →
      x.rule ≡ r →
      own_zone x (nodes_in s) ≡ zone (family_at r) x.place x.i x.j (nodes_in s) (after_step x (nodes_in s))
  of_rule r = ap (λ r. zone (family_at r) x.place x.i x.j ns ms)

  of_child : Unheads x.rule → own_zone x (nodes_in s) ≡ zone omits x.place x.i x.j (nodes_in s) (after_step x (nodes_in s))
  unfolding zone family_at last_at pick
  of_child (inl w) = of_family omits (family_4 x.rule w.0 w.1)
  of_child (inr (inl e)) = of_rule 13 e
  of_child (inr (inr e)) = of_rule 15 e

  pub zone_1 :
      {z : Zone} →
      x.rule ≤ 3 →
      z.from ≡ x.place →
      z.old ≡ tree_end x.place (nodes_in s) →
      z.new ≡ x.place + 2 →
      Zoned x (nodes_in s) z
  unfolding zone
  zone_1 b f o n = zoned (rw (f, o, n) (of_family absorbs (family_1 x.rule b))) (omega (arith, tall (omega arith)))

  pub zone_16 :
      {z : Zone} →
      x.rule ≡ 16 →
      z.from ≡ x.place →
      z.old ≡ tree_end x.place (nodes_in s) →
      z.new ≡ x.place + 1 →
      Zoned x (nodes_in s) z
  unfolding zone
  zone_16 r f o n = zoned (rw (f, o, n) (of_family decides (ap family_at r ∙ family_16))) (omega (arith, headed))

  -- One node goes.
  module _ {z : Zone} {at : ℕ} (gone : (z.from ≡ at) × (z.old ≡ at + 1) × (z.new ≡ at)) where
    pub zone_child : Unheads x.rule → at ≡ child_place x.place x.i (nodes_in s) → Zoned x (nodes_in s) z
    unfolding zone
    zone_child u e = zoned (rw (gone.0, gone.1, gone.2, e) (of_child u)) (omega arith)

    pub zone_7 : 7 ≤ x.rule → x.rule ≤ 8 → at ≡ x.place → Zoned x (nodes_in s) z
    unfolding zone
    zone_7 a b e = zoned (rw (gone.0, gone.1, gone.2, e) (of_family unwraps (family_7 x.rule a b))) (omega arith)

  -- No node moves.
  module _ {z : Zone} {from to : ℕ} (still : (z.from ≡ from) × (z.old ≡ to) × (z.new ≡ to)) where
    pub zone_9 : 9 ≤ x.rule → x.rule ≤ 10 → from ≡ x.place → to ≡ tree_end x.place (nodes_in s) → Zoned x (nodes_in s) z
    unfolding zone
    zone_9 a b f e = zoned (rw (still.0, still.1, still.2, f, e) (of_family spreads (family_9 x.rule a b))) (omega arith)

    pub zone_17 : x.rule ≡ 17 → from ≡ x.place + 1 → to ≡ x.place + 1 → Zoned x (nodes_in s) z
    unfolding zone
    zone_17 r f e = zoned (rw (still.0, still.1, still.2, f, e) (of_family renames (ap family_at r ∙ family_17))) (omega arith)

    -- Rule 14 may make the nodes longer: from the place on nothing is said.
    pub zone_14 : x.rule ≡ 14 → from ≡ x.place → to ≡ sheet_room → Zoned x (nodes_in s) z
    unfolding zone family_at last_at pick weight
    zone_14 r f e =
        let light = steps_weight h.shaped (more x.rule x.place x.i x.j did done) in
        let short : length ms ≤ sheet_room = omega (arith, h.weight) in
        record {
          place_from = omega arith;
          from_new = omega (arith, within, h.used);
          new_old = omega arith;
          old_within = omega arith;
          before = omega (arith, ap (λ k. k.from) (of_rule 14 r));
          after = λ q l m. absurd (omega arith);
          shift = λ k. absurd (k r);
          level = λ l. omega arith;
          spread = λ low top. absurd (omega arith);
        }

  pub zone_11 :
      {z : Zone} →
      11 ≤ x.rule →
      x.rule ≤ 12 →
      {at inner : ℕ} →
      z.from ≡ at →
      z.old ≡ inner + 1 →
      z.new ≡ inner + 1 →
      at ≡ child_place x.place x.i (nodes_in s) →
      inner ≡ child_place at x.j (nodes_in s) →
      Zoned x (nodes_in s) z
  unfolding zone
  zone_11 a b f o n e e' = zoned (rw (f, o, n, e', e) (of_family lifts (family_11 x.rule a b))) (omega arith)

  -- The inner child of rules 11 and 12 is there.
  pub inner_there :
      11 ≤ x.rule →
      x.rule ≤ 12 →
      x.j < size (kids (decode (drop (child_place x.place x.i (nodes_in s)) (nodes_in s))))
  unfolding change lift kids ◌⊕◌
  inner_there a b =
      let w = it in
      let p = x.place in
      let i = x.i in
      let j = x.j in
      let made : change lifts w.conn i j w.children ≡ some w.new = ap (λ k. change k w.conn i j w.children) (sym (family_11 x.rule a b)) ∙ w.made in
      let c = then_some (conjunction_at (after i w.children)) _ made in
      let l = then_some (literal_at (after j c.0)) _ c.2 in
      let few : j < size c.0 = omega (arith, size_after j c.0, ap size (literal_here j c.0 l.1), lit_size l.0 (after (suc j) c.0)) in
      let there : decode (drop (child_place p i ns) ns) ≡ after i w.children ⊕ w.rest =
      ap decode (child_here p ns w.conn w.children w.rest (old_here w) i).left ∙ decode_encode (after i w.children ⊕ w.rest) in
      let group : after i w.children ⊕ w.rest ≡ node and c.0 (after (suc i) w.children ⊕ w.rest) =
      ap (λ f. f ⊕ w.rest) (conjunction_here i w.children c.1) in
      subst (λ f. j < size (kids f)) (sym (there ∙ group)) few
