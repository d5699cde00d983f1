-- Inside its tree, a step of rule 9 or 10 makes a rule apply only where a child became a constant.
use Rattle.std.specs.Prelude.{true, List, ◌≡◌, refl, eqb, leb, ltb, drop}
use Rattle.std.proofs.Common.{⊎_elim, sym, ◌∙◌, arith, eqb-true, leb-true, leb-false, ltb-true, ltb-false}
use Rattle.std.proofs.Math.Option.{none, some}
use Rattle.std.proofs.Math.Path.{ap}
use Prim.Native.Nat.{ℕ, zero, suc, ◌+◌, ◌-◌, ◌≤◌, ◌<◌}
use Rattle.std.proofs.Math.ListN.{length, length-append}
use Rattle.model.specs.Base.{all}
use Rattle.model.specs.Literal.{Literal}
use Rattle.model.specs.Forest.{Conn, Forest, nil, lit, node, ◌⊕◌, size, first, after, kids, literal_at, conjunction_at}
use Rattle.model.specs.Code.{Node, leaf, head, encode, push, decode, trees, conn_kind}
use Rattle.model.specs.Rules.{assigned, spread, lift, factor, spreads, change, Row, table, row_of, turn, rewrite, step}
use Rattle.theory_forms.specs.Logic.{none_some, none_if, either, and_split, only_some, then_some, only_then}
use Rattle.theory_forms.specs.Lists.{all_later}
use Rattle.theory_forms.specs.Forests.{grouping, neutral_groups, deciding_groups, literal_here, cut_at, assigned_lit}
use Rattle.theory_forms.specs.Codes.{encode-⊕, decode_encode}
use Rattle.theory_rewriting.specs.Bounds.{past_last}
use Rattle.locality.specs.Zones.{Quiet, tree_end}
use Rattle.locality.specs.ChildPlaces.{Rest, rest_as, rest_one, further, past_children, length_here}
use Rattle.locality.specs.Turned.{Turned, old_here, new_here, turned}
use Rattle.locality.specs.Looks.{Fades, kept, fades_from, fades_read, factor_test, group_quiet}
use Rattle.locality.specs.Assigned.{NoConstant, Other, assigned_length, assigned_part, literal_stays, unit_before, assigned_level, assigned_conjunction, assigned_shares}
use Rattle.locality.specs.Before.{node_at}
use Rattle.locality.specs.Front.{part_here, below_head}
use Rattle.theory_rewriting.specs.Turns.{family_9}

-- Children where a literal is assigned and no constant stands: what did not apply to their node does not come to apply.
module _ (b : Conn) (l : Literal) (k : Forest) (free : NoConstant (assigned b l k)) (c : Conn) (i j : ℕ) where
  lift_fades : Fades (lift c i j k) (lift c i j (assigned b l k))
  unfolding lift
  lift_fades =
      fades_from (conjunction_at (after i k)) (conjunction_at (after i (assigned b l k))) (assigned b l) _ _ (assigned_conjunction b l i k free) (λ n.
      fades_read (literal_at (after j n)) (literal_at (after j (assigned b l n))) _ _ (Other l) (literal_stays b l j n) (λ a o. kept))

  factor_fades : Fades (factor c i j k) (factor c i j (assigned b l k))
  unfolding factor
  factor_fades =
      fades_from (conjunction_at (after i k)) (conjunction_at (after i (assigned b l k))) (assigned b l) _ _ (assigned_conjunction b l i k free) (λ n.
      fades_read (literal_at (after j n)) (literal_at (after j (assigned b l n))) _ _ (Other l) (literal_stays b l j n) (λ a o.
      factor_test (assigned_level b l k free) c i j a (first j n) (first j (assigned b l n)) _ _ (unit_before b l a o j n) (assigned_shares b l a o k free)))

  group_inside : (r : ℕ) (f g : Forest) → rewrite r i j (node c k f) ≡ none → rewrite r i j (node c (assigned b l k) g) ≡ none
  group_inside r f g = group_quiet (assigned_level b l k free) c i j lift_fades factor_fades r f g

-- The last rules are for nodes of kind 6 alone.
rows_last : all (λ w. eqb w.kind 6) (drop 14 table) ≡ true
unfolding all table
rows_last = refl

row_last : (r : ℕ) {w : Row} → row_of r ≡ some w → 15 ≤ r → w.kind ≡ 6
unfolding row_of
row_last zero e l = none_some e
row_last (suc r) {w} e l = eqb-true w.kind 6 (all_later (λ v. eqb v.kind 6) 14 table r rows_last (omega arith) e)

last_quiet : (r i j : ℕ) (d : Conn) (k f : Forest) → grouping d ≡ true → 15 ≤ r → rewrite r i j (node d k f) ≡ none
unfolding rewrite turn grouping
last_quiet r i j d k f o l =
    none_if (rewrite r i j (node d k f)) (λ g e.
    let w = then_some (row_of r) _ e in
    let t = only_then _ k _ (then_some (turn w.0 d i j k) _ w.2).1 in
    let kind = eqb-true w.0.kind (conn_kind d) (and_split (eqb w.0.kind (conn_kind d)) _ t.0).0 in
    omega (arith, row_last r w.1 l, leb-true (conn_kind d) 5 o))

-- No rule applies to a constant: the rules below the last ones need a child.
empty_quiet : (r i j : ℕ) (d : Conn) (f : Forest) → grouping d ≡ true → rewrite r i j (node d nil f) ≡ none
unfolding kids size
empty_quiet r i j d f o =
    ⊎_elim
    (λ t. past_last r i j (node d nil f) (leb-true r 15 t) (omega arith))
    (λ t. last_quiet r i j d nil f o (let h = leb-false r 15 t in omega arith))
    (either (leb r 15))

-- The first tree of some trees, before any others.
tree_inside :
    (b : Conn) (l : Literal) (t f g : Forest) →
    1 ≤ size t →
    NoConstant (kids (assigned b l t ⊕ g)) →
    (r i j : ℕ) →
    rewrite r i j (t ⊕ f) ≡ none →
    rewrite r i j (assigned b l t ⊕ g) ≡ none
unfolding assigned ◌⊕◌ kids size rewrite
tree_inside b l nil f g n free r i j e = absurd (omega arith)
tree_inside b l (lit x t) f g n free r i j e =
    assigned_lit (λ h. rewrite r i j (h ⊕ g) ≡ none) b l x t
    (λ s. empty_quiet r i j _ _ (neutral_groups b))
    (λ s. empty_quiet r i j _ _ (deciding_groups b))
    (λ s o. refl)
tree_inside b l (node d k t) f g n free r i j e = group_inside b l k free d i j r _ _ e

-- A place within a list has a tree.
tree_at : (ns : List Node) (n : ℕ) → n < length ns → 1 ≤ size (decode (drop n ns))
unfolding decode push size
tree_at ns n h = let x = node_at ns n h in rw x.1 (go x.0)
  where
    go : (y : Node) → 1 ≤ size (push y (decode (drop (suc n) ns)))
    go (leaf x) = omega arith
    go (head c k) = omega arith

-- A place among trees, of which the first stands at an earlier place.
part_inside :
    (b : Conn) (l : Literal) (a f g : Forest) {p : ℕ} {ns ms : List Node} →
    Rest p ns (encode (a ⊕ f)) →
    Rest p ms (encode (assigned b l a ⊕ g)) →
    (q s : ℕ) →
    p ≤ q →
    q < p + length (encode a) →
    NoConstant (kids (decode (drop q ms))) →
    Quiet s q ns →
    Quiet s q ms
part_inside b l a f g {p} {ns} {ms} old new q s from within free quiet i j =
    let was = part_here a f old q from within in
    let is : decode (drop q ms) ≡ assigned b l (decode (drop (q - p) (encode a))) ⊕ g =
    part_here (assigned b l a) g new q from (omega (arith, assigned_length b l a)) ∙ ap (λ t. t ⊕ g) (assigned_part b l (q - p) a) in
    rw is (tree_inside b l (decode (drop (q - p) (encode a))) f g (tree_at (encode a) (q - p) (omega arith)) (rw is at free) s i j (rw was at (quiet i j)))

-- A place among the children of a node, where a literal is assigned in all but the one that it is.
module _ (c : Conn) (l : Literal) (a d f : Forest) {p : ℕ} {ns ms : List Node} (old : Rest p ns (encode (node c (a ⊕ lit l d) f))) (new : Rest p ms (encode (node c (assigned c l a ⊕ lit l (assigned c l d)) f))) where
  abbrev place : ℕ
  place = p + suc (length (encode a))

  literal_new : Rest place ms (encode (lit l (assigned c l d) ⊕ f))
  literal_new =
      rest_as (further new (past_children c (assigned c l a) (lit l (assigned c l d)) f)) (ap (λ n. p + suc n) (assigned_length c l a)) refl

  at_literal : (s : ℕ) → Quiet s place ms
  unfolding ◌⊕◌ rewrite
  at_literal s i j = ap (λ t. rewrite s i j t) (ap decode literal_new.left ∙ decode_encode (lit l (assigned c l d) ⊕ f))

  module _ (q s : ℕ) (free : NoConstant (kids (decode (drop q ms)))) (quiet : Quiet s q ns) where
    before_literal : p < q → q < place → Quiet s q ms
    before_literal later early =
        part_inside c l a (lit l d ⊕ f) (lit l (assigned c l d) ⊕ f) (below_head c a (lit l d) f old) (below_head c (assigned c l a) (lit l (assigned c l d)) f new) q s (omega arith) (omega arith) free quiet

    after_literal : place < q → q < p + suc (length (encode (a ⊕ lit l d))) → Quiet s q ms
    unfolding ◌⊕◌ encode
    after_literal late within =
        let literal_old = further old (past_children c a (lit l d) f) in
        let parts : length (encode (a ⊕ lit l d)) ≡ length (encode a) + suc (length (encode d)) = ap length (encode-⊕ a (lit l d)) ∙ length-append (encode a) (encode (lit l d)) in
        part_inside c l d f f (further literal_old (rest_one _ _)) (further literal_new (rest_one _ _)) q s (omega arith) (omega arith) free quiet

    children_inside : p < q → q < p + suc (length (encode (a ⊕ lit l d))) → Quiet s q ms
    children_inside later within =
        ⊎_elim
        (λ t. before_literal later (ltb-true q place t))
        (λ t. ⊎_elim
        (λ u. after_literal (ltb-true place q u) within)
        (λ u. let here : place ≡ q = omega (arith, ltb-false q place t, ltb-false place q u) in rw here at (at_literal s))
        (either (ltb place q)))
        (either (ltb q place))

-- A step of rule 9 or 10, at a place inside its tree, none of whose children is a constant afterwards: a rule that did not apply
-- does not come to apply.
spread_turned :
    {p i j : ℕ} {ns ms : List Node} →
    Turned spreads p i j ns ms →
    (q s : ℕ) →
    p < q →
    q < tree_end p ns →
    NoConstant (kids (decode (drop q ms))) →
    Quiet s q ns →
    Quiet s q ms
unfolding change spread ◌⊕◌
spread_turned {p} {i} {j} {ns} {ms} w q s later within free quiet =
    let c = w.conn in
    let k = w.children in
    let f = w.rest in
    let l = then_some (literal_at (after i k)) _ w.made in
    let made = (only_some _ _ l.2).1 in
    let parts = cut_at i k _ (literal_here i k l.1) in
    let old = rest_as (old_here w) refl (ap (λ g. encode (node c g f)) (sym parts)) in
    let new = rest_as (new_here w) refl (ap (λ g. encode (g ⊕ f)) (sym made)) in
    let end : q < p + suc (length (encode (first i k ⊕ lit l.0 (after (suc i) k)))) = omega (arith, length_here p ns c k f (old_here w), ap (λ g. length (encode g)) parts) in
    children_inside c l.0 (first i k) (after (suc i) k) f old new q s free quiet later end

pub spread_inside :
    (r p i j : ℕ) (ns : List Node) {ms : List Node} {t : ℕ} →
    trees ns ≡ some t →
    step r p i j ns ≡ some ms →
    9 ≤ r →
    r ≤ 10 →
    (q s : ℕ) →
    p < q →
    q < tree_end p ns →
    NoConstant (kids (decode (drop q ms))) →
    Quiet s q ns →
    Quiet s q ms
spread_inside r p i j ns h e from to q s later within free quiet =
    spread_turned (rw (family_9 r from to) at (turned r p i j ns h e)) q s later within free quiet
