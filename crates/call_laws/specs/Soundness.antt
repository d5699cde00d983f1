-- Soundness of the rules: a change keeps the value of a tree, and a step keeps the models of a sheet.
use Rattle.std.specs.Prelude.{true, List, [], ◌∷◌, ◌++◌, ◌↔◌, ◌≡◌, refl, ℕ, zero, suc, take, drop}
use Rattle.std.proofs.Common.{⊎_elim, sym, ap, ◌∙◌, arith, take-append-drop}
use Rattle.std.proofs.Math.Option.{some}
use Rattle.model.specs.Base.{all, any}
use Rattle.model.specs.Literal.{Literal, complement, same}
use Rattle.model.specs.Forest.{Conn, and, or, root, at_least, Forest, nil, lit, node, constant, ◌⊕◌, kids, has_unit}
use Rattle.model.specs.Code.{Node, encode, decode}
use Rattle.model.specs.Rules.{neutral, deciding, assigned, step}
use Rattle.theory_forms.specs.Logic.{or_left}
use Rattle.theory_forms.specs.Forests.{⊕-nil, not_conn, unit_here}
use Rattle.theory_forms.specs.Codes.{decode_encode, decode_onto, decode-++}
use Rattle.theory_meaning.specs.Evaluation.{Set, fails_all, fails, values, Valuation, value_of, zeros, with_one, Holds}
use Rattle.theory_meaning.specs.Clauses.{clauses_root, unit_derived}
use Rattle.call_laws.specs.Totals.{value_complement, zeros_value}
use Rattle.call_laws.specs.Valuations.{Consistent, zeros_consistent, with_one_consistent, model_holds, derived_two}
use Rattle.theory_rewriting.specs.Changes.{Change, absorbed, omitted, unwrapped, spreaded, lifted, merged, factored, lowered, ended}
use Rattle.theory_rewriting.specs.Changes.{change_node}
use Rattle.theory_rewriting.specs.Inversion.{Stepped, stepped}
use Rattle.theory_meaning.specs.Values.{same_fails, values-⊕, values_onto}
use Rattle.theory_meaning.specs.Families.{Opposed, absorbed_fails, omitted_fails, unwrapped_values, spread_fails, lifted_fails}
use Rattle.theory_meaning.specs.Families.{merged_fails, factored_fails, lowered_fails, ended_fails}
use Rattle.theory_forms.specs.Rooted.{Rooted, no_root, below_root, no_root_node}

-- What a change asks of a set: that each literal which is a child both before and after it, as the literal of rules 9 and 10
-- is, be opposed to its complement. A conjunction is asked nothing.
abbrev pub Suits : Set → Conn → Forest → Forest → Type 0
Suits s c k g = (l : Literal) → has_unit l k ≡ true → has_unit l (kids g) ≡ true → (c ≡ and → ⊥) → Opposed s c l

kept :
    (s : Set) (c : Conn) (k : Forest) {d : Conn} (m : Forest) {g : Forest} →
    g ≡ node d m nil →
    fails s d m ≡ fails s c k →
    values s g ≡ fails s c k ∷ []
unfolding values fails
kept s c k m r e = ap (values s) r ∙ ap (λ b. b ∷ []) e

-- Soundness of a change: the tree that a node becomes has the node's value.
pub sound :
    (s : Set) {c : Conn} {k g : Forest} →
    Change c k g →
    Suits s c k g →
    values s g ≡ fails s c k ∷ []
unfolding kids
sound s {c} {k} (absorbed p q o e n r) h =
    kept s c k (constant (deciding c)) r (absorbed_fails s c o p q ∙ ap (fails s c) (sym e))
sound s {c} {k} (omitted p q e r) h =
    kept s c k (p ⊕ q) r (omitted_fails s c p q ∙ ap (fails s c) (sym e))
sound s {c} {k} (unwrapped o n e r) h = ap (values s) r ∙ unwrapped_values s c o k e
sound s {c} {k} (spreaded p q l o n e m r) h =
    let new = assigned c l p ⊕ lit l (assigned c l q) in
    let before = ap (has_unit l) e ∙ unit_here l p q in
    let still = ap (λ t. has_unit l (kids t)) r ∙ unit_here l (assigned c l p) (assigned c l q) in
    kept s c k new r (spread_fails s c o l p q (h l before still n) ∙ ap (fails s c) (sym e))
sound s {c} {k} (lifted p a b q l o n e r) h =
    kept s c k (p ⊕ lit l (node and (a ⊕ b) q)) r (lifted_fails s c o l p a b q n ∙ ap (fails s c) (sym e))
sound s {c} {k} (merged p a q n e r) h =
    kept s c k (p ⊕ a ⊕ q) r (rw n (merged_fails s p a q) ∙ ap (fails s c) (sym e))
sound s {c} {k} (factored a n e m r) h = kept s c k _ r (rw n (factored_fails s a k e))
sound s {c} {k} (lowered p q a n e r) h = kept s c k (p ⊕ q) r (rw (n, e) (lowered_fails s a p q))
sound s {c} {k} (ended a d m n e r) h = kept s c k m r (rw n (ended_fails s a k e))

-- The same for the change that a step did; the step then keeps the values of all trees.
abbrev pub SuitsStep : Set → {place : ℕ} {ns ms : List Node} → Stepped place ns ms → Type 0
SuitsStep s t = Suits s t.rewriting.conn t.rewriting.children t.rewriting.new

pub step_values :
    (s : Set) {place : ℕ} {ns ms : List Node} (t : Stepped place ns ms) →
    SuitsStep s t →
    values s (decode ns) ≡ values s (decode ms)
unfolding values fails
step_values s {place} {ns} t h =
    let w = t.rewriting in
    let here : values s (decode (drop place ns)) ≡ values s t.result =
    ap (values s) w.was
    ∙ ap (λ vs. vs ++ values s w.rest) (sym (sound s w.done h))
    ∙ sym (values-⊕ s w.new w.rest)
    ∙ ap (values s) (sym w.became) in
    let before : decode ns ≡ decode_onto (take place ns) (decode (drop place ns)) =
    ap decode (sym (take-append-drop place ns)) ∙ decode-++ (take place ns) (drop place ns) in
    let now =
    ap decode t.nodes
    ∙ decode-++ (take place ns) (encode t.result)
    ∙ ap (decode_onto (take place ns)) (decode_encode t.result) in
    ap (values s) before ∙ values_onto s (take place ns) _ _ here ∙ ap (values s) (sym now)

-- What the sets that a valuation asks about, `zeros u` and `with_one (zeros u) m`, have in common.
pub record Asked (u : Valuation) (s : Set) : Type 0 where
  pub consistent : Consistent s
  pub zeros_in : (l : Literal) → value_of u l ≡ 0 → s l ≡ true

zeros_asked : (u : Valuation) → Asked u (zeros u)
zeros_asked u = record { consistent = zeros_consistent u; zeros_in = λ l e. (zeros_value u l).1 e }

with_one_asked : (u : Valuation) (m : Literal) → value_of u m ≡ 1 → Asked u (with_one (zeros u) m)
unfolding with_one
with_one_asked u m e =
    record {
      consistent = with_one_consistent u m e;
      zeros_in = λ l z. or_left (same l m) ((zeros_value u l).1 z);
    }

-- Trees that evaluate alike under those sets have the same models.
pub holds_along :
    (u : Valuation) (c : Conn) (f g : Forest) →
    ((s : Set) → Asked u s → fails s c f ≡ fails s c g) →
    Holds u c f →
    Holds u c g
holds_along u c f g e h =
    (sym (e (zeros u) (zeros_asked u)) ∙ h.0, λ m q. sym (e (with_one (zeros u) m) (with_one_asked u m q)) ∙ h.1 m q)

-- A model gives a unit the value 2, since the unit is derived.
pub unit_value :
    (u : Valuation) (l : Literal) (k : Forest) →
    Holds u root (node root k nil) →
    has_unit l k ≡ true →
    value_of u l ≡ 2
unit_value u l k h e =
    derived_two u (rw (clauses_root k) at ((model_holds u root (node root k nil)).1 h)) (unit_derived l k e)

-- Rule 10: in a model, a unit of the root is opposed to its complement. Rule 9: below the root every consistent set suits.
unit_opposed :
    (u : Valuation) (s : Set) →
    Asked u s →
    {c : Conn} →
    c ≡ root →
    (l : Literal) (k : Forest) →
    Holds u root (node root k nil) →
    has_unit l k ≡ true →
    Opposed s c l
unfolding deciding fails_all all
unit_opposed u s a q l k h e o =
    rw q (a.zeros_in (complement l) (omega (arith, value_complement u l, unit_value u l k h e)))

inner_suits :
    (s : Set) →
    Consistent s →
    (c : Conn) (k g : Forest) →
    (c ≡ root → ⊥) →
    Suits s c k g
unfolding neutral deciding fails_all any all
inner_suits s h and k g n l before still m = absurd (m refl)
inner_suits s h or k g n l before still m = h l
inner_suits s h root k g n l before still m = absurd (n refl)
inner_suits s h (at_least a) k g n l before still m = h l

-- A change of a root leaves a root.
root_stays :
    {c : Conn} {k g : Forest} →
    Change c k g →
    c ≡ root →
    g ≡ node root (kids g) nil
unfolding kids
root_stays x h =
    ⊎_elim (λ w. rw (w.2, w.3 h)) (λ w. absurd (w.0 h)) (change_node x)

suited_holds :
    (u : Valuation) {place : ℕ} {ns ms : List Node} (t : Stepped place ns ms) →
    ((s : Set) → Asked u s → SuitsStep s t) →
    Holds u root (decode ns) ↔ Holds u root (decode ms)
suited_holds u {ns} {ms} t h =
    let alike : (s : Set) → Asked u s → fails s root (decode ns) ≡ fails s root (decode ms) =
    λ s a. same_fails s root (decode ns) (decode ms) (step_values s t (h s a)) in
    (holds_along u root (decode ns) (decode ms) alike, holds_along u root (decode ms) (decode ns) (λ s a. sym (alike s a)))

-- Soundness of a step: the nodes before it and after it have the same models.
pub stepped_holds :
    (u : Valuation) (place : ℕ) (ns : List Node) {ms : List Node} →
    Rooted ns →
    Stepped place ns ms →
    Holds u root (decode ns) ↔ Holds u root (decode ms)
stepped_holds u zero ns {ms} w t =
    let x = t.rewriting in
    let is_root : x.conn ≡ root = cc in
    let alone : x.rest ≡ nil = cc in
    let before : decode ns ≡ node root x.children nil = cc in
    let now : decode ms ≡ node root (kids x.new) nil =
    ap decode t.nodes
    ∙ decode_encode t.result
    ∙ x.became
    ∙ ap (λ f. x.new ⊕ f) alone
    ∙ ⊕-nil x.new
    ∙ root_stays x.done is_root in (
      λ h. (suited_holds u t (λ s a l was still n. unit_opposed u s a is_root l x.children (rw before at h) was)).0 h,
      λ h. (suited_holds u t (λ s a l was still n. unit_opposed u s a is_root l (kids x.new) (rw now at h) still)).1 h,
    )
stepped_holds u (suc place) ns w t =
    let x = t.rewriting in
    let inside = ap no_root (sym x.was) ∙ below_root place ns w in
    let inner = not_conn (no_root_node x.conn x.children x.rest inside).0 in
    suited_holds u t (λ s a. inner_suits s a.consistent x.conn x.children x.new (λ q. inner (sym q)))

pub step_holds :
    (u : Valuation) (r place i j : ℕ) (ns : List Node) {ms : List Node} →
    Rooted ns →
    step r place i j ns ≡ some ms →
    Holds u root (decode ns) ↔ Holds u root (decode ms)
step_holds u r place i j ns w e = stepped_holds u place ns w (stepped r place i j ns e)
