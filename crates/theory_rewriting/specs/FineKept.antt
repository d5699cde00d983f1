-- Every change keeps trees fine.
use Rattle.std.specs.Prelude.{Bool, ◌&&◌, ◌||◌, not, ◌⊎◌, ◌≡◌, ℕ, ◌≤◌, ◌<◌, ◌-◌, eqb}
use Rattle.std.proofs.Math.Bool.{true, false}
use Rattle.std.proofs.Math.Logic.{inl, inr, ⊎_elim}
use Rattle.std.proofs.Math.Path.{refl}
use Rattle.std.proofs.Common.{sym, ap, ◌∙◌, arith, ltb-true, lt-ltb}
use Rattle.std.proofs.lemmas.Bool.{not-true}
use Rattle.std.proofs.Math.Dec.{ltb}
use Rattle.model.specs.Base.{pick}
use Rattle.model.specs.Literal.{Literal, option, same}
use Rattle.model.specs.Forest.{Conn, and, or, root, at_least, same_conn, Forest, nil, lit, node, ◌⊕◌, size, has_unit, mentions, members, seated}
use Rattle.model.specs.Limits.{least_factor}
use Rattle.model.specs.Code.{conn_kind}
use Rattle.model.specs.Rules.{neutral, deciding, assigned, without_unit, shares, units, groups_without, groups}
use Rattle.theory_forms.specs.Logic.{true_false, and_split, and_join, or_split, or_neither}
use Rattle.theory_forms.specs.Literals.{same_is}
use Rattle.theory_forms.specs.Forests.{grouping, neutral_groups, deciding_groups, size-⊕, mentions-⊕, assigned_lit, size_assigned}
use Rattle.theory_forms.specs.Numbers.{inner}
use Rattle.theory_forms.specs.Ended.{Ended, none_asked, too_many, one_asked, all_asked}
use Rattle.theory_rewriting.specs.Changes.{Change, absorbed, omitted, unwrapped, spreaded, lifted, merged, factored, lowered, ended}
use Rattle.theory_rewriting.specs.Changes.{not_root, change_node}
use Rattle.theory_forms.specs.Fine.{placed, fine, fine-⊕, fine_split, fine_lit, fine_node}

-- The two constants may stand anywhere.
neutral_placed : (c : Conn) → placed (neutral c) nil ≡ true
unfolding placed inner seated neutral
neutral_placed and = refl
neutral_placed or = refl
neutral_placed root = refl
neutral_placed (at_least a) = refl

deciding_placed : (c : Conn) → placed (deciding c) nil ≡ true
unfolding placed inner seated deciding
deciding_placed and = refl
deciding_placed or = refl
deciding_placed root = refl
deciding_placed (at_least a) = refl

-- A group may stand with any children. Members stay members where a constant goes, and where a literal becomes a constant.
group_placed : (c : Conn) (k m : Forest) → grouping c ≡ true → placed c k ≡ true → placed c m ≡ true
unfolding placed inner seated grouping conn_kind
group_placed and k m g h = h
group_placed or k m g h = h
group_placed root k m g h = h
group_placed (at_least a) k m g h = true_false (sym g)

mentions_less : (v : ℕ) (p q : Forest) (d : Conn) → mentions v (p ⊕ node d nil q) ≡ mentions v (p ⊕ q)
unfolding mentions
mentions_less v p q d = mentions-⊕ v p (node d nil q) ∙ sym (mentions-⊕ v p q)

members_less : (p q : Forest) (d : Conn) → members (p ⊕ node d nil q) ≡ true → members (p ⊕ q) ≡ true
unfolding members ◌⊕◌
members_less nil q d h = (and_split ((same_conn and d || same_conn or d) && eqb (size nil) 0) (members q) h).1
members_less (lit l p) q d h =
    let s = and_split (not (mentions (option l) (p ⊕ node d nil q))) _ h in
    and_join (rw (mentions_less (option l) p q d) at s.0) (members_less p q d s.1)
members_less (node c k p) q d h =
    let s = and_split ((same_conn and c || same_conn or c) && eqb (size k) 0) _ h in
    and_join s.0 (members_less p q d s.1)

placed_least :
    (a b : ℕ) (p q : Forest) (d : Conn) →
    b ≤ a →
    placed (at_least a) (p ⊕ node d nil q) ≡ true →
    placed (at_least b) (p ⊕ q) ≡ true
unfolding placed inner seated size
placed_least a b p q d l h =
    let long = size (p ⊕ node d nil q) in
    let s = and_split (ltb a least_factor && ltb long least_factor) _ h in
    let t = and_split (ltb a least_factor) _ s.0 in
    let fewer : size (p ⊕ q) < least_factor = omega (arith, ltb-true long least_factor t.1, size-⊕ p (node d nil q), size-⊕ p q) in
    let asked : b < least_factor = omega (arith, ltb-true a least_factor t.0) in
    and_join (and_join (lt-ltb b least_factor asked) (lt-ltb (size (p ⊕ q)) least_factor fewer)) (members_less p q d s.1)

placed_less : (c : Conn) (p q : Forest) (d : Conn) → placed c (p ⊕ node d nil q) ≡ true → placed c (p ⊕ q) ≡ true
unfolding placed inner seated
placed_less and p q d h = h
placed_less or p q d h = h
placed_less root p q d h = h
placed_less (at_least a) p q d h = placed_least a a p q d (omega arith) h

mentions_assigned : (v : ℕ) (c : Conn) (l : Literal) (f : Forest) → mentions v f ≡ false → mentions v (assigned c l f) ≡ false
unfolding mentions assigned
mentions_assigned v c l nil h = refl
mentions_assigned v c l (lit x f) h =
    let s = or_neither (eqb v (option x)) (mentions v f) h in
    let r = mentions_assigned v c l f s.1 in
    assigned_lit (λ g. mentions v g ≡ false) c l x f (λ e. r) (λ e. r) (λ e o. rw (s.0, r))
mentions_assigned v c l (node d k f) h =
    let s = or_neither (mentions v k) (mentions v f) h in
    rw (mentions_assigned v c l k s.0, mentions_assigned v c l f s.1)

constant_member : (c : Conn) (f : Forest) → placed c nil ≡ true → grouping c ≡ true → members f ≡ true → members (node c nil f) ≡ true
unfolding members placed inner seated same_conn grouping conn_kind size
constant_member and f p g h = h
constant_member or f p g h = h
constant_member root f p g h = true_false (sym p)
constant_member (at_least a) f p g h = true_false (sym g)

members_assigned : (c : Conn) (l : Literal) (f : Forest) → members f ≡ true → members (assigned c l f) ≡ true
unfolding members assigned
members_assigned c l nil h = refl
members_assigned c l (lit x f) h =
    let s = and_split (not (mentions (option x) f)) (members f) h in
    let r = members_assigned c l f s.1 in
    let apart = mentions_assigned (option x) c l f (not-true (mentions (option x) f) s.0) in
    assigned_lit (λ g. members g ≡ true) c l x f
    (λ e. constant_member (neutral c) (assigned c l f) (neutral_placed c) (neutral_groups c) r)
    (λ e. constant_member (deciding c) (assigned c l f) (deciding_placed c) (deciding_groups c) r)
    (λ e o. rw (apart, r))
members_assigned c l (node d k f) h =
    let s = and_split ((same_conn and d || same_conn or d) && eqb (size k) 0) (members f) h in
    rw (size_assigned c l k, s.0, members_assigned c l f s.1)

placed_assigned : (d : Conn) (c : Conn) (l : Literal) (k : Forest) → placed d k ≡ true → placed d (assigned c l k) ≡ true
unfolding placed inner seated
placed_assigned and c l k h = h
placed_assigned or c l k h = h
placed_assigned root c l k h = h
placed_assigned (at_least a) c l k h =
    let s = and_split (ltb a least_factor && ltb (size k) least_factor) _ h in
    rw (size_assigned c l k, s.0, members_assigned c l k s.1)

ended_placed : {a : ℕ} {k : Forest} {d : Conn} {m : Forest} → Ended a k d m → placed d m ≡ true
unfolding placed inner seated
ended_placed (none_asked e) = refl
ended_placed (too_many e) = refl
ended_placed (one_asked e) = refl
ended_placed (all_asked e) = refl

-- A node with fine children, which may stand where the node before it stood, and is the root where that was.
pub record FineAgain (n : ℕ) (c : Conn) (k g : Forest) : Type 0 where
  pub conn : Conn
  pub children : Forest
  pub is : g ≡ node conn children nil
  pub fine : fine n children ≡ true
  pub stays : placed c k ≡ true → placed conn children ≡ true
  pub root_stays : c ≡ root → conn ≡ root

module _ (n : ℕ) where
  fine_assigned : (c : Conn) (l : Literal) (f : Forest) → fine n f ≡ true → fine n (assigned c l f) ≡ true
  unfolding fine assigned
  fine_assigned c l nil h = refl
  fine_assigned c l (lit x f) h =
      let s = fine_lit n x f h in
      let r = fine_assigned c l f s.1 in
      assigned_lit (λ g. fine n g ≡ true) c l x f (λ e. rw (neutral_placed c, r)) (λ e. rw (deciding_placed c, r)) (λ e o. rw (s.0, r))
  fine_assigned c l (node d k f) h =
      let s = fine_node n d k f h in
      rw (placed_assigned d c l k s.0, fine_assigned c l k s.1, fine_assigned c l f s.2)

  fine_without : (a : Literal) (f : Forest) → fine n f ≡ true → fine n (without_unit a f) ≡ true
  unfolding fine without_unit pick
  fine_without a nil h = refl
  fine_without a (lit x f) h = let s = fine_lit n x f h in go (same a x) s.0 s.1 (fine_without a f s.1)
    where
      go :
          (b : Bool) →
          ltb (option x) n ≡ true →
          fine n f ≡ true →
          fine n (without_unit a f) ≡ true →
          fine n (pick b f (lit x (without_unit a f))) ≡ true
      go true o h r = h
      go false o h r = rw (o, r)
  fine_without a (node c k f) h = let s = fine_node n c k f h in rw (s.0, s.1, fine_without a f s.2)

  fine_units : (f : Forest) → fine n f ≡ true → fine n (units f) ≡ true
  unfolding fine units
  fine_units nil h = refl
  fine_units (lit x f) h = let s = fine_lit n x f h in rw (s.0, fine_units f s.1)
  fine_units (node c k f) h = fine_units f (fine_node n c k f h).2

  fine_groups : (a : Literal) (f : Forest) → shares a f ≡ true → fine n f ≡ true → fine n (groups_without a f) ≡ true
  unfolding fine groups_without shares placed inner seated
  fine_groups a nil e h = refl
  fine_groups a (lit x f) e h = fine_groups a f e (fine_lit n x f h).1
  fine_groups a (node and k f) e h =
      let s = fine_node n and k f h in
      rw (fine_without a k s.1, fine_groups a f (and_split (has_unit a k) (shares a f) e).1 s.2)
  fine_groups a (node or k f) e h = true_false (sym e)
  fine_groups a (node root k f) e h = true_false (sym e)
  fine_groups a (node (at_least b) k f) e h = true_false (sym e)

  -- A literal that stands among fine trees has an option below n; so has one that all their groups share.
  unit_below : (a : Literal) (f : Forest) → has_unit a f ≡ true → fine n f ≡ true → ltb (option a) n ≡ true
  unfolding has_unit
  unit_below a nil u h = true_false (sym u)
  unit_below a (lit x f) u h =
      let s = fine_lit n x f h in
      ⊎_elim (λ e. rw (same_is a x e) s.0) (λ v. unit_below a f v s.1) (or_split (same a x) (has_unit a f) u)
  unit_below a (node c k f) u h = unit_below a f u (fine_node n c k f h).2

  shared_below : (a : Literal) (f : Forest) → shares a f ≡ true → 1 ≤ groups f → fine n f ≡ true → ltb (option a) n ≡ true
  unfolding shares groups
  shared_below a nil s g h = absurd (omega arith)
  shared_below a (lit x f) s g h = shared_below a f s g (fine_lit n x f h).1
  shared_below a (node and k f) s g h = unit_below a k (and_split (has_unit a k) (shares a f) s).0 (fine_node n and k f h).1
  shared_below a (node or k f) s g h = true_false (sym s)
  shared_below a (node root k f) s g h = true_false (sym s)
  shared_below a (node (at_least b) k f) s g h = true_false (sym s)

  ended_fine : {a : ℕ} {k : Forest} {d : Conn} {m : Forest} → Ended a k d m → fine n k ≡ true → fine n m ≡ true
  unfolding fine
  ended_fine (none_asked e) h = refl
  ended_fine (too_many e) h = refl
  ended_fine (one_asked e) h = h
  ended_fine (all_asked e) h = h

  -- A group with other fine children; and a node that lost a constant.
  regrouped : {c : Conn} {k m g : Forest} → grouping c ≡ true → g ≡ node c m nil → fine n m ≡ true → FineAgain n c k g
  regrouped {c} {k} {m} o r h =
      record { conn = c; children = m; is = r; fine = h; stays = group_placed c k m o; root_stays = λ e. e }

  lessened :
      {c : Conn} {k g : Forest} (p q : Forest) (b d : Conn) →
      k ≡ p ⊕ node d nil q →
      g ≡ node b (p ⊕ q) nil →
      (placed c (p ⊕ node d nil q) ≡ true → placed b (p ⊕ q) ≡ true) →
      (c ≡ root → b ≡ root) →
      fine n k ≡ true →
      FineAgain n c k g
  lessened {c} p q b d e r stays same h =
      let s = fine_split n p _ e h in
      record {
        conn = b;
        children = p ⊕ q;
        is = r;
        fine = rw (fine-⊕, s.0, (fine_node n d nil q s.1).2);
        stays = λ y. stays (rw e at y);
        root_stays = same;
      }

  -- A change leaves a node with other fine children, or, not at the root, just its children.
  pub change_form : {c : Conn} {k g : Forest} → Change c k g → fine n k ≡ true → FineAgain n c k g ⊎ ((c ≡ root → ⊥) × (g ≡ k))
  unfolding fine placed inner seated grouping conn_kind
  change_form {c} (absorbed p q o e t r) h = inl (regrouped o r (rw (deciding_placed c)))
  change_form {c} (omitted p q e r) h = inl (lessened p q c (neutral c) e r (placed_less c p q (neutral c)) (λ y. y) h)
  change_form (unwrapped o d t r) h = inr (d, r)
  change_form {c} (spreaded p q l o d e m r) h =
      let s = fine_split n p _ e h in
      let t = fine_lit n l q s.1 in
      inl (regrouped o r (rw (fine-⊕, fine_assigned c l p s.0, t.0, fine_assigned c l q t.1)))
  change_form {c} (lifted p a b q l o d e r) h =
      let s = fine_split n p _ e h in
      let t = fine_node n and (a ⊕ lit l b) q s.1 in
      let u = fine_split n a (lit l b) refl t.1 in
      let v = fine_lit n l b u.1 in
      inl (regrouped o r (simp (fine-⊕, s.0, t.2, u.0, v.0, v.1)))
  change_form {c} (merged p a q d e r) h =
      let s = fine_split n p _ e h in
      let t = fine_node n and a q s.1 in
      inl (regrouped (ap grouping d) r (simp (fine-⊕, s.0, t.1, t.2)))
  change_form {c} {k} (factored a d s g r) h =
      inl (regrouped (ap grouping d) r (rw (fine-⊕, fine_units k h, shared_below a k s (omega arith) h, fine_groups a k s h)))
  change_form {c} (lowered p q a d e r) h =
      inl (lessened p q (at_least (a - 1)) and e r (λ y. placed_least a (a - 1) p q and (omega arith) (rw d at y)) (λ y. absurd (not_root a (sym d ∙ y))) h)
  change_form {c} {k} (ended a d m t e r) h =
      inl (record { conn = d; children = m; is = r; fine = ended_fine e h; stays = λ y. ended_placed e; root_stays = λ y. absurd (not_root a (sym t ∙ y)) })

  -- So it keeps trees fine below the root, and at the root gives the root again with fine children.
  pub change_fine : {c : Conn} {k g : Forest} → Change c k g → placed c k ≡ true → fine n k ≡ true → fine n g ≡ true
  unfolding fine
  change_fine x d h = ⊎_elim (λ w. rw (w.is, w.stays d, w.fine)) (λ w. rw w.1 h) (change_form x h)

  pub change_root : {k g : Forest} → Change root k g → fine n k ≡ true → (m : Forest) × (g ≡ node root m nil) × (fine n m ≡ true)
  change_root x h =
      ⊎_elim
      (λ w. (w.children, w.is ∙ ap (λ d. node d w.children nil) (w.root_stays refl), w.fine))
      (λ w. absurd (w.0 refl))
      (change_form x h)

-- One tree becomes one tree.
pub change_size : {c : Conn} {k g : Forest} → Change c k g → size g ≡ 1
unfolding size
change_size x = ⊎_elim (λ w. rw w.2) (λ w. rw w.2 w.1) (change_node x)
