-- No rule makes an option occur that did not.
use Rattle.std.specs.Prelude.{Bool, ◌||◌, ◌≡◌, ℕ, ◌-◌, ◌≤◌, eqb}
use Rattle.std.proofs.Math.Bool.{true, false, or-false}
use Rattle.std.proofs.Common.{⊎_elim, sym, ap, ◌∙◌, arith, eqb-true}
use Rattle.model.specs.Base.{pick}
use Rattle.model.specs.Literal.{Literal, option, same}
use Rattle.model.specs.Forest.{Conn, and, or, root, at_least, Forest, nil, lit, node, ◌⊕◌, has_unit, mentions}
use Rattle.model.specs.Rules.{neutral, assigned, without_unit, shares, units, groups_without, groups}
use Rattle.theory_forms.specs.Logic.{true_false, and_split, or_split, or_left, or_right}
use Rattle.theory_forms.specs.Forests.{mentions-⊕, unit_mentions, assigned_lit}
use Rattle.theory_forms.specs.Ended.{Ended, none_asked, too_many, one_asked, all_asked}
use Rattle.theory_rewriting.specs.Changes.{Change, absorbed, omitted, unwrapped, spreaded, lifted, merged, factored, lowered, ended}

-- Every option that the second forest mentions, the first does.
abbrev pub Covers : Forest → Forest → Type 0
Covers f g = (v : ℕ) → mentions v g ≡ true → mentions v f ≡ true

either_way : (a b : Bool) {C : Type 0} → (a ≡ true → C) → (b ≡ true → C) → (a || b) ≡ true → C
either_way a b f g e = ⊎_elim f g (or_split a b e)

-- One test or the other, and what follows from each; the first is kept.
pub both_ways : (a b c d : Bool) → (a ≡ true → c ≡ true) → (b ≡ true → d ≡ true) → (a || b) ≡ true → (c || d) ≡ true
both_ways a b c d f g e = either_way a b (λ h. or_left d (f h)) (λ h. or_right c (g h)) e

pub keep_first : (a b c : Bool) → (b ≡ true → c ≡ true) → (a || b) ≡ true → (a || c) ≡ true
keep_first a b c g e = both_ways a b a c (λ h. h) g e

drop_last : (a : Bool) → (a || false) ≡ true → a ≡ true
drop_last a e = sym (or-false a) ∙ e

module _ (v : ℕ) where
  in_first : (f g : Forest) → mentions v f ≡ true → mentions v (f ⊕ g) ≡ true
  in_first f g e = mentions-⊕ v f g ∙ or_left (mentions v g) e

  in_second : (f g : Forest) → mentions v g ≡ true → mentions v (f ⊕ g) ≡ true
  in_second f g e = mentions-⊕ v f g ∙ or_right (mentions v f) e

  from_either : (f g : Forest) {C : Type 0} → (mentions v f ≡ true → C) → (mentions v g ≡ true → C) → mentions v (f ⊕ g) ≡ true → C
  from_either f g a b e = either_way (mentions v f) (mentions v g) a b (sym (mentions-⊕ v f g) ∙ e)

  -- Beside the same trees.
  beside : (p f g : Forest) → (mentions v g ≡ true → mentions v f ≡ true) → mentions v (p ⊕ g) ≡ true → mentions v (p ⊕ f) ≡ true
  beside p f g h e = from_either p g (in_first p f) (λ m. in_second p f (h m)) e

  -- What assignment, and the parts of rule 14, mention.
  assigned_mentions : (c : Conn) (l : Literal) (f : Forest) → mentions v (assigned c l f) ≡ true → mentions v f ≡ true
  unfolding mentions assigned
  assigned_mentions c l nil e = e
  assigned_mentions c l (lit x f) e =
      let r = assigned_mentions c l f in
      assigned_lit (λ g. mentions v g ≡ true → (eqb v (option x) || mentions v f) ≡ true) c l x f (λ s m. or_right (eqb v (option x)) (r m)) (λ s m. or_right (eqb v (option x)) (r m)) (λ s o m. keep_first (eqb v (option x)) (mentions v (assigned c l f)) (mentions v f) r m) e
  assigned_mentions c l (node d k f) e = both_ways (mentions v (assigned c l k)) (mentions v (assigned c l f)) (mentions v k) (mentions v f) (assigned_mentions c l k) (assigned_mentions c l f) e

  units_mentions : (f : Forest) → mentions v (units f) ≡ true → mentions v f ≡ true
  unfolding mentions units
  units_mentions nil e = e
  units_mentions (lit x f) e = keep_first (eqb v (option x)) (mentions v (units f)) (mentions v f) (units_mentions f) e
  units_mentions (node c k f) e = or_right (mentions v k) (units_mentions f e)

  without_mentions : (a : Literal) (f : Forest) → mentions v (without_unit a f) ≡ true → mentions v f ≡ true
  unfolding mentions without_unit pick
  without_mentions a nil e = e
  without_mentions a (lit x f) e = go (same a x) e (without_mentions a f)
    where
      go :
          (b : Bool) →
          mentions v (pick b f (lit x (without_unit a f))) ≡ true →
          (mentions v (without_unit a f) ≡ true → mentions v f ≡ true) →
          (eqb v (option x) || mentions v f) ≡ true
      go true m r = or_right (eqb v (option x)) m
      go false m r = keep_first (eqb v (option x)) (mentions v (without_unit a f)) (mentions v f) r m
  without_mentions a (node c k f) e = keep_first (mentions v k) (mentions v (without_unit a f)) (mentions v f) (without_mentions a f) e

  groups_mentions : (a : Literal) (f : Forest) → mentions v (groups_without a f) ≡ true → mentions v f ≡ true
  unfolding mentions groups_without
  groups_mentions a nil e = e
  groups_mentions a (lit x f) e = or_right (eqb v (option x)) (groups_mentions a f e)
  groups_mentions a (node c k f) e = both_ways (mentions v (without_unit a k)) (mentions v (groups_without a f)) (mentions v k) (mentions v f) (without_mentions a k) (groups_mentions a f) e

-- A literal that all the groups of trees share is mentioned.
shared_mentioned : (a : Literal) (f : Forest) → shares a f ≡ true → 1 ≤ groups f → mentions (option a) f ≡ true
unfolding shares groups mentions
shared_mentioned a nil s g = absurd (omega arith)
shared_mentioned a (lit x f) s g = or_right (eqb (option a) (option x)) (shared_mentioned a f s g)
shared_mentioned a (node and k f) s g =
    or_left (mentions (option a) f) (unit_mentions a k (and_split (has_unit a k) (shares a f) s).0)
shared_mentioned a (node or k f) s g = true_false (sym s)
shared_mentioned a (node root k f) s g = true_false (sym s)
shared_mentioned a (node (at_least b) k f) s g = true_false (sym s)

-- A node without one of its constants, and one that rule 16 or 17 ended.
less_covers : {k g : Forest} (p q : Forest) (b d : Conn) → k ≡ p ⊕ node d nil q → g ≡ node b (p ⊕ q) nil → Covers k g
unfolding mentions
less_covers p q b d e r v m =
    let h = drop_last (mentions v (p ⊕ q)) (rw r at m) in rw e (beside v p (node d nil q) q (λ t. t) h)

ended_covers : {a : ℕ} {k m : Forest} {d : Conn} → Ended a k d m → Covers k m
unfolding mentions
ended_covers (none_asked e) v h = true_false (sym h)
ended_covers (too_many e) v h = true_false (sym h)
ended_covers (one_asked e) v h = h
ended_covers (all_asked e) v h = h

-- The new tree mentions only what the old one did.
pub change_covers : {c : Conn} {k g : Forest} → Change c k g → Covers k g
unfolding mentions
change_covers (absorbed p q o e n r) v m = true_false (sym (sym (ap (mentions v) r) ∙ m))
change_covers {c} (omitted p q e r) v m = less_covers p q c (neutral c) e r v m
change_covers (unwrapped o n e r) v m = rw r at m
change_covers {c} (spreaded p q l o n e t r) v m =
    let h = drop_last (mentions v (assigned c l p ⊕ lit l (assigned c l q))) (rw r at m) in
    rw e
    (from_either v (assigned c l p) (lit l (assigned c l q))
    (λ t. in_first v p (lit l q) (assigned_mentions v c l p t))
    (λ t. in_second v p (lit l q) (keep_first (eqb v (option l)) (mentions v (assigned c l q)) (mentions v q) (assigned_mentions v c l q) t))
    h)
change_covers (lifted p a b q l o n e r) v m =
    let h = drop_last (mentions v (p ⊕ lit l (node and (a ⊕ b) q))) (rw r at m) in
    let out : mentions v (lit l (node and (a ⊕ b) q)) ≡ true → mentions v (node and (a ⊕ lit l b) q) ≡ true =
    λ t. either_way (eqb v (option l)) (mentions v (a ⊕ b) || mentions v q)
    (λ u. or_left (mentions v q) (in_second v a (lit l b) (or_left (mentions v b) u)))
    (λ u. both_ways (mentions v (a ⊕ b)) (mentions v q) (mentions v (a ⊕ lit l b)) (mentions v q) (λ w. beside v a (lit l b) b (λ z. or_right (eqb v (option l)) z) w) (λ w. w) u)
    t in
    rw e (beside v p (node and (a ⊕ lit l b) q) (lit l (node and (a ⊕ b) q)) out h)
change_covers (merged p a q n e r) v m =
    let h = drop_last (mentions v (p ⊕ a ⊕ q)) (rw r at m) in
    rw e (beside v p (node and a q) (a ⊕ q) (λ t. sym (mentions-⊕ v a q) ∙ t) h)
change_covers {k = k} (factored a n s t r) v m =
    let inner = node and (lit a (node or (groups_without a k) nil)) nil in
    let h = drop_last (mentions v (units k ⊕ inner)) (rw r at m) in
    let one : 1 ≤ groups k = omega arith in
    from_either v (units k) inner (units_mentions v k)
    (λ u. either_way (eqb v (option a)) (mentions v (groups_without a k) || false)
    (λ w. rw (eqb-true v (option a) w) (shared_mentioned a k s one))
    (λ w. groups_mentions v a k (drop_last (mentions v (groups_without a k)) w))
    (drop_last (eqb v (option a) || (mentions v (groups_without a k) || false)) u))
    h
change_covers (lowered p q a n e r) v m = less_covers p q (at_least (a - 1)) and e r v m
change_covers (ended a d b n e r) v m = ended_covers e v (drop_last (mentions v b) (rw r at m))
