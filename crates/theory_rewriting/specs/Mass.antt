-- The mass of trees: a given number for every literal, and for every other node what its connective weighs: 1, or for kind 6 one
-- less than a literal.
use Rattle.std.specs.Prelude.{Bool, true, false, ◌||◌, ◌≡◌, refl, ℕ, ◌+◌, ◌-◌, ◌*◌, ◌≤◌, ◌<◌, eqb}
use Rattle.std.proofs.Common.{⊎_elim, sym, ap₂, ◌∙◌, arith, eqb-true}
use Rattle.model.specs.Base.{pick}
use Rattle.model.specs.Literal.{Literal, complement, option, same}
use Rattle.model.specs.Forest.{Conn, and, or, root, at_least, Forest, nil, lit, node, ◌⊕◌, size, has_unit, mentions}
use Rattle.model.specs.Code.{conn_kind}
use Rattle.model.specs.Rules.{neutral, deciding, assigned, without_unit, shares, units, groups_without, groups}
use Rattle.theory_forms.specs.Logic.{true_false, and_split, or_split, or_left, or_right}
use Rattle.theory_forms.specs.Literals.{is_same, of_option}
use Rattle.theory_forms.specs.Forests.{grouping, neutral_groups, deciding_groups, assigned_lit}

unfoldable pub heft : ℕ → Conn → ℕ
heft u and = 1
heft u or = 1
heft u root = 1
heft u (at_least a) = u - 1

pub heft_group : (u : ℕ) (c : Conn) → grouping c ≡ true → heft u c ≡ 1
unfolding heft grouping conn_kind
heft_group u and g = refl
heft_group u or g = refl
heft_group u root g = refl
heft_group u (at_least a) g = true_false (sym g)

pub heft_some : (u : ℕ) (c : Conn) → 2 ≤ u → 1 ≤ heft u c
unfolding heft
heft_some u and h = omega arith
heft_some u or h = omega arith
heft_some u root h = omega arith
heft_some u (at_least a) h = omega arith

-- Where a literal weighs 2, every other node weighs 1.
pub heft_two : (c : Conn) → heft 2 c ≡ 1
unfolding heft
heft_two and = refl
heft_two or = refl
heft_two root = refl
heft_two (at_least a) = refl

-- The constants that a connective looks for.
pub heft_neutral : (u : ℕ) (c : Conn) → heft u (neutral c) ≡ 1
heft_neutral u c = heft_group u (neutral c) (neutral_groups c)

pub heft_deciding : (u : ℕ) (c : Conn) → heft u (deciding c) ≡ 1
heft_deciding u c = heft_group u (deciding c) (deciding_groups c)

unfoldable pub mass : ℕ → Forest → ℕ
mass u nil = 0
mass u (lit l f) = u + mass u f
mass u (node c k f) = heft u c + (mass u k + mass u f)

pub mass-⊕ : (u : ℕ) (f g : Forest) → mass u (f ⊕ g) ≡ mass u f + mass u g
unfolding mass ◌⊕◌
mass-⊕ u nil g = omega arith
mass-⊕ u (lit l f) g = let h = mass-⊕ u f g in omega arith
mass-⊕ u (node c k f) g = let h = mass-⊕ u f g in omega arith

pub mass_size : (u : ℕ) (f : Forest) → 2 ≤ u → size f ≤ mass u f
unfolding mass size
mass_size u nil h = omega arith
mass_size u (lit l f) h = let r = mass_size u f h in omega arith
mass_size u (node c k f) h = let r = mass_size u f h in omega (arith, heft_some u c h)

-- A constant in place of a literal weighs no more, and less where the option is mentioned at all.
mass_assigned : (u : ℕ) (c : Conn) (l : Literal) (f : Forest) → 1 ≤ u → mass u (assigned c l f) ≤ mass u f
unfolding mass assigned
mass_assigned u c l nil h = omega arith
mass_assigned u c l (lit x f) h =
    let r = mass_assigned u c l f h in
    assigned_lit (λ g. mass u g ≤ u + mass u f) c l x f
    (λ e. omega (arith, heft_neutral u c))
    (λ e. omega (arith, heft_deciding u c))
    (λ e o. omega arith)
mass_assigned u c l (node d k f) h =
    let p = mass_assigned u c l k h in
    let q = mass_assigned u c l f h in
    omega arith

of_mention : (l x : Literal) → eqb (option l) (option x) ≡ true → (same l x || same (complement l) x) ≡ true
of_mention l x e =
    ⊎_elim (λ p. or_left (same (complement l) x) (is_same p)) (λ p. or_right (same l x) (is_same p)) (of_option l x (eqb-true (option l) (option x) e))

pub mass_mentioned :
    (u : ℕ) (c : Conn) (l : Literal) (f : Forest) →
    2 ≤ u →
    mentions (option l) f ≡ true →
    mass u (assigned c l f) < mass u f
unfolding mass assigned mentions
mass_mentioned u c l nil h m = true_false (sym m)
mass_mentioned u c l (lit x f) h m =
    let r = mass_assigned u c l f (omega arith) in
    assigned_lit (λ g. mass u g < u + mass u f) c l x f
    (λ e. omega (arith, heft_neutral u c))
    (λ e. omega (arith, heft_deciding u c))
    (λ e o. ⊎_elim
    (λ v. true_false (sym (of_mention l x v) ∙ ap₂ ◌||◌ e o))
    (λ v. omega (arith, mass_mentioned u c l f h v))
    (or_split (eqb (option l) (option x)) (mentions (option l) f) m))
mass_mentioned u c l (node d k f) h m =
    let p = mass_assigned u c l k (omega arith) in
    let q = mass_assigned u c l f (omega arith) in
    ⊎_elim
    (λ v. omega (arith, mass_mentioned u c l k h v))
    (λ v. omega (arith, mass_mentioned u c l f h v))
    (or_split (mentions (option l) k) (mentions (option l) f) m)

mass_without : (u : ℕ) (a : Literal) (f : Forest) → has_unit a f ≡ true → mass u (without_unit a f) + u ≡ mass u f
unfolding mass without_unit has_unit pick
mass_without u a nil h = true_false (sym h)
mass_without u a (lit x f) h = go (same a x) h (mass_without u a f)
  where
    go :
        (b : Bool) →
        (b || has_unit a f) ≡ true →
        (has_unit a f ≡ true → mass u (without_unit a f) + u ≡ mass u f) →
        mass u (pick b f (lit x (without_unit a f))) + u ≡ u + mass u f
    go true h r = omega arith
    go false h r = let e = r h in omega arith
mass_without u a (node c k f) h = let r = mass_without u a f h in omega arith

-- Units, and groups each without a shared literal, weigh what all weighed less that literal once a group.
pub mass_shared :
    (u : ℕ) (a : Literal) (f : Forest) →
    shares a f ≡ true →
    mass u (units f) + mass u (groups_without a f) + groups f * u ≡ mass u f
unfolding mass heft units groups_without groups shares
mass_shared u a nil s = omega arith
mass_shared u a (lit x f) s = let r = mass_shared u a f s in omega arith
mass_shared u a (node and k f) s =
    let t = and_split (has_unit a k) (shares a f) s in
    let p = mass_without u a k t.0 in
    let q = mass_shared u a f t.1 in
    omega arith
mass_shared u a (node or k f) s = true_false (sym s)
mass_shared u a (node root k f) s = true_false (sym s)
mass_shared u a (node (at_least b) k f) s = true_false (sym s)
