-- Where literals and groups stand in a forest: at any depth, and at which index among the trees themselves.
use Rattle.std.specs.Prelude.{Bool, true, false, ◌||◌, ◌≡◌, refl, ℕ, suc, ◌≤◌, eqb}
use Rattle.std.proofs.Math.Bool.{or_assoc}
use Rattle.std.proofs.Common.{⊎_elim, sym, ap, arith, eq-eqb}
use Rattle.std.proofs.Math.Option.{some}
use Rattle.model.specs.Literal.{Literal, option, same}
use Rattle.model.specs.Forest.{and, or, root, at_least, Forest, nil, lit, node, ◌⊕◌, first, after, literal_at, conjunction_at}
use Rattle.model.specs.Forest.{literals_only, has_unit, mentions}
use Rattle.model.specs.Rules.{shares, groups}
use Rattle.theory_forms.specs.Logic.{true_false, and_split, or_split, or_left, or_right}
use Rattle.theory_forms.specs.Literals.{same_is}

-- The literal itself, not only its option, stands in the trees, at any depth.
unfoldable pub stands : Literal → Forest → Bool
stands l nil = false
stands l (lit x f) = same l x || stands l f
stands l (node c k f) = stands l k || stands l f

pub stands-⊕ : (l : Literal) (f g : Forest) → stands l (f ⊕ g) ≡ (stands l f || stands l g)
unfolding stands ◌⊕◌
stands-⊕ l nil g = refl
stands-⊕ l (lit x f) g = rw (stands-⊕ l f g) (sym (or_assoc (same l x) (stands l f) (stands l g)))
stands-⊕ l (node c k f) g = rw (stands-⊕ l f g) (sym (or_assoc (stands l k) (stands l f) (stands l g)))

pub stands_mentions : (l : Literal) (f : Forest) → stands l f ≡ true → mentions (option l) f ≡ true
unfolding stands mentions
stands_mentions l nil e = true_false (sym e)
stands_mentions l (lit x f) e =
    ⊎_elim
    (λ p. or_left _ (eq-eqb (option l) (option x) (ap option (same_is l x p))))
    (λ p. or_right (eqb (option l) (option x)) (stands_mentions l f p))
    (or_split (same l x) _ e)
stands_mentions l (node c k f) e =
    ⊎_elim
    (λ p. or_left _ (stands_mentions l k p))
    (λ p. or_right (mentions (option l) k) (stands_mentions l f p))
    (or_split (stands l k) _ e)

pub unit_stands : (l : Literal) (f : Forest) → has_unit l f ≡ true → stands l f ≡ true
unfolding has_unit stands
unit_stands l nil e = e
unit_stands l (lit x f) e = ⊎_elim (λ p. or_left _ p) (λ p. or_right (same l x) (unit_stands l f p)) (or_split (same l x) _ e)
unit_stands l (node c k f) e = or_right (stands l k) (unit_stands l f e)

-- The index at which the literal stands first among the trees.
abbrev FirstUnit : Literal → Forest → Type 0
FirstUnit l f = (i : ℕ) × (literal_at (after i f) ≡ some l) × (has_unit l (first i f) ≡ false)

pub unit_index : (l : Literal) (f : Forest) → has_unit l f ≡ true → FirstUnit l f
unfolding has_unit literal_at after first
unit_index l nil e = true_false (sym e)
unit_index l (lit x f) e = go (same l x) refl e (unit_index l f)
  where
    go : (b : Bool) → same l x ≡ b → (b || has_unit l f) ≡ true → (has_unit l f ≡ true → FirstUnit l f) → FirstUnit l (lit x f)
    go true p q h = (0, ap some (sym (same_is l x p)), refl)
    go false p q h = let w = h q in (suc w.0, w.1, rw p w.2)
unit_index l (node c k f) e = let w = unit_index l f e in (suc w.0, w.1, w.2)

-- The index of the first group, where all groups are conjunctions that have the literal.
pub group_index :
    (l : Literal) (f : Forest) →
    shares l f ≡ true →
    1 ≤ groups f →
    (i : ℕ) × (m : Forest) × (conjunction_at (after i f) ≡ some m) × (literals_only (first i f) ≡ true) × (has_unit l m ≡ true)
unfolding shares groups conjunction_at after first literals_only
group_index l nil e n = absurd (omega arith)
group_index l (lit x f) e n = let w = group_index l f e n in (suc w.0, w.1, w.2, w.3, w.4)
group_index l (node and k f) e n = (0, k, refl, refl, (and_split (has_unit l k) (shares l f) e).0)
group_index l (node or k f) e n = true_false (sym e)
group_index l (node root k f) e n = true_false (sym e)
group_index l (node (at_least b) k f) e n = true_false (sym e)
