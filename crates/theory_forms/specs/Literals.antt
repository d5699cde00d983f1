-- Laws of literals: the test for the same literal is equality, and `has` is membership.
use Rattle.std.specs.Prelude.{true, false, ◌⊎◌, ◌≡◌, refl}
use mathlib.Core.List.Memᴰ
use mathlib.Core.List.{List, Memᴰ}
use Rattle.std.proofs.Common.{inl, inr, sym, ap, ◌∙◌, eqb-true, eq-eqb}
use Rattle.model.specs.Literal.{Literal, pos, neg, complement, option, same, has}
use Rattle.theory_forms.specs.Logic.{true_false, fails_if, same_test}
use Rattle.theory_forms.specs.Lists.{any_at, any_from}

pub same_is : (a b : Literal) → same a b ≡ true → a ≡ b
unfolding same
same_is (pos v) (pos w) e = ap pos (eqb-true v w e)
same_is (pos v) (neg w) e = true_false (sym e)
same_is (neg v) (pos w) e = true_false (sym e)
same_is (neg v) (neg w) e = ap neg (eqb-true v w e)

pub same_self : (a : Literal) → same a a ≡ true
unfolding same
same_self (pos v) = eq-eqb v v refl
same_self (neg v) = eq-eqb v v refl

pub is_same : {a b : Literal} → a ≡ b → same a b ≡ true
is_same {a} {b} e = ap (same a) (sym e) ∙ same_self a

pub differ : (a b : Literal) → (a ≡ b → ⊥) → same a b ≡ false
differ a b h = fails_if (same a b) (λ e. h (same_is a b e))

pub not_same : {a b : Literal} → same a b ≡ false → a ≡ b → ⊥
not_same e q = true_false (sym (is_same q) ∙ e)

pub complement_twice : (l : Literal) → complement (complement l) ≡ l
unfolding complement
complement_twice (pos v) = refl
complement_twice (neg v) = refl

pub complement_inj : (a b : Literal) → complement a ≡ complement b → a ≡ b
complement_inj a b e = sym (complement_twice a) ∙ ap complement e ∙ complement_twice b

pub complement_other : (l : Literal) → complement l ≡ l → ⊥
unfolding complement same
complement_other l e = go l (is_same e)
  where
    go : (x : Literal) → same (complement x) x ≡ true → ⊥
    go (pos v) h = true_false (sym h)
    go (neg v) h = true_false (sym h)

pub option_complement : (l : Literal) → option (complement l) ≡ option l
unfolding complement option
option_complement (pos v) = refl
option_complement (neg v) = refl

-- A literal of an option is the one or the other.
pub of_option : (a b : Literal) → option a ≡ option b → (a ≡ b) ⊎ (complement a ≡ b)
unfolding complement option
of_option (pos v) (pos w) e = inl (ap pos e)
of_option (pos v) (neg w) e = inr (ap neg e)
of_option (neg v) (pos w) e = inr (ap pos e)
of_option (neg v) (neg w) e = inl (ap neg e)

pub has_mem : (l : Literal) (ls : List Literal) → has l ls ≡ true → Memᴰ l ls
unfolding has
has_mem l ls e = let w = any_at (same l) ls e in Memᴰ.cast (same_is l w.0 w.2) w.1

pub mem_has : {l : Literal} (ls : List Literal) → Memᴰ l ls → has l ls ≡ true
unfolding has
mem_has {l} ls m = any_from (same l) ls m (same_self l)

pub not_has : {l : Literal} {ls : List Literal} → has l ls ≡ false → Memᴰ l ls → ⊥
not_has {l} {ls} e m = true_false (sym (mem_has ls m) ∙ e)

pub same_sym : (a b : Literal) → same a b ≡ same b a
same_sym a b =
    same_test (same a b) (same b a) (λ e. is_same (sym (same_is a b e))) (λ e. is_same (sym (same_is b a e)))
