-- Laws of tests, and of answers that may be missing: the combinators over Bool and Option that the definitions are written
-- with.
use Rattle.std.specs.Prelude.{Bool, true, false, ◌&&◌, ◌||◌, not, ◌⊎◌, ◌↔◌, ◌≡◌, refl, ℕ}
use Rattle.std.proofs.Common.{inl, inr, sym, arith}
use Rattle.std.proofs.Math.Option.{Option, none, some}
use Rattle.std.proofs.lemmas.Bool.{not-true}
use Rattle.model.specs.Base.{pick, only_if, first_of, is_some, then}

pub true_false : {A : Type 0} → true ≡ false → A
true_false e = let z : ◌≡◌ {A = ℕ} 0 1 = cc in absurd (omega arith)

pub none_some : {A B : Type 0} {a : A} → ◌≡◌ {A = Option A} none (some a) → B
none_some e = let z : ◌≡◌ {A = ℕ} 0 1 = cc in absurd (omega arith)

pub some_inj : {A : Type 0} {a b : A} → ◌≡◌ {A = Option A} (some a) (some b) → a ≡ b
some_inj e = cc

-- Tests.

pub either : (b : Bool) → (b ≡ true) ⊎ (b ≡ false)
either true = inl refl
either false = inr refl

-- What a test decides.
pub by_test : {A : Type 0} (b : Bool) → (b ≡ true) ↔ A → A ⊎ (A → ⊥)
by_test true h = inl (h.0 refl)
by_test false h = inr (λ a. true_false (sym (h.1 a)))

pub and_split : (a b : Bool) → (a && b) ≡ true → (a ≡ true) × (b ≡ true)
and_split true b e = (refl, e)
and_split false b e = true_false (sym e)

pub and_join : {a b : Bool} → a ≡ true → b ≡ true → (a && b) ≡ true
and_join {a} {b} p q = rw (p, q)

-- One test that fails, and two that hold: what is asked of a node, its children and the trees after it.
pub not_and_split : (a b c : Bool) → (not a && b && c) ≡ true → (a ≡ false) × (b ≡ true) × (c ≡ true)
not_and_split a b c e =
    let s = and_split (not a && b) c e in
    let t = and_split (not a) b s.0 in
    (not-true a t.0, t.1, s.1)

pub or_split : (a b : Bool) → (a || b) ≡ true → (a ≡ true) ⊎ (b ≡ true)
or_split true b e = inl refl
or_split false b e = inr e

pub or_left : {a : Bool} (b : Bool) → a ≡ true → (a || b) ≡ true
or_left {a} b p = rw p

pub or_right : (a : Bool) {b : Bool} → b ≡ true → (a || b) ≡ true
or_right true p = refl
or_right false p = p

pub or_neither : (a b : Bool) → (a || b) ≡ false → (a ≡ false) × (b ≡ false)
or_neither true b e = true_false e
or_neither false b e = (refl, e)

pub or_swap : (a b c : Bool) → (a || (b || c)) ≡ (b || (a || c))
or_swap true true c = refl
or_swap true false c = refl
or_swap false b c = refl

-- Two tests that imply one another are one.
pub same_test : (a b : Bool) → (a ≡ true → b ≡ true) → (b ≡ true → a ≡ true) → a ≡ b
same_test true b f g = sym (f refl)
same_test false true f g = g refl
same_test false false f g = refl

-- A test that cannot hold fails.
pub fails_if : (b : Bool) → (b ≡ true → ⊥) → b ≡ false
fails_if true f = absurd (f refl)
fails_if false f = refl

pub pick_true : {A : Type 0} (b : Bool) (x y : A) → b ≡ true → pick b x y ≡ x
unfolding pick
pick_true b x y e = rw e

pub pick_false : {A : Type 0} (b : Bool) (x y : A) → b ≡ false → pick b x y ≡ y
unfolding pick
pick_false b x y e = rw e

-- What holds of both values holds of the one that a test picks.
pub pick_keeps : {A : Type 0} (P : A → Type 0) (b : Bool) {x y : A} → P x → P y → P (pick b x y)
unfolding pick
pick_keeps P true h g = h
pick_keeps P false h g = g

-- Answers that may be missing.

-- An answer that cannot be anything is missing.
pub none_if : {A : Type 0} (o : Option A) → ((a : A) → o ≡ some a → ⊥) → o ≡ none
none_if none h = refl
none_if (some a) h = absurd (h a refl)

pub is_some_of : {A : Type 0} (o : Option A) → is_some o ≡ true → (a : A) × (o ≡ some a)
unfolding is_some
is_some_of none e = true_false (sym e)
is_some_of (some a) e = (a, refl)

pub only_some : {A : Type 0} (b : Bool) (a : A) {x : A} → only_if b a ≡ some x → (b ≡ true) × (a ≡ x)
unfolding only_if
only_some true a e = (refl, some_inj e)
only_some false a e = none_some e

pub only_true : {A : Type 0} (b : Bool) (a : A) → b ≡ true → only_if b a ≡ some a
unfolding only_if
only_true b a e = rw e

pub only_none : {A : Type 0} (b : Bool) (a : A) → only_if b a ≡ none → b ≡ false
unfolding only_if
only_none true a e = none_some (sym e)
only_none false a e = refl

pub is_some_only : {A : Type 0} (b : Bool) (a : A) → is_some (only_if b a) ≡ b
unfolding only_if is_some
is_some_only true a = refl
is_some_only false a = refl

pub is_some_then : {A B : Type 0} (o : Option A) (f : A → B) → is_some (then o (λ a. some (f a))) ≡ is_some o
unfolding then is_some
is_some_then none f = refl
is_some_then (some a) f = refl

pub is_some_first : {A B : Type 0} (o : Option A) (f : A → Option B) → is_some (then o f) ≡ true → is_some o ≡ true
unfolding then is_some
is_some_first none f e = e
is_some_first (some a) f e = refl

pub is_some_none : {A : Type 0} (o : Option A) {B : Type 0} (b : B) → (only_if (is_some o) b ≡ none) ↔ (o ≡ none)
unfolding only_if is_some
is_some_none none b = ((λ e. refl), λ e. refl)
is_some_none (some a) b = ((λ e. none_some (sym e)), λ e. none_some (sym e))

pub then_some : {A B : Type 0} (o : Option A) (f : A → Option B) {y : B} → then o f ≡ some y → (x : A) × (o ≡ some x) × (f x ≡ some y)
unfolding then
then_some none f e = none_some e
then_some (some a) f e = (a, refl, e)

pub only_then : {A B : Type 0} (b : Bool) (a : A) (f : A → Option B) {y : B} → then (only_if b a) f ≡ some y → (b ≡ true) × (f a ≡ some y)
unfolding then only_if
only_then true a f e = (refl, e)
only_then false a f e = none_some e

-- What is made of an answer in any case is missing only where the answer is.
pub then_none : {A B : Type 0} (o : Option A) (f : A → B) → (then o (λ a. some (f a)) ≡ none) ↔ (o ≡ none)
unfolding then
then_none none f = ((λ e. refl), λ e. refl)
then_none (some a) f = ((λ e. none_some (sym e)), λ e. none_some (sym e))

pub then_then_none :
    {A B C : Type 0} (o : Option A) (t : A → Option B) (f : B → C) →
    then o (λ x. then (t x) (λ y. some (f y))) ≡ none →
    then o t ≡ none
unfolding then
then_then_none none t f e = refl
then_then_none (some a) t f e = (then_none (t a) f).0 e

pub pick_some : {A : Type 0} (b : Bool) (a : A) (o : Option A) {x : A} → pick b (some a) o ≡ some x →
    ((b ≡ true) × (a ≡ x)) ⊎ ((b ≡ false) × (o ≡ some x))
unfolding pick
pick_some true a o e = inl (refl, some_inj e)
pick_some false a o e = inr (refl, e)

pub pick_none : {A : Type 0} (b : Bool) (a : A) (o : Option A) → pick b (some a) o ≡ none → (b ≡ false) × (o ≡ none)
unfolding pick
pick_none true a o e = none_some (sym e)
pick_none false a o e = (refl, e)

pub first_some : {A : Type 0} (a b : Option A) {x : A} → first_of a b ≡ some x → (a ≡ some x) ⊎ (b ≡ some x)
unfolding first_of
first_some none b e = inr e
first_some (some a) b e = inl e

pub first_none : {A : Type 0} (a b : Option A) → first_of a b ≡ none → (a ≡ none) × (b ≡ none)
unfolding first_of
first_none none b e = (refl, e)
first_none (some a) b e = none_some (sym e)

-- A chain of refusals is none where none of them is due.
pub none_due : {A : Type 0} (b : Bool) (a : A) (o : Option A) → first_of (only_if b a) o ≡ none → (b ≡ false) × (o ≡ none)
none_due b a o e = let s = first_none (only_if b a) o e in (only_none b a s.0, s.1)
