-- Propagation is exact: facts that are sound and closed are the derived literals, and propagation arrives at such facts.
use Rattle.std.specs.Prelude.{Bool, true, false, ◌&&◌, ◌||◌, not, ◌⊎◌, ◌↔◌, ◌≡◌, ℕ, zero, suc, ◌+◌, ◌≤◌, length}
use mathlib.Core.List.{List, [], ◌∷◌, flatten, Memᴰ}
use Rattle.std.proofs.Common.{inl, inr, sym, ap, ◌∙◌, arith}
use Rattle.std.proofs.Math.Logic.{⊎_elim}
use Rattle.std.proofs.Math.Option.{Option, none, some}
use Rattle.std.proofs.Math.Path.{refl}
use Rattle.std.proofs.lemmas.Bool.{not-true}
use Rattle.model.specs.Base.{pick, only_if, maybe, any}
use Rattle.model.specs.Literal.{Literal, complement, same, has}
use Rattle.model.specs.Clauses.{Clause, Derived, derived, Contradictory}
use Rattle.model.specs.Propagation.{others, refuted, forced_in, forced, propagate, facts_of, conflict}
use Rattle.theory_forms.specs.Logic.{true_false, none_some, either, and_split, or_split, only_some, first_some, first_none, only_none, by_test}
use Rattle.theory_forms.specs.Lists.{all_at, all_from, any_at, any_from, mem_flatten}
use Rattle.theory_forms.specs.Literals.{same_is, not_same, mem_has, same_sym}
use Rattle.theory_meaning.specs.Clauses.{all_others, all_but_one}

-- The other literals of a clause are refuted.
pub refuted_others :
    (facts : List Literal) (l : Literal) (c : Clause) →
    (refuted facts (others l c) ≡ true) ↔ ((x : Literal) → Memᴰ x c → (x ≡ l → ⊥) → has (complement x) facts ≡ true)
unfolding refuted
refuted_others facts l c = rw (all_others (λ x. has (complement x) facts) l c) (all_but_one (λ x. has (complement x) facts) l c)

-- Facts are sound where each is derived, and saturated where moreover no clause forces another.
abbrev pub Sound : List Clause → List Literal → Type 0
Sound cs facts = (l : Literal) → has l facts ≡ true → Derived cs l

pub record Saturated (cs : List Clause) (facts : List Literal) : Type 0 where
  pub sound : Sound cs facts
  pub closed : (c : Clause) → Memᴰ c cs → (l : Literal) → Memᴰ l c → refuted facts (others l c) ≡ true → has l facts ≡ true

module _ {cs : List Clause} {facts : List Literal} (s : Saturated cs facts) where
  -- Every derived literal is among saturated facts.
  complete : {l : Literal} → Derived cs l → has l facts ≡ true
  complete {l} (derived c m k h) = s.closed c m l k ((refuted_others facts l c).1 (λ x k' n. complete (h x k' n)))

  -- Saturated facts are exactly the derived literals.
  pub exact_derived : (l : Literal) → (has l facts ≡ true) ↔ Derived cs l
  exact_derived l = (s.sound l, complete)

  -- A conflict with saturated facts is exactly a contradiction.
  pub exact_contradictory : (conflict facts cs ≡ true) ↔ Contradictory cs
  unfolding conflict refuted
  exact_contradictory = (λ e. there (any_at (refuted facts) cs e), λ w. any_from (refuted facts) cs w.1 (all_from (λ x. has (complement x) facts) w.0 (λ x m. complete (w.2 x m))))
    where
      there : (c : Clause) × Memᴰ c cs × (refuted facts c ≡ true) → Contradictory cs
      there w = (w.0, w.1, λ x m. s.sound (complement x) (all_at (λ y. has (complement y) facts) w.0 w.2 m))

-- Without a contradiction no literal is derived together with its complement.
pub consistent : {cs : List Clause} → (Contradictory cs → ⊥) → (l : Literal) → Derived cs l → Derived cs (complement l) → ⊥
consistent {cs} n l (derived c m k h) d = n (c, m, λ x k'. ⊎_elim (λ e. rw (same_is x l e) d) (λ e. h x k' (not_same e)) (either (same x l)))

-- A clause forces a literal that is no fact yet.
abbrev forces : List Literal → Clause → Literal → Bool
forces facts c l = not (has l facts) && refuted facts (others l c)

module _ (facts : List Literal) where
  -- A forced literal that the search finds is one; where it finds none there is none.
  forced_in_some : (c ls : Clause) {l : Literal} → forced_in facts c ls ≡ some l → Memᴰ l ls × (forces facts c l ≡ true)
  unfolding forced_in
  forced_in_some c [] e = none_some e
  forced_in_some c (y ∷ ls) {l} e = go (first_some (only_if (forces facts c y) y) (forced_in facts c ls) e) (forced_in_some c ls)
    where
      go :
          (only_if (forces facts c y) y ≡ some l) ⊎ (forced_in facts c ls ≡ some l) →
          (forced_in facts c ls ≡ some l → Memᴰ l ls × (forces facts c l ≡ true)) →
          Memᴰ l (y ∷ ls) × (forces facts c l ≡ true)
      go (inl q) h = let w = only_some (forces facts c y) y q in (Memᴰ.head (sym w.1), rw w.1 at w.0)
      go (inr q) h = (Memᴰ.tail (h q).0, (h q).1)

  forced_in_none : (c ls : Clause) {l : Literal} → forced_in facts c ls ≡ none → Memᴰ l ls → forces facts c l ≡ false
  unfolding forced_in
  forced_in_none c [] {l = l} e x'' = elim x'' [ ]
  forced_in_none c (y ∷ ls) {l} e (Memᴰ.head q) = rw q (only_none (forces facts c y) y (first_none (only_if (forces facts c y) y) (forced_in facts c ls) e).0)
  forced_in_none c (y ∷ ls) e (Memᴰ.tail m) = forced_in_none c ls (first_none (only_if (forces facts c y) y) (forced_in facts c ls) e).1 m

  forced_some :
      (cs : List Clause) {l : Literal} →
      forced facts cs ≡ some l →
      (c : Clause) × Memᴰ c cs × Memᴰ l c × (forces facts c l ≡ true)
  unfolding forced
  forced_some [] e = none_some e
  forced_some (d ∷ cs) {l} e = go (first_some (forced_in facts d d) (forced facts cs) e) (forced_some cs)
    where
      go :
          (forced_in facts d d ≡ some l) ⊎ (forced facts cs ≡ some l) →
          (forced facts cs ≡ some l → (c : Clause) × Memᴰ c cs × Memᴰ l c × (forces facts c l ≡ true)) →
          (c : Clause) × Memᴰ c (d ∷ cs) × Memᴰ l c × (forces facts c l ≡ true)
      go (inl q) h = let w = forced_in_some d d q in (d, Memᴰ.head refl, w.0, w.1)
      go (inr q) h = let w = h q in (w.0, Memᴰ.tail w.1, w.2, w.3)

  forced_none :
      (cs : List Clause) {c : Clause} {l : Literal} →
      forced facts cs ≡ none →
      Memᴰ c cs →
      Memᴰ l c →
      forces facts c l ≡ false
  unfolding forced
  forced_none [] {c = c} {l = l} e x3 k = elim x3 [ ]
  forced_none (d ∷ cs) {c} e (Memᴰ.head q) k = forced_in_none c c (rw q (first_none (forced_in facts d d) (forced facts cs) e).0) k
  forced_none (d ∷ cs) e (Memᴰ.tail m) k = forced_none cs (first_none (forced_in facts d d) (forced facts cs) e).1 m k

-- The literals of a list, each place counted, that are no facts.
missing : List Literal → List Literal → ℕ
missing facts [] = zero
missing facts (x ∷ ls) = pick (has x facts) (missing facts ls) (suc (missing facts ls))

missing_few : (facts ls : List Literal) → missing facts ls ≤ length ls
unfolding missing pick
missing_few facts [] = omega arith
missing_few facts (x ∷ ls) = go (has x facts) (missing_few facts ls)
  where
    go : (b : Bool) → missing facts ls ≤ length ls → pick b (missing facts ls) (suc (missing facts ls)) ≤ suc (length ls)
    go true h = omega arith
    go false h = omega arith

-- A new fact that stands in the list leaves fewer missing.
missing_fewer :
    (facts ls : List Literal) (l : Literal) →
    has l facts ≡ false →
    missing (l ∷ facts) ls + pick (has l ls) 1 0 ≤ missing facts ls
unfolding missing pick has any
missing_fewer facts [] l f = omega arith
missing_fewer facts (x ∷ ls) l f = rw (same_sym l x) (go (same x l) refl (has x facts) refl (missing_fewer facts ls l f))
  where
    go :
        (b : Bool) →
        same x l ≡ b →
        (h : Bool) →
        has x facts ≡ h →
        missing (l ∷ facts) ls + pick (has l ls) 1 0 ≤ missing facts ls →
        pick (b || h) (missing (l ∷ facts) ls) (suc (missing (l ∷ facts) ls)) + pick (b || has l ls) 1 0 ≤ pick h (missing facts ls) (suc (missing facts ls))
    go true e true g r = true_false (sym g ∙ ap (λ y. has y facts) (same_is x l e) ∙ f)
    go true e false g r = omega arith
    go false e true g r = r
    go false e false g r = omega arith

module _ (cs : List Clause) (facts : List Literal) (s : Sound cs facts) where
  -- Where nothing is forced, sound facts are saturated.
  at_rest : forced facts cs ≡ none → Saturated cs facts
  at_rest e = record { sound = s; closed = λ c m l k r. go (has l facts) (refuted facts (others l c)) r (forced_none facts cs e m k) }
    where
      go : (h b : Bool) → b ≡ true → (not h && b) ≡ false → h ≡ true
      go true b p q = refl
      go false b p q = true_false (sym p ∙ q)

  -- A forced literal is derived, and leaves fewer missing.
  forced_more :
      (l : Literal) →
      forced facts cs ≡ some l →
      Sound cs (l ∷ facts) × (missing (l ∷ facts) (flatten cs) + 1 ≤ missing facts (flatten cs))
  unfolding has any pick
  forced_more l e =
      let w = forced_some facts cs e in
      let t = and_split (not (has l facts)) (refuted facts (others l w.0)) w.3 in
      let d : Derived cs l = derived w.0 w.1 w.2 (λ x k n. s (complement x) ((refuted_others facts l w.0).0 t.1 x k n)) in (
        λ x h. ⊎_elim (λ q. rw (same_is x l q) d) (s x) (or_split (same x l) (has x facts) h),
        rw (mem_has (flatten cs) (mem_flatten cs w.1 w.2)) at (missing_fewer facts (flatten cs) l (not-true (has l facts) t.0)),
      )

-- Rounds enough for all that is missing saturate sound facts.
saturate :
    (n : ℕ) (cs : List Clause) (facts : List Literal) →
    Sound cs facts →
    missing facts (flatten cs) ≤ n →
    Saturated cs (propagate n cs facts)
unfolding propagate maybe
saturate zero cs facts s h = go (forced facts cs) refl
  where
    go : (o : Option Literal) → forced facts cs ≡ o → Saturated cs facts
    go none e = at_rest cs facts s e
    go (some l) e = let fewer = (forced_more cs facts s l e).1 in absurd (omega arith)
saturate (suc n) cs facts s h = go (forced facts cs) refl (λ l. saturate n cs (l ∷ facts))
  where
    go :
        (o : Option Literal) →
        forced facts cs ≡ o →
        ((l : Literal) → Sound cs (l ∷ facts) → missing (l ∷ facts) (flatten cs) ≤ n → Saturated cs (propagate n cs (l ∷ facts))) →
        Saturated cs (maybe facts (λ l. propagate n cs (l ∷ facts)) o)
    go none e more = at_rest cs facts s e
    go (some l) e more = let w = forced_more cs facts s l e in let fewer = w.1 in more l w.0 (omega arith)

-- Propagation arrives at saturated facts.
pub facts_saturated : (cs : List Clause) → Saturated cs (facts_of cs)
unfolding facts_of has any
facts_saturated cs = saturate (length (flatten cs)) cs [] (λ l e. true_false (sym e)) (missing_few [] (flatten cs))

-- The facts that propagation computes are exactly the derived literals, and its conflict exactly a contradiction.
pub facts_derived : (cs : List Clause) (l : Literal) → (has l (facts_of cs) ≡ true) ↔ Derived cs l
facts_derived cs = exact_derived (facts_saturated cs)

pub facts_contradictory : (cs : List Clause) → (conflict (facts_of cs) cs ≡ true) ↔ Contradictory cs
facts_contradictory cs = exact_contradictory (facts_saturated cs)

-- So both are decided.
pub derived_or_not : (cs : List Clause) (l : Literal) → Derived cs l ⊎ (Derived cs l → ⊥)
derived_or_not cs l = by_test (has l (facts_of cs)) (facts_derived cs l)

pub contradictory_or_not : (cs : List Clause) → Contradictory cs ⊎ (Contradictory cs → ⊥)
contradictory_or_not cs = by_test (conflict (facts_of cs) cs) (facts_contradictory cs)
