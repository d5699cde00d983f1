-- Values of literals, and the total of a clause: when it reaches 2, in terms of sets of failed literals.
use Rattle.std.specs.Prelude.{true, false, ◌⊎◌, ◌↔◌, ◌≡◌, ℕ, zero, suc, ◌+◌, ◌≤◌, eqb}
use mathlib.Core.List.Memᴰ
use mathlib.Core.List.{[], ◌∷◌, Memᴰ}
use Rattle.std.proofs.Common.{inl, inr, ◌∙◌}
use Rattle.std.proofs.Math.Logic.{⊎_elim}
use Rattle.std.proofs.Math.Path.{refl, sym}
use native.Mathlib.Omega.{arith}
use borrow.Author.Tests.{eqb-true, eqb-false, eq-eqb}
use Rattle.model.specs.Base.{pick, all}
use Rattle.model.specs.Literal.{Literal, pos, neg, complement, same, has}
use Rattle.model.specs.Clauses.{Clause}
use Rattle.theory_forms.specs.Logic.{true_false, either, fails_if, pick_true, pick_false}
use Rattle.theory_forms.specs.Lists.{all_at, all_from}
use Rattle.theory_forms.specs.Literals.{same_is, not_same, has_mem, not_has}
use Rattle.theory_meaning.specs.Evaluation.{Valuation, value_of, zeros, with_one}
use Rattle.theory_meaning.specs.Clauses.{all_but_one}

-- The sum of the values of a clause's literals, each counted once: "a clause is a set, so duplicates merge".
unfoldable pub total : Valuation → Clause → ℕ
total u [] = 0
total u (l ∷ c) = pick (has l c) (total u c) (value_of u l + total u c)

-- A literal in front of a clause counts unless it stands in the clause already.
data More (u : Valuation) (l : Literal) (c : Clause) : Type 0 where
  again : Memᴰ l c → total u (l ∷ c) ≡ total u c → More u l c
  new : (Memᴰ l c → ⊥) → total u (l ∷ c) ≡ value_of u l + total u c → More u l c

-- One literal of value 1 stands in the clause among others of value 0.
pub record Single (u : Valuation) (c : Clause) : Type 0 where
  pub one : Literal
  pub inside : Memᴰ one c
  pub value : value_of u one ≡ 1
  pub rest : (x : Literal) → Memᴰ x c → (x ≡ one → ⊥) → value_of u x ≡ 0

module _ (u : Valuation) where
  pub value_small : (l : Literal) → value_of u l ≤ 2
  unfolding value_of
  value_small (pos v) = u.small v
  value_small (neg v) = omega arith

  pub value_complement : (l : Literal) → value_of u (complement l) + value_of u l ≡ 2
  unfolding value_of complement
  value_complement (pos v) = let h = u.small v in omega arith
  value_complement (neg v) = let h = u.small v in omega arith

  pub zeros_value : (l : Literal) → (zeros u l ≡ true) ↔ (value_of u l ≡ 0)
  unfolding zeros
  zeros_value l = (eqb-true (value_of u l) 0, eq-eqb (value_of u l) 0)

  more : (l : Literal) (c : Clause) → More u l c
  unfolding total
  more l c =
      ⊎_elim
      (λ e. again (has_mem l c e) (pick_true (has l c) (total u c) (value_of u l + total u c) e))
      (λ e. new (not_has e) (pick_false (has l c) (total u c) (value_of u l + total u c) e))
      (either (has l c))

  -- A literal of the clause counts in its total.
  counted : (c : Clause) (x : Literal) → Memᴰ x c → value_of u x ≤ total u c
  counted [] x m = elim m [ ]
  counted (l ∷ c) x m = go (more l c) (Memᴰ.cases_cons m) (counted c)
    where
      go :
          More u l c →
          (x ≡ l) ⊎ Memᴰ x c →
          ((y : Literal) → Memᴰ y c → value_of u y ≤ total u c) →
          value_of u x ≤ total u (l ∷ c)
      go (again k e) (inl q) r = rw (e, q) (r l k)
      go (again k e) (inr m') r = rw e (r x m')
      go (new n e) (inl q) r = rw (e, q) (omega arith)
      go (new n e) (inr m') r = omega (arith, r x m')

  -- Where all literals have value 0, so has the total; where all but one have, it is at most the value of that one.
  pub total_zero : (c : Clause) → ((x : Literal) → Memᴰ x c → value_of u x ≡ 0) → total u c ≡ 0
  unfolding total
  total_zero [] h = refl
  total_zero (l ∷ c) h = go (more l c) (total_zero c (λ x m. h x (Memᴰ.tail m)))
    where
      go : More u l c → total u c ≡ 0 → total u (l ∷ c) ≡ 0
      go (again k e) r = e ∙ r
      go (new n e) r = omega (arith, h l (Memᴰ.head refl))

  pub total_but_one :
      (m : Literal) (c : Clause) →
      ((x : Literal) → Memᴰ x c → (x ≡ m → ⊥) → value_of u x ≡ 0) →
      total u c ≤ value_of u m
  unfolding total
  total_but_one m [] h = omega arith
  total_but_one m (l ∷ c) h = go (more l c) (either (same l m)) (total_but_one m c (λ x k. h x (Memᴰ.tail k)))
    where
      go : More u l c → (same l m ≡ true) ⊎ (same l m ≡ false) → total u c ≤ value_of u m → total u (l ∷ c) ≤ value_of u m
      go (again k e) d r = rw e r
      go (new n e) (inl q) r =
          let z = total_zero c (λ x k. h x (Memᴰ.tail k) (λ p. n (Memᴰ.cast (same_is l m q ∙ sym p) k))) in
          rw (e, z, same_is l m q) (omega arith)
      go (new n e) (inr q) r = omega (arith, h l (Memᴰ.head refl) (not_same q))

  -- The other way round: a total of 1 is one literal of value 1 among others of value 0.
  total_is_one : (c : Clause) → total u c ≡ 1 → Single u c
  unfolding total
  total_is_one [] e = absurd (omega arith)
  total_is_one (l ∷ c) e = go (more l c) (total_is_one c)
    where
      wider : (w : Single u c) → ((l ≡ w.one → ⊥) → value_of u l ≡ 0) → Single u (l ∷ c)
      wider w h =
          record {
            one = w.one;
            inside = Memᴰ.tail w.inside;
            value = w.value;
            rest = λ x k n. ⊎_elim (λ q. rw q (h (λ p. n (q ∙ p)))) (λ k'. w.rest x k' n) (Memᴰ.cases_cons k);
          }

      alone : value_of u l ≡ 1 → total u c ≡ 0 → Single u (l ∷ c)
      alone v z =
          record {
            one = l;
            inside = Memᴰ.head refl;
            value = v;
            rest = λ x k n. ⊎_elim (λ p. absurd (n p)) (λ k'. omega (arith, counted c x k')) (Memᴰ.cases_cons k);
          }

      go : More u l c → (total u c ≡ 1 → Single u c) → Single u (l ∷ c)
      go (again k q) r = let w = r (sym q ∙ e) in wider w (w.rest l k)
      go (new n q) r =
          ⊎_elim
          (λ h. let z = eqb-true (value_of u l) 0 h in wider (r (omega arith)) (λ n'. z))
          (λ h. let f = eqb-false (value_of u l) 0 h in alone (omega arith) (omega arith))
          (either (eqb (value_of u l) 0))

  -- A total reaches 2 unless all literals have value 0, or all but one that has value 1.
  pub total_two :
      (c : Clause) →
      (((x : Literal) → Memᴰ x c → value_of u x ≡ 0) → ⊥) →
      (Single u c → ⊥) →
      2 ≤ total u c
  total_two c all_zero single = go (total u c) refl
    where
      go : (t : ℕ) → total u c ≡ t → 2 ≤ t
      go zero e = absurd (all_zero (λ x k. omega (arith, counted c x k)))
      go (suc zero) e = absurd (single (total_is_one c e))
      go (suc (suc t)) e = omega arith

  -- A clause lies inside the literals of value 0, or inside those with one literal more.
  inside_zeros : (c : Clause) → (all (zeros u) c ≡ true) ↔ ((x : Literal) → Memᴰ x c → value_of u x ≡ 0)
  inside_zeros c = (
    λ e x k. (zeros_value x).0 (all_at (zeros u) c e k),
    λ h. all_from (zeros u) c (λ x k. (zeros_value x).1 (h x k)),
  )

  inside_with_one :
      (m : Literal) (c : Clause) →
      (all (with_one (zeros u) m) c ≡ true) ↔ ((x : Literal) → Memᴰ x c → (x ≡ m → ⊥) → value_of u x ≡ 0)
  inside_with_one m c = (
    λ e x k n. (zeros_value x).0 ((all_but_one (zeros u) m c).0 e x k n),
    λ h. (all_but_one (zeros u) m c).1 (λ x k n. (zeros_value x).1 (h x k n)),
  )

  -- A clause is satisfied, its total at least 2, exactly where it lies neither inside the literals of value 0 nor inside
  -- those with one of value 1.
  pub clause_satisfied :
      (c : Clause) →
      (2 ≤ total u c) ↔ ((all (zeros u) c ≡ false) × ((m : Literal) → value_of u m ≡ 1 → all (with_one (zeros u) m) c ≡ false))
  clause_satisfied c = (
    λ h. (
      fails_if (all (zeros u) c) (λ e. omega (arith, total_zero c ((inside_zeros c).0 e))),
      λ m v. fails_if (all (with_one (zeros u) m) c) (λ e. omega (arith, total_but_one m c ((inside_with_one m c).0 e))),
    ),
    λ w.
        total_two c (λ h. true_false (sym ((inside_zeros c).1 h) ∙ w.0))
        (λ t. true_false (sym ((inside_with_one t.one c).1 t.rest) ∙ w.1 t.one t.value)),
  )
