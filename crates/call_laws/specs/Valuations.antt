-- Valuations that satisfy every clause: what is derived is what has value 2 in each of them, so lists of clauses with the
-- same models have the same report.
use Rattle.std.specs.Prelude.{Bool, ◌⊎◌, ◌↔◌, ◌≡◌, ℕ, ◌-◌, ◌≤◌}
use Rattle.std.proofs.Math.Bool.{true, false}
use mathlib.Core.List.Memᴰ
use mathlib.Core.List.{List, ◌++◌, Memᴰ}
use Rattle.std.proofs.Math.Logic.{inl, inr, ⊎_elim}
use mathlib.Core.Logic.Iff
use Rattle.std.proofs.Math.Path.{refl}
use Rattle.std.proofs.Common.{sym, ap, ◌∙◌, subst, arith}
use Rattle.model.specs.Base.{pick, all}
use Rattle.model.specs.Literal.{Literal, pos, neg, complement, same, has}
use Rattle.model.specs.Forest.{Conn, Forest}
use Rattle.model.specs.Clauses.{Clause, clauses, Derived, derived, Contradictory}
use Rattle.model.specs.Propagation.{facts_of, report}
use Rattle.theory_forms.specs.Logic.{fails_if, or_split}
use Rattle.theory_forms.specs.Lists.{any_none}
use Rattle.theory_forms.specs.Literals.{same_is, complement_other}
use Rattle.theory_meaning.specs.Evaluation.{Set, some_inside, bridge, Valuation, value_of, zeros, with_one, Holds}
use Rattle.theory_meaning.specs.Exact.{facts_derived, consistent, contradictory_or_not}
use Rattle.theory_meaning.specs.ExactReports.{tells_same}
use Rattle.call_laws.specs.Totals.{total, value_small, value_complement, zeros_value, total_zero, total_but_one, total_two}
use Rattle.call_laws.specs.Totals.{clause_satisfied}

-- A set that never holds a literal together with its complement.
abbrev pub Consistent : Set → Type 0
Consistent s = (l : Literal) → s l ≡ true → s (complement l) ≡ false

module _ (u : Valuation) where
  zeros_fail : (l : Literal) → (value_of u l ≡ 0 → ⊥) → zeros u l ≡ false
  zeros_fail l n = fails_if (zeros u l) (λ e. n ((zeros_value u l).0 e))

  -- The literals of value 0 never hold one together with its complement, nor do they with one of value 1 more.
  pub zeros_consistent : Consistent (zeros u)
  zeros_consistent l e = zeros_fail (complement l) (λ z. omega (arith, (zeros_value u l).0 e, value_complement u l))

  -- What a literal is that is in the set with one more.
  one_value : (m l : Literal) → with_one (zeros u) m l ≡ true → (value_of u l ≡ 0) ⊎ (l ≡ m)
  unfolding with_one
  one_value m l e = ⊎_elim (λ z. inl ((zeros_value u l).0 z)) (λ q. inr (same_is l m q)) (or_split (zeros u l) (same l m) e)

  pub with_one_consistent : (m : Literal) → value_of u m ≡ 1 → Consistent (with_one (zeros u) m)
  with_one_consistent m v l e =
      fails_if (with_one (zeros u) m (complement l)) (λ e'. go (one_value m l e) (one_value m (complement l) e'))
    where
      go : (value_of u l ≡ 0) ⊎ (l ≡ m) → (value_of u (complement l) ≡ 0) ⊎ (complement l ≡ m) → ⊥
      go (inl z) (inl y) = omega (arith, value_complement u l)
      go (inl z) (inr q) = omega (arith, value_complement u l, ap (value_of u) q)
      go (inr p) (inl y) = omega (arith, value_complement u l, ap (value_of u) p)
      go (inr p) (inr q) = complement_other l (q ∙ sym p)

-- A valuation is a model of clauses that each total 2 at least.
abbrev pub Model : Valuation → List Clause → Type 0
Model u cs = (c : Clause) → Memᴰ c cs → 2 ≤ total u c

-- A model of two lists of clauses is a model of both.
pub model_append : (u : Valuation) (cs ds : List Clause) → Model u (cs ++ ds) ↔ (Model u cs × Model u ds)
model_append u cs ds = (
  λ m. (λ c k. m c (Memᴰ.append_left ds k), λ d k. m d (Memᴰ.append_right cs k)),
  λ w c k. ⊎_elim (w.0 c) (w.1 c) (Memᴰ.append_cases cs k),
)

-- A valuation is a model where no clause lies inside its literals of value 0, nor inside those with one of value 1.
pub model_outside :
    (u : Valuation) (cs : List Clause) →
    Model u cs ↔ ((some_inside (zeros u) cs ≡ false) × ((m : Literal) → value_of u m ≡ 1 → some_inside (with_one (zeros u) m) cs ≡ false))
unfolding some_inside
model_outside u cs = (
  λ h. (
    (any_none (all (zeros u)) cs).1 (λ c k. ((clause_satisfied u c).0 (h c k)).0),
    λ m v. (any_none (all (with_one (zeros u) m)) cs).1 (λ c k. ((clause_satisfied u c).0 (h c k)).1 m v),
  ),
  λ w c k.
      (clause_satisfied u c).1
      ((any_none (all (zeros u)) cs).0 w.0 c k, λ m v. (any_none (all (with_one (zeros u) m)) cs).0 (w.1 m v) c k),
)

-- The models of a tree's clauses are the valuations under which the tree holds.
pub model_holds : (u : Valuation) (c : Conn) (f : Forest) → Model u (clauses c f) ↔ Holds u c f
model_holds u c f = simp bridge at (model_outside u (clauses c f))

-- A derived literal has value 2 in every model.
pub derived_two :
    (u : Valuation) {cs : List Clause} {l : Literal} →
    Model u cs →
    Derived cs l →
    value_of u l ≡ 2
derived_two u {l = l} h (derived c k i p) =
    let most = total_but_one u l c (λ x j n. omega (arith, derived_two u h (p x j n), value_complement u x)) in
    omega (arith, h c k, value_small u l)

-- Contradictory clauses have no model.
pub contradictory_no_model :
    (u : Valuation) {cs : List Clause} →
    Contradictory cs →
    Model u cs →
    ⊥
contradictory_no_model u w h =
    let low = total_zero u w.0 (λ x j. omega (arith, derived_two u h (w.2 x j), value_complement u x)) in
    omega (arith, h w.0 w.1)

-- The canonical valuation: 2 for each derived literal, 0 for its complement, 1 for the literals of every other option.
abbrev value_by : Bool → Bool → ℕ
value_by a b = pick a 2 (pick b 0 1)

canonical : List Clause → Valuation
unfolding pick
canonical cs =
    record {
      at_option = λ v. value_by (has (pos v) (facts_of cs)) (has (neg v) (facts_of cs));
      small = λ v. fits (has (pos v) (facts_of cs)) (has (neg v) (facts_of cs));
    }
  where
    fits : (a b : Bool) → value_by a b ≤ 2
    fits true b = omega arith
    fits false true = omega arith
    fits false false = omega arith

module _ {cs : List Clause} (n : Contradictory cs → ⊥) where
  canonical_value : (l : Literal) → value_of (canonical cs) l ≡ value_by (has l (facts_of cs)) (has (complement l) (facts_of cs))
  unfolding canonical value_of complement pick
  canonical_value (pos v) = refl
  canonical_value (neg v) =
      go (has (pos v) (facts_of cs)) (has (neg v) (facts_of cs))
      (λ p q. consistent n (pos v) ((facts_derived cs (pos v)).0 p) ((facts_derived cs (neg v)).0 q))
    where
      go : (a b : Bool) → (a ≡ true → b ≡ true → ⊥) → 2 - value_by a b ≡ value_by b a
      go true true h = absurd (h refl refl)
      go true false h = refl
      go false true h = refl
      go false false h = refl

  canonical_zero : (l : Literal) → value_of (canonical cs) l ≡ 0 → Derived cs (complement l)
  unfolding pick
  canonical_zero l e =
      (facts_derived cs (complement l)).0 (go (has l (facts_of cs)) (has (complement l) (facts_of cs)) (sym (canonical_value l) ∙ e))
    where
      go : (a b : Bool) → value_by a b ≡ 0 → b ≡ true
      go true b h = absurd (omega arith)
      go false true h = refl
      go false false h = absurd (omega arith)

  canonical_two : (l : Literal) → (value_of (canonical cs) l ≡ 2) ↔ Derived cs l
  unfolding pick
  canonical_two l = (
    λ e. (facts_derived cs l).0 (go (has l (facts_of cs)) (has (complement l) (facts_of cs)) (sym (canonical_value l) ∙ e)),
    λ d. canonical_value l ∙ rw ((facts_derived cs l).1 d),
  )
    where
      go : (a b : Bool) → value_by a b ≡ 2 → a ≡ true
      go true b h = refl
      go false true h = absurd (omega arith)
      go false false h = absurd (omega arith)

  -- Clauses that are not contradictory have a model, the canonical valuation.
  canonical_model : Model (canonical cs) cs
  canonical_model c k =
      total_two (canonical cs) c (λ h. n (c, k, λ x j. canonical_zero x (h x j))) (λ w.
      let two = (canonical_two w.one).1 (derived c k w.inside (λ x j d. canonical_zero x (w.rest x j d))) in
      omega (arith, w.value))

  -- Where there is no contradiction, a literal is derived exactly if it has value 2 in every model.
  pub two_in_every_model : (l : Literal) → Derived cs l ↔ ((u : Valuation) → Model u cs → value_of u l ≡ 2)
  two_in_every_model l = (λ d u h. derived_two u h d, λ h. (canonical_two l).0 (h (canonical cs) canonical_model))

-- Clauses are contradictory exactly if they have no model.
pub no_model : (cs : List Clause) → Contradictory cs ↔ ((u : Valuation) → Model u cs → ⊥)
no_model cs = (
  λ w u h. contradictory_no_model u w h,
  λ h. ⊎_elim (λ w. w) (λ n. absurd (h (canonical cs) (canonical_model n))) (contradictory_or_not cs),
)

-- Two lists of clauses have the same models. Then they are contradictory together, and derive the same where they are not.
abbrev pub SameModels : List Clause → List Clause → Type 0
SameModels cs ds = (u : Valuation) → Model u cs ↔ Model u ds

module _ {cs ds : List Clause} (e : SameModels cs ds) where
  pub same_contradictory : Contradictory cs ↔ Contradictory ds
  same_contradictory =
      (λ w. (no_model ds).1 (λ u h. (no_model cs).0 w u ((e u).1 h)), λ w. (no_model cs).1 (λ u h. (no_model ds).0 w u ((e u).0 h)))

  pub same_derived : (Contradictory cs → ⊥) → (l : Literal) → Derived cs l ↔ Derived ds l
  same_derived n l =
      let n' : Contradictory ds → ⊥ = λ w. n (same_contradictory.1 w) in (
        λ d. (two_in_every_model n' l).1 (λ u h. derived_two u ((e u).1 h) d),
        λ d. (two_in_every_model n l).1 (λ u h. derived_two u ((e u).0 h) d),
      )

  -- Clauses with the same models have the same report.
  pub same_report : (n : ℕ) → report n cs ≡ report n ds
  same_report n = tells_same n same_contradictory same_derived

-- Equal clauses have the same models, and the relation is transitive.
pub same_of : {cs ds : List Clause} → cs ≡ ds → SameModels cs ds
same_of {cs} e u = subst (λ xs. Model u cs ↔ Model u xs) e Iff.rfl

pub same_trans :
    {cs ds es : List Clause} →
    SameModels cs ds →
    SameModels ds es →
    SameModels cs es
same_trans p q u = Iff.trans (p u) (q u)

-- Clauses with the same models, put together; the same clauses more; and two lists of clauses in another order.
pub same_both :
    {bs cs ds es : List Clause} →
    SameModels bs cs →
    SameModels ds es →
    SameModels (bs ++ ds) (cs ++ es)
same_both {bs} {cs} {ds} {es} p q u =
    Iff.trans (model_append u bs ds) (Iff.trans (Iff.and (p u) (q u)) (Iff.symm (model_append u cs es)))

pub same_append : {cs ds : List Clause} (es : List Clause) → SameModels cs ds → SameModels (cs ++ es) (ds ++ es)
same_append es p = same_both p (same_of refl)

pub same_swap : (bs cs ds : List Clause) → SameModels (bs ++ (cs ++ ds)) (cs ++ (bs ++ ds))
same_swap bs cs ds u = (there bs cs, there cs bs)
  where
    there : (bs cs : List Clause) → Model u (bs ++ (cs ++ ds)) → Model u (cs ++ (bs ++ ds))
    there bs cs m =
        let first = (model_append u bs (cs ++ ds)).0 m in
        let second = (model_append u cs ds).0 first.1 in
        (model_append u cs (bs ++ ds)).1 (second.0, (model_append u bs ds).1 (first.0, second.1))
