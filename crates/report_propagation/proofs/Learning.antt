-- Laws of tables and trails: nothing learned, one literal learned, one growth after another; and what keeps a
-- part exhausted.
use mathlib.Core.Bool.{Bool, true, false, not}
use mathlib.Core.List.{List, [], ◌∷◌}
use mathlib.Core.Logic.{inl, inr, ⊎_elim}
use mathlib.Core.Path.{◌≡◌, refl, sym, ap, ◌∙◌}
use Prim.Native.Nat.{ℕ, zero, suc, ◌+◌, ◌-◌, ◌*◌, ◌/◌, ◌%◌, ◌≤◌, ◌<◌}
use native.Mathlib.Omega.{arith}
use borrow.Author.Tests.{eqb-true, eqb-false, eq-eqb, ne_eqb}
use lib.Dec.{eqb}
use lib.ListN.{length, get_or, set, length-set}
use lib.Seq.{get_or-set_same, get_or-set_other, set_out}
use Rattle.model.specs.Base.{pick}
use Rattle.model.specs.Limits.{most_literals}
use Rattle.model.specs.Literal.{Literal, pos, neg, complement}
use Rattle.model.specs.Forest.{root}
use Rattle.model.specs.Clauses.{clauses, Contradictory, Derived}
use Rattle.model.specs.Code.{decode}
use Rattle.model.specs.Sheet.{nodes_in, numbers_in}
use Rattle.theory_forms.specs.Logic.{same_test}
use Rattle.theory_forms.specs.Scan.{is_literal}
use Rattle.theory_meaning.specs.FailedLiterals.{place_of, forced_derived, fact_right}
use Rattle.theory_reading.specs.Leaves.{place_at}
use Rattle.theory_meaning.specs.NumberTrees.{tree_fails}
use Rattle.report_parts.specs.Parts.{stretch, Part, Occurs}
use Rattle.report_parts.proofs.Parting.{same_fails}
use Rattle.report_parts.proofs.Linking.{same_or_not}
use Rattle.report_parts.proofs.Finding.{stretch_number, stretch_long}
use Rattle.report_breaking.proofs.Tried.{opposite_below}
use Rattle.report_breaking.specs.Breaking.{opposite}
use Rattle.report_propagation.specs.Trails.{unset, fresh, Facts, Grown, Untouched, Exhausted, ExhaustedAt}

pub opposite_place : (l : Literal) → opposite (place_of l) ≡ place_of (complement l)
unfolding opposite place_of complement pick
opposite_place (pos v) = rw (eq-eqb (2 * v % 2) 0 (omega arith))
opposite_place (neg v) = rw (ne_eqb ((2 * v + 1) % 2) 0 (λ e. omega arith)) (omega arith)

-- Every place is that of a literal.
at_place : (k : ℕ) → (l : Literal) × (place_of l ≡ k)
unfolding place_of
at_place k = go (eqb (k % 2) 0) refl
  where
    odd : (k % 2 ≡ 0 → ⊥) → 2 * (k / 2) + 1 ≡ k
    odd d = omega arith

    go : (b : Bool) → eqb (k % 2) 0 ≡ b → (l : Literal) × (place_of l ≡ k)
    go true e = (pos (k / 2), omega (arith, eqb-true (k % 2) 0 e))
    go false e = (neg (k / 2), odd (eqb-false (k % 2) 0 e))

pub unset_fewer : (t : List ℕ) (k : ℕ) → k < length t → eqb (get_or t k 0) 1 ≡ false → suc (unset (set t k 1)) ≡ unset t
unfolding unset pick
unset_fewer [] k h e = absurd (omega arith)
unset_fewer (x ∷ t) zero h e = rw e
unset_fewer (x ∷ t) (suc k) h e = go (eqb x 1) (unset_fewer t k (omega arith) e)
  where
    go : (b : Bool) → suc (unset (set t k 1)) ≡ unset t →
        suc (pick b (unset (set t k 1)) (suc (unset (set t k 1)))) ≡ pick b (unset t) (suc (unset t))
    go true r = r
    go false r = ap suc r

-- Growth: none, one literal, one after another.
pub grown_none : (t trail : List ℕ) (n : ℕ) → Grown t trail n t trail n
grown_none t trail n = record { more = omega arith; keeps = λ p e. e; new = λ p e. inl e; old = λ h l. refl }

pub grown_both : {t trail : List ℕ} {n : ℕ} {t' trail' : List ℕ} {n' : ℕ} {t'' trail'' : List ℕ} {n'' : ℕ} →
    Grown t trail n t' trail' n' → Grown t' trail' n' t'' trail'' n'' → Grown t trail n t'' trail'' n''
grown_both {n = n} v w =
    record {
      more = omega (arith, v.more, w.more);
      keeps = λ p e. w.keeps p (v.keeps p e);
      new = λ p e. ⊎_elim
          (λ q. ⊎_elim (λ r. inl r) (λ r. inr (r.0, r.1, omega (arith, r.2, w.more), w.old r.0 r.2 ∙ r.3)) (v.new p q))
          (λ q. inr (q.0, omega (arith, q.1, v.more), q.2, q.3))
          (w.new p e);
      old = λ h l. w.old h (omega (arith, v.more)) ∙ v.old h l;
    }

grown_one : (t trail : List ℕ) (n o : ℕ) → o < length t → n < length trail → Grown t trail n (set t o 1) (set trail n o) (n + 1)
grown_one t trail n o a b =
    record {
      more = omega arith;
      keeps = λ p e. ⊎_elim
          (λ q. ap (λ m. get_or (set t o 1) m 0) q ∙ get_or-set_same t o 1 0 a)
          (λ q. get_or-set_other t o p 1 0 q ∙ e)
          (same_or_not p o);
      new = λ p e. ⊎_elim
          (λ q. inr (n, omega arith, omega arith, get_or-set_same trail n o 0 b ∙ sym q))
          (λ q. inl (sym (get_or-set_other t o p 1 0 q) ∙ e))
          (same_or_not p o);
      old = λ h l. get_or-set_other trail n h o 0 (λ e. omega arith);
    }

-- A literal that a sheet's failing forces on an earlier table becomes a fact.
module _ {s t trail : List ℕ} {n : ℕ} (w : Facts s t trail n) {k : ℕ} (small : k < most_literals)
    (new : eqb (get_or t (opposite k) 0) 1 ≡ false) where
  far : opposite k < most_literals
  far = opposite_below k small

  pub still_room : n < most_literals
  still_room = omega (arith, w.room, unset_fewer t (opposite k) (rw w.long far) new)

  facts_more : (let cs = clauses root (decode (nodes_in s)) in (Contradictory cs → ⊥) → (l : Literal) → place_of l ≡ k → Derived cs l) →
      Facts s (set t (opposite k) 1) (set trail n (opposite k)) (n + 1)
  facts_more derived =
      let l = at_place k in
      let o : opposite k ≡ place_of (complement l.0) = ap opposite (sym l.1) ∙ opposite_place l.0 in
      let near = far in
      let space = still_room in
      let long = w.long in
      let wide = w.wide in
      record {
        long = length-set t (opposite k) 1 ∙ long;
        wide = length-set trail n (opposite k) ∙ wide;
        room = omega (arith, w.room, unset_fewer t (opposite k) (omega arith) new);
        placed = λ h m. ⊎_elim
            (λ e. rw (e, get_or-set_same trail n (opposite k) 0 (omega arith)) near)
            (λ e. rw (get_or-set_other trail n h (opposite k) 0 e) (w.placed h (below e m)))
            (same_or_not h n);
        right = rw o (fact_right (decode (nodes_in s)) t l.0 (omega arith) (λ d. derived d l.0 l.1) w.right);
      }
    where
      below : {h : ℕ} → (h ≡ n → ⊥) → h < n + 1 → h < n
      below d m = omega arith

-- What is known after a literal was learned that an earlier table forces.
module _ {s t₀ trail₀ : List ℕ} {n₀ : ℕ} {t trail : List ℕ} {n : ℕ} (v : Facts s t₀ trail₀ n₀) (w : Facts s t trail n) {k : ℕ}
    (small : k < most_literals) (forced : tree_fails (set t₀ k 1) (numbers_in s) ≡ true) where
  Known : List ℕ → List ℕ → ℕ → Type 0
  Known t' trail' n' = Facts s t' trail' n' × Grown t trail n t' trail' n' × (get_or t' (opposite k) 0 ≡ 1)

  learned_new : eqb (get_or t (opposite k) 0) 1 ≡ false → Known (set t (opposite k) 1) (set trail n (opposite k)) (n + 1)
  unfolding Known tree_fails nodes_in
  learned_new e =
      let near : opposite k < length t = rw w.long (opposite_below k small) in
      let space : n < length trail = rw w.wide (still_room w small e) in
      let long = v.long in (
        facts_more w small e (λ d l p. forced_derived (decode (nodes_in s)) t₀ l (omega arith) v.right (rw p forced) d),
        grown_one t trail n (opposite k) near space,
        get_or-set_same t (opposite k) 1 0 near,
      )

  pub learned : {t' trail' : List ℕ} {n' : ℕ} → n' ≡ pick (fresh t k) (n + 1) n → t' ≡ pick (fresh t k) (set t (opposite k) 1) t →
      trail' ≡ pick (fresh t k) (set trail n (opposite k)) trail →
      Facts s t' trail' n' × Grown t trail n t' trail' n' × (get_or t' (opposite k) 0 ≡ 1)
  unfolding fresh pick Known
  learned {t'} {trail'} {n'} a b c = go (eqb (get_or t (opposite k) 0) 1) refl a b c
    where
      go : (o : Bool) → eqb (get_or t (opposite k) 0) 1 ≡ o → n' ≡ pick (not o) (n + 1) n →
          t' ≡ pick (not o) (set t (opposite k) 1) t → trail' ≡ pick (not o) (set trail n (opposite k)) trail → Known t' trail' n'
      go true e p q r = rw (p, q, r) (w, grown_none t trail n, eqb-true (get_or t (opposite k) 0) 1 e)
      go false e p q r = rw (p, q, r) (learned_new e)

-- A part does not fail under one table, and what it forces there is known in another.
pub record Answered (s : List ℕ) (i e : ℕ) (t t' : List ℕ) : Type 0 where
  pub stands : tree_fails t (stretch i e s) ≡ false
  pub known : (q : ℕ) → q < most_literals → tree_fails (set t q 1) (stretch i e s) ≡ true → get_or t' (opposite q) 0 ≡ 1

-- A table has no place 1,024.
pub as_it_is : (t : List ℕ) → length t ≡ most_literals → set t most_literals 1 ≡ t
as_it_is t long = set_out t most_literals 1 (omega arith)

-- A part that was not touched has its values on the grown table.
module _ {s t trail : List ℕ} {n : ℕ} {t' trail' : List ℕ} {n' : ℕ} (g : Grown t trail n t' trail' n')
    (long : length t ≡ most_literals) (long' : length t' ≡ most_literals) {i e : ℕ} (part : Part s i e) (within : e ≤ length s) where
  pub untouched_same : Untouched s i e n trail' n' → (q : ℕ) →
      tree_fails (set t' q 1) (stretch i e s) ≡ tree_fails (set t q 1) (stretch i e s)
  untouched_same free q = same_fails (set t' q 1) (set t q 1) (stretch i e s) agree
    where
      agree : (j : ℕ) → j < length (stretch i e s) → is_literal (get_or (stretch i e s) j 0) ≡ true →
          eqb (get_or (set t' q 1) (place_at (get_or (stretch i e s) j 0)) 0) 1 ≡ eqb (get_or (set t q 1) (place_at (get_or (stretch i e s) j 0)) 0) 1
      agree j l lit =
          let p = place_at (get_or (stretch i e s) j 0) in
          let near : p < most_literals = part.tree.inside j l lit in
          let short : j < e - i = rw (stretch_long i e s within) at l in
          let here : get_or (stretch i e s) j 0 ≡ get_or s (i + j) 0 = stretch_number i e j s short in
          let occurs : Occurs s p (i + j) = record {
            from = omega (arith, part.begins);
            below = omega (arith, part.ends);
            literal = rw here at lit;
            same = ap place_at (sym here);
          } in
          ⊎_elim
          (λ same. ap (λ b. eqb b 1)
          (ap (λ m. get_or (set t' q 1) m 0) same
          ∙ get_or-set_same t' q 1 0 (omega arith)
          ∙ sym (ap (λ m. get_or (set t q 1) m 0) same ∙ get_or-set_same t q 1 0 (omega arith))))
          (λ other. ap (λ b. eqb b 1) (get_or-set_other t' q p 1 0 other)
          ∙ same_test (eqb (get_or t' p 0) 1) (eqb (get_or t p 0) 1)
          (λ one. ⊎_elim
          (λ r. eq-eqb (get_or t p 0) 1 r)
          (λ (r : (h : ℕ) × (n ≤ h) × (h < n') × (get_or trail' h 0 ≡ p)).
          absurd (free r.0 (i + j) r.1 r.2 (omega arith) (omega arith) (rw r.3 occurs)))
          (g.new p (eqb-true (get_or t' p 0) 1 one)))
          (λ one. eq-eqb (get_or t' p 0) 1 (g.keeps p (eqb-true (get_or t p 0) 1 one)))
          ∙ sym (ap (λ b. eqb b 1) (get_or-set_other t q p 1 0 other)))
          (same_or_not p q)

  untouched_as_it_is : Untouched s i e n trail' n' → tree_fails t' (stretch i e s) ≡ tree_fails t (stretch i e s)
  untouched_as_it_is free =
      sym (ap (λ u. tree_fails u (stretch i e s)) (as_it_is t' long'))
      ∙ untouched_same free most_literals
      ∙ ap (λ u. tree_fails u (stretch i e s)) (as_it_is t long)

  -- So a part that was exhausted is, and one that has answered.
  pub answered_exhausted : Untouched s i e n trail' n' → Answered s i e t t' → Exhausted s i e t'
  answered_exhausted free v =
      record {
        stands = untouched_as_it_is free ∙ v.stands;
        known = λ q m small from to occurs fall. v.known q small (sym (untouched_same free q) ∙ fall);
      }

  pub exhausted_on : {c : ℕ} → c ≤ n → ExhaustedAt s i e c t trail n → ExhaustedAt s i e c t' trail' n'
  exhausted_on {c} below was_so free =
      let more = g.more in
      let before : Untouched s i e c trail n = λ h m' a b d f o. free h m' a (omega arith) d f (rw (g.old h b) o) in
      let after : Untouched s i e n trail' n' = λ h m' a b d f o. free h m' (omega arith) b d f o in
      let was = was_so before in
      record {
        stands = untouched_as_it_is after ∙ was.stands;
        known = λ q m small from to occurs fall.
            g.keeps (opposite q) (was.known q m small from to occurs (sym (untouched_same after q) ∙ fall));
      }
