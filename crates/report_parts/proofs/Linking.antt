-- The links of a sheet's literals as they are made, number by number; and the numbers that a part claims.
use mathlib.Core.Bool.{true, false}
use mathlib.Core.List.{List}
use mathlib.Core.Logic.{◌⊎◌, inl, inr, ⊎_elim}
use mathlib.Core.Path.{◌≡◌, refl, sym, ap, subst, ◌∙◌}
use Prim.Native.Nat.{ℕ, ◌+◌, ◌-◌, ◌≤◌, ◌<◌}
use native.Mathlib.Omega.{arith}
use borrow.Author.Tests.{eqb-true, eqb-false}
use lib.Dec.{eqb}
use lib.ListN.{length, get_or, set, drop, replicate, length-set, length-replicate}
use lib.Seq.{get_or-take, get_or-drop, get_or-set_same, get_or-set_other}
use Rattle.model.specs.Limits.{sheet_length, most_literals}
use Rattle.model.specs.Sheet.{used_in, numbers_in}
use Rattle.theory_forms.specs.Logic.{either, true_false}
use Rattle.theory_forms.specs.Scan.{is_literal}
use Rattle.theory_forms.specs.Sheets.{Formed}
use Rattle.theory_reading.specs.Leaves.{place_at}
use Rattle.theory_meaning.specs.FailedLiterals.{zero_everywhere}
use Rattle.theory_meaning.specs.TreeValues.{numbers_long, sheet_tree}
use Rattle.report_parts.specs.Parts.{Claimed, Occurs, Latest, links_length, Descends, Linked}

-- Two numbers, the same or not; and a number below the next is below or the same.
pub same_or_not : (m n : ℕ) → (m ≡ n) ⊎ (m ≡ n → ⊥)
same_or_not m n = ⊎_elim (λ e. inl (eqb-true m n e)) (λ e. inr (eqb-false m n e)) (either (eqb m n))

pub below_next : (k i : ℕ) → k < i + 1 → (k < i) ⊎ (k ≡ i)
below_next k i h = ⊎_elim (λ e. inr e) (λ d. inl (strict d)) (same_or_not k i)
  where
    strict : (k ≡ i → ⊥) → k < i
    strict d = omega arith

-- One number more is claimed.
pub claimed_none : (from : ℕ) (l : List ℕ) → Claimed from from l l
claimed_none from l = record { long = refl; inside = λ n a b. absurd (omega arith); outside = λ n h. refl }

pub claimed_more : {from n : ℕ} {old new : List ℕ} → Claimed from n old new → from ≤ n → n < length new →
    Claimed from (n + 1) old (set new n from)
claimed_more {from} {n} {old} {new} w a b =
    record {
      long = length-set new n from ∙ w.long;
      inside = λ m l h. ⊎_elim
          (λ g. get_or-set_other new n m from 0 (λ e. omega arith) ∙ w.inside m l g)
          (λ e. rw e (get_or-set_same new n from 0 b))
          (below_next m n h);
      outside = λ m h. get_or-set_other new n m from 0 (λ e. ⊎_elim (λ l. omega arith) (λ l. omega arith) h)
          ∙ w.outside m (⊎_elim (λ l. inl l) (λ l. inr (omega arith)) h);
    }

-- The numbers of a sheet.
module _ (s : List ℕ) (h : Formed s) where
  number_here : (m : ℕ) → 2 ≤ m → m < 2 + used_in s → get_or (numbers_in s) (m - 2) 0 ≡ get_or s m 0
  unfolding numbers_in
  number_here m a b =
      let e : 2 + (m - 2) ≡ m = omega arith in
      get_or-take (used_in s) (drop 2 s) (m - 2) 0 (omega arith) ∙ get_or-drop 2 s (m - 2) 0 ∙ ap (λ k. get_or s k 0) e

  pub literal_place : (m : ℕ) → 2 ≤ m → m < 2 + used_in s → is_literal (get_or s m 0) ≡ true → place_at (get_or s m 0) < most_literals
  literal_place m a b l =
      let e = number_here m a b in
      rw e at ((sheet_tree s h).inside (m - 2) (omega (arith, numbers_long s h)) (rw e l))

-- The literals before i are linked.
pub record Linking (s links : List ℕ) (i : ℕ) : Type 0 where
  pub from : 2 ≤ i
  pub to : i ≤ 2 + used_in s
  pub wide : length links ≡ links_length
  pub descends : Descends links
  pub last : (q : ℕ) → q < most_literals → Latest s q i (get_or links (sheet_length + q) 0)
  pub before : (q n : ℕ) → n < i → Occurs s q n → Latest s q n (get_or links n 0)

pub linking_none : (s : List ℕ) {links : List ℕ} → links ≡ replicate links_length 0 → Linking s links 2
linking_none s {links} e =
    let none : (n : ℕ) → get_or links n 0 ≡ 0 = λ n. ap (λ t. get_or t n 0) e ∙ zero_everywhere links_length n in
    record {
      from = omega arith;
      to = omega arith;
      wide = ap length e ∙ length-replicate {A = ℕ} links_length 0;
      descends = record { place = λ n. omega (arith, none n); down = λ n. omega (arith, none n) };
      last = λ q l. record { there = inl (none (sheet_length + q)); last = λ k m o. let f = o.from in absurd (omega arith) };
      before = λ q n l o. let f = o.from in absurd (omega arith);
    }

-- A later bound, where the literal does not stand at the place between.
latest_later : {s : List ℕ} {q i m : ℕ} → Latest s q i m → (Occurs s q i → ⊥) → Latest s q (i + 1) m
latest_later {s} {q} {i} {m} w d =
    record {
      there = ⊎_elim (λ e. inl e) (λ p. inr (omega (arith, p.0), p.1)) w.there;
      last = λ k l o. ⊎_elim (λ g. w.last k g o) (λ e. absurd (d (rw e at o))) (below_next k i l);
    }

module _ {s links : List ℕ} {i : ℕ} (w : Linking s links i) (b : i < 2 + used_in s) where
  pub linking_other : is_literal (get_or s i 0) ≡ false → Linking s links (i + 1)
  linking_other e =
      let d : (q : ℕ) → Occurs s q i → ⊥ = λ q o. true_false (sym o.literal ∙ e) in
      record {
        from = omega (arith, w.from);
        to = omega arith;
        wide = w.wide;
        descends = w.descends;
        last = λ q l. latest_later (w.last q l) (d q);
        before = λ q n l o. ⊎_elim (λ g. w.before q n g o) (λ p. absurd (d q (rw p at o))) (below_next n i l);
      }

  -- A literal's place: it leads to what its own entry led to, which leads to it from now on.
  module _ (e : is_literal (get_or s i 0) ≡ true) {p : ℕ} (f : p ≡ place_at (get_or s i 0)) (small : p < most_literals)
      (far : i < sheet_length) where
    old : ℕ
    old = get_or links (sheet_length + p) 0

    new : List ℕ
    new = set (set links i old) (sheet_length + p) i

    at_own : get_or new (sheet_length + p) 0 ≡ i
    unfolding new
    at_own = get_or-set_same (set links i old) (sheet_length + p) i 0 (omega (arith, length-set links i old, w.wide))

    at_place : get_or new i 0 ≡ old
    unfolding new
    at_place =
        get_or-set_other (set links i old) (sheet_length + p) i i 0 (λ z. omega arith)
        ∙ get_or-set_same links i old 0 (omega (arith, w.wide))

    elsewhere : (n : ℕ) → (n ≡ sheet_length + p → ⊥) → (n ≡ i → ⊥) → get_or new n 0 ≡ get_or links n 0
    unfolding new
    elsewhere n c d = get_or-set_other (set links i old) (sheet_length + p) n i 0 c ∙ get_or-set_other links i n old 0 d

    -- What holds of the entries before, and of these two, holds of all.
    each : (P : ℕ → ℕ → Type 0) → P (sheet_length + p) i → P i old → ((n : ℕ) → P n (get_or links n 0)) → (n : ℕ) → P n (get_or new n 0)
    each P own here rest n = ⊎_elim
        (λ c. subst (λ m. P m (get_or new m 0)) (sym c) (rw at_own own))
        (λ c. ⊎_elim
        (λ d. subst (λ m. P m (get_or new m 0)) (sym d) (rw at_place here))
        (λ d. rw (elsewhere n c d) (rest n))
        (same_or_not n i))
        (same_or_not n (sheet_length + p))

    descends_more : Descends new
    unfolding old
    descends_more =
        record {
          place = each (λ n m. m < sheet_length) far (w.descends.place (sheet_length + p)) w.descends.place;
          down = each (λ n m. m ≤ n - 1) (omega arith)
              (⊎_elim (λ z. omega (arith, z)) (λ z. omega (arith, z.0)) (w.last p small).there) w.descends.down;
        }

    long : length new ≡ links_length
    unfolding new
    long = length-set (set links i old) (sheet_length + p) i ∙ length-set links i old ∙ w.wide

    pub linking_more : Linking s (set (set links i (get_or links (sheet_length + p) 0)) (sheet_length + p) i) (i + 1)
    unfolding old new
    linking_more =
        let here : Occurs s p i = record { from = w.from; below = b; literal = e; same = sym f } in
        record {
          from = omega (arith, w.from);
          to = omega arith;
          wide = long;
          descends = descends_more;
          last = λ q l. ⊎_elim
              (λ g. subst (λ m. Latest s m (i + 1) (get_or new (sheet_length + m) 0)) (sym g)
              (rw at_own (record { there = inr (omega arith, here); last = λ k m o. omega arith })))
              (λ g. rw (elsewhere (sheet_length + q) (λ z. g (omega arith)) (λ z. omega arith))
              (latest_later (w.last q l) (λ o. g (sym o.same ∙ sym f))))
              (same_or_not q p);
          before = λ q n l o. ⊎_elim
              (λ g. rw (elsewhere n (λ z. omega arith) (λ z. omega arith)) (w.before q n g o))
              (λ g.
              let same : q ≡ p = sym o.same ∙ ap (λ k. place_at (get_or s k 0)) g ∙ sym f in
              rw (g, same, at_place) (w.last p small))
              (below_next n i l);
        }

pub linked : {s links : List ℕ} {i : ℕ} → Formed s → Linking s links i → 2 + used_in s ≤ i → Linked s links
linked {s} {links} {i} h w end =
    record {
      descends = w.descends;
      before = λ q n l c. ⊎_elim
          (λ e. rw e (latest_beyond (w.last q l) (omega (arith, h.used, w.to))))
          (λ o. w.before q n (omega (arith, o.below)) o)
          c;
    }
  where
    latest_beyond : {q j m : ℕ} → Latest s q i m → i ≤ j → Latest s q j m
    latest_beyond v l =
        record {
          there = ⊎_elim (λ e. inl e) (λ p. inr (omega (arith, p.0), p.1)) v.there;
          last = λ k b o. v.last k (omega (arith, o.below)) o;
        }
