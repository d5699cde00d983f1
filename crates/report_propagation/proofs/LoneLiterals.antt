-- Parts that are a literal, or a disjunction of literals alone: they fail where all their literals do.
use mathlib.Core.Bool.{true, false, and-false, and-true}
use mathlib.Core.List.{List, [], ◌∷◌}
use mathlib.Core.Logic.{⊎_elim}
use mathlib.Core.Path.{◌≡◌, refl, sym, ap, ◌∙◌}
use Prim.Native.Nat.{ℕ, zero, suc, ◌+◌, ◌-◌, ◌≤◌, ◌<◌}
use native.Mathlib.Omega.{arith}
use borrow.Author.Tests.{eq-eqb, ne_eqb}
use lib.Dec.{eqb}
use lib.ListN.{length, get_or, set, take, drop, length-drop}
use lib.Seq.{take_all, get_or-set_same, get_or-set_other}
use Rattle.model.specs.Base.{pick}
use Rattle.model.specs.Limits.{most_literals}
use Rattle.model.specs.Forest.{or}
use Rattle.model.specs.Code.{kind, children}
use Rattle.theory_forms.specs.Logic.{true_false, fails_if}
use Rattle.theory_forms.specs.Scan.{is_literal}
use Rattle.theory_meaning.specs.Evaluation.{fails_all}
use Rattle.theory_meaning.specs.Values.{or_none, or_more}
use Rattle.theory_forms.specs.Sheets.{Formed}
use Rattle.theory_reading.specs.Leaves.{place_at}
use Rattle.theory_meaning.specs.NumberTrees.{tree_fails, SpellsTree}
use Rattle.theory_meaning.specs.TreeValues.{values_of, values_none, values_more, conn_any, with_literal, with_inner, tree_value}
use Rattle.std.proofs.Common.{Option, Some, None}
use Rattle.report_breaking.specs.Breaking.{opposite}
use Rattle.report_parts.specs.Parts.{stretch, Part}
use Rattle.report_parts.proofs.Linking.{same_or_not, below_next, literal_place}
use Rattle.report_parts.proofs.Finding.{stretch_first, stretch_number, stretch_long}
use Rattle.report_propagation.specs.Trails.{fresh, Facts, Forces, Lone, Unforced, Looked}
use Rattle.report_propagation.specs.declared.Forced.TheVariants.{Only, Fails}
use Rattle.report_propagation.proofs.Learning.{grown_none, learned, as_it_is}
use Rattle.report_propagation.proofs.Looking.{part_inside, looked}

-- Among numbers that begin with literals, one that does not fail keeps the trees from failing all.
abbrev Literals : List ℕ → ℕ → Type 0
Literals xs n = (j : ℕ) → j < n → is_literal (get_or xs j 0) ≡ true

one_stands : (t xs : List ℕ) (j : ℕ) → j < length xs → Literals xs (suc j) → eqb (get_or t (place_at (get_or xs j 0)) 0) 1 ≡ false →
    fails_all or (values_of t xs) ≡ false
one_stands t [] j l lits h = absurd (omega arith)
one_stands t (x ∷ xs) zero l lits h = rw (values_more t x xs, with_literal t x (values_of t xs) (lits 0 (omega arith)), or_more, h)
one_stands t (x ∷ xs) (suc j) l lits h =
    let rest = one_stands t xs j (omega arith) (λ i m. lits (suc i) (omega arith)) h in
    rw (values_more t x xs, with_literal t x (values_of t xs) (lits 0 (omega arith)), or_more, rest)
    (and-false (eqb (get_or t (place_at x) 0) 1))

all_fail : (t xs : List ℕ) → Literals xs (length xs) →
    ((j : ℕ) → j < length xs → eqb (get_or t (place_at (get_or xs j 0)) 0) 1 ≡ true) → fails_all or (values_of t xs) ≡ true
all_fail t [] lits h = rw (values_none t, or_none)
all_fail t (x ∷ xs) lits h =
    rw (values_more t x xs, with_literal t x (values_of t xs) (lits 0 (omega arith)), or_more, h 0 (omega arith))
    (all_fail t xs (λ j l. lits (suc j) (omega arith)) (λ j l. h (suc j) (omega arith)))

-- A tree has the value of itself alone, and a disjunction that of its children together.
alone : (t xs : List ℕ) → SpellsTree xs → tree_fails t xs ≡ fails_all or (values_of t xs)
alone t xs h = sym (rw (tree_value xs h t, or_more, or_none) (and-true (tree_fails t xs)))

inner : (x : ℕ) → kind x ≡ 4 → is_literal x ≡ false
unfolding is_literal
inner x four = rw four

disjunction : (t : List ℕ) (x : ℕ) (xs : List ℕ) → SpellsTree (x ∷ xs) → kind x ≡ 4 → tree_fails t (x ∷ xs) ≡ fails_all or (values_of t xs)
disjunction t x xs h four =
    let bs = values_of t xs in
    let whole : fails_all or (take (children x) bs) ∷ drop (children x) bs ≡ tree_fails t (x ∷ xs) ∷ []
    = rw (conn_any x four) at (sym (with_inner t x bs (inner x four))) ∙ sym (values_more t x xs) ∙ tree_value (x ∷ xs) h t in
    let first : fails_all or (take (children x) bs) ≡ tree_fails t (x ∷ xs) = cc in
    let none : drop (children x) bs ≡ [] = cc in
    sym first ∙ ap (fails_all or) (take_all (children x) bs (omega (arith, length-drop (children x) bs, ap length none)))

-- A part fails where the trees from one of its places on fail all.
abbrev pub Together : List ℕ → ℕ → ℕ → ℕ → Type 0
Together s i e j = (u : List ℕ) → tree_fails u (stretch i e s) ≡ fails_all or (values_of u (stretch j e s))

pub together_alone : {s : List ℕ} {i e : ℕ} → Part s i e → Together s i e i
together_alone {s} {i} {e} part u = alone u (stretch i e s) part.tree

pub together_below : {s : List ℕ} {i e : ℕ} → Formed s → Part s i e → kind (get_or s i 0) ≡ 4 → Together s i e (i + 1)
together_below {s} {i} {e} sheet part four u =
    let far = (part_inside sheet part).0 in
    let cut = stretch_first i e s part.goes_on (omega (arith, part.goes_on)) in
    ap (tree_fails u) cut ∙ disjunction u (get_or s i 0) (stretch (i + 1) e s) (rw cut at part.tree) four

-- The numbers from j on and before k are literals, and the trees from j on are those that fail all where the part fails.
pub record Plain (s : List ℕ) (i e j k : ℕ) : Type 0 where
  pub from : i ≤ j
  pub past : j ≤ k
  pub within : k ≤ e
  pub together : Together s i e j
  pub literals : (m : ℕ) → j ≤ m → m < k → is_literal (get_or s m 0) ≡ true

plain_more : {s : List ℕ} {i e j k : ℕ} → Plain s i e j k → k < e → is_literal (get_or s k 0) ≡ true → Plain s i e j (k + 1)
plain_more {s} {k = k} w l lit =
    record {
      from = w.from;
      past = omega (arith, w.past);
      within = omega arith;
      together = w.together;
      literals = λ m a b. ⊎_elim (λ g. w.literals m a g) (λ g. ap (λ n. is_literal (get_or s n 0)) g ∙ lit) (below_next m k b);
    }

-- One of them that does not fail.
pub record Free (s t : List ℕ) (j k p : ℕ) : Type 0 where
  pub place : ℕ
  pub from : j ≤ place
  pub before : place < k
  pub same : place_at (get_or s place 0) ≡ p
  pub stands : get_or t p 0 ≡ 1 → ⊥

-- All that do not fail have one place in the table, or all fail.
abbrev Found : List ℕ → List ℕ → ℕ → ℕ → Option ℕ → Type 0
Found s t j k (Some p) =
    Free s t j k p × ((m : ℕ) → j ≤ m → m < k → (place_at (get_or s m 0) ≡ p → ⊥) → get_or t (place_at (get_or s m 0)) 0 ≡ 1)
Found s t j k None = (m : ℕ) → j ≤ m → m < k → get_or t (place_at (get_or s m 0)) 0 ≡ 1

pub record Scanned (s t : List ℕ) (i e j : ℕ) (only : Option ℕ) (k : ℕ) : Type 0 where
  pub plain : Plain s i e j k
  pub found : Found s t j k only

pub scanned_none : {s t : List ℕ} {i e j k : ℕ} → i ≤ j → j ≤ e → Together s i e j → k ≡ j → Scanned s t i e j None k
scanned_none a b together z =
    rw z
    (record {
      plain = record { from = a; past = omega arith; within = b; together = together; literals = λ m c d. absurd (omega arith) };
      found = λ m c d. absurd (omega arith);
    })

module _ {s : List ℕ} {i e : ℕ} (sheet : Formed s) (part : Part s i e) {j k : ℕ} (w : Plain s i e j k) where
  -- The literals have places in the table.
  near : (m : ℕ) → j ≤ m → m < k → place_at (get_or s m 0) < most_literals
  near m a b =
      literal_place s sheet m (omega (arith, part.begins, w.from)) (omega (arith, part.ends, w.within)) (w.literals m a b)

  -- One of them that does not fail keeps the part from failing.
  stands_still : (u : List ℕ) {a p : ℕ} → j ≤ a → a < k → place_at (get_or s a 0) ≡ p → (get_or u p 0 ≡ 1 → ⊥) →
      tree_fails u (stretch i e s) ≡ false
  stands_still u {a} {p} from before same stands =
      let far = (part_inside sheet part).0 in
      let within = w.within in
      let xs = stretch j e s in
      let number : (n : ℕ) → n < e - j → get_or xs n 0 ≡ get_or s (j + n) 0 = λ n m. stretch_number j e n s m in
      let there : j + (a - j) ≡ a = omega arith in
      let here : place_at (get_or xs (a - j) 0) ≡ p = ap place_at (number (a - j) (omega arith) ∙ ap (λ n. get_or s n 0) there) ∙ same in
      w.together u
      ∙ one_stands u xs (a - j) (rw (stretch_long j e s far) (omega arith))
      (λ n m. ap is_literal (number n (omega arith)) ∙ w.literals (j + n) (omega arith) (omega arith))
      (ap (λ q. eqb (get_or u q 0) 1) here ∙ ne_eqb (get_or u p 0) 1 stands)

  -- It still does once a literal at another place fails.
  stands_yet : {t : List ℕ} {p : ℕ} → Free s t j k p → (q : ℕ) → (p ≡ q → ⊥) → tree_fails (set t q 1) (stretch i e s) ≡ false
  stands_yet {t} {p} f q other =
      stands_still (set t q 1) f.from f.before f.same (λ h. f.stands (sym (get_or-set_other t q p 1 0 other) ∙ h))

  -- Two of them, unlike one another, keep it from failing under any.
  two_stand : {t : List ℕ} {p q : ℕ} → Free s t j k p → Free s t j k q → (p ≡ q → ⊥) → Unforced s i e t
  two_stand {t} {p} {q} f g other r =
      ⊎_elim
      (λ (same : p ≡ r). stands_yet g r (λ h. other (same ∙ sym h)))
      (λ d. stands_yet f r d)
      (same_or_not p r)

  -- All of them are seen, and fail.
  all_under : e ≤ k → (u : List ℕ) → ((m : ℕ) → j ≤ m → m < k → get_or u (place_at (get_or s m 0)) 0 ≡ 1) → tree_fails u (stretch i e s) ≡ true
  all_under end u h =
      let size = stretch_long j e s (part_inside sheet part).0 in
      let within = w.within in
      let number : (n : ℕ) → n < length (stretch j e s) → get_or (stretch j e s) n 0 ≡ get_or s (j + n) 0
      = λ n m. stretch_number j e n s (omega arith) in
      w.together u
      ∙ all_fail u (stretch j e s)
      (λ n m. ap is_literal (number n m) ∙ w.literals (j + n) (omega arith) (omega arith))
      (λ n m. ap (λ y. eqb (get_or u (place_at y) 0) 1) (number n m)
      ∙ eq-eqb (get_or u (place_at (get_or s (j + n) 0)) 0) 1 (h (j + n) (omega arith) (omega arith)))

-- A literal that was found stays so.
later : {s t : List ℕ} {j k p : ℕ} → Free s t j k p → Free s t j (k + 1) p
later f =
    record { place = f.place; from = f.from; before = omega (arith, f.before); same = f.same; stands = f.stands }

-- One literal more that fails.
found_failed : (s t : List ℕ) (j k : ℕ) (only : Option ℕ) → Found s t j k only → get_or t (place_at (get_or s k 0)) 0 ≡ 1 →
    Found s t j (k + 1) only
found_failed s t j k (Some p) f fails = (
  later f.0,
  λ m a b d. ⊎_elim (λ g. f.1 m a g d) (λ g. ap (λ n. get_or t (place_at (get_or s n 0)) 0) g ∙ fails) (below_next m k b),
)
found_failed s t j k None f fails =
    λ m a b. ⊎_elim (λ g. f m a g) (λ g. ap (λ n. get_or t (place_at (get_or s n 0)) 0) g ∙ fails) (below_next m k b)

-- One that does not, where those before it that do not have its place.
found_here : (s t : List ℕ) (j k p : ℕ) (only : Option ℕ) → Found s t j k only → ((q : ℕ) → only ≡ Some q → q ≡ p) →
    p ≡ place_at (get_or s k 0) → Free s t j (k + 1) p → Found s t j (k + 1) (Some p)
found_here s t j k p (Some q) f same here free = (
  free,
  λ m a b d. ⊎_elim
      (λ g. f.1 m a g (λ e. d (e ∙ same q refl)))
      (λ g. absurd (d (ap (λ n. place_at (get_or s n 0)) g ∙ sym here)))
      (below_next m k b),
)
found_here s t j k p None f same here free = (
  free,
  λ m a b d. ⊎_elim
      (λ g. f m a g)
      (λ g. absurd (d (ap (λ n. place_at (get_or s n 0)) g ∙ sym here)))
      (below_next m k b),
)

module _ {s t : List ℕ} {i e : ℕ} (sheet : Formed s) (part : Part s i e) (long : length t ≡ most_literals) {j k : ℕ} where
  -- All numbers of the part are seen.
  module _ (end : e ≤ k) where
    pub scanned_all : Scanned s t i e j None k → Lone s i e t Fails
    scanned_all w = all_under sheet part w.plain end t w.found

    pub scanned_only : {p : ℕ} → Scanned s t i e j (Some p) k → Lone s i e t (Only p)
    scanned_only {p} w =
        let f = w.found in
        let small : p < most_literals = rw f.0.same at (near sheet part w.plain f.0.place f.0.from f.0.before) in
        record {
          near = small;
          one = all_under sheet part w.plain end (set t p 1) (λ m a b. ⊎_elim
              (λ same. ap (λ n. get_or (set t p 1) n 0) same ∙ get_or-set_same t p 1 0 (omega arith))
              (λ other. get_or-set_other t p (place_at (get_or s m 0)) 1 0 other ∙ f.1 m a b other)
              (same_or_not (place_at (get_or s m 0)) p));
          only = λ q fall. ⊎_elim
              (λ same. sym same)
              (λ (other : p ≡ q → ⊥). true_false (sym fall ∙ stands_yet sheet part w.plain f.0 q other))
              (same_or_not p q);
        }

  -- One literal more.
  module _ (l : k < e) (lit : is_literal (get_or s k 0) ≡ true) where
    pub scanned_failed : {only : Option ℕ} → Scanned s t i e j only k → get_or t (place_at (get_or s k 0)) 0 ≡ 1 →
        Scanned s t i e j only (k + 1)
    scanned_failed {only} w fails =
        record { plain = plain_more w.plain l lit; found = found_failed s t j k only w.found fails }

    -- It does not fail.
    module _ {p : ℕ} (here : p ≡ place_at (get_or s k 0)) (stands : get_or t p 0 ≡ 1 → ⊥) where
      free_here : j ≤ k → Free s t j (k + 1) p
      free_here past = record { place = k; from = past; before = omega arith; same = sym here; stands = stands }

      pub scanned_here : {only : Option ℕ} → Scanned s t i e j only k → ((q : ℕ) → only ≡ Some q → q ≡ p) →
          Scanned s t i e j (Some p) (k + 1)
      scanned_here {only} w same = record {
        plain = plain_more w.plain l lit;
        found = found_here s t j k p only w.found same here (free_here w.plain.past);
      }

      pub scanned_two : {other : ℕ} → Scanned s t i e j (Some other) k → (other ≡ p → ⊥) → Unforced s i e t
      scanned_two {other} w unlike =
          two_stand sheet part (plain_more w.plain l lit) (later w.found.0) (free_here w.plain.past) unlike

-- A part that forces nothing is exhausted.
pub unforced_looked : {s : List ℕ} {i e : ℕ} {t trail : List ℕ} {n : ℕ} → Formed s → Part s i e → Facts s t trail n →
    Unforced s i e t → Looked s i e t trail n t trail n
unforced_looked {s} {i} {e} {t} {trail} {n} sheet part facts h =
    looked sheet part facts facts (grown_none t trail n)
    (record {
      stands = ap (λ u. tree_fails u (stretch i e s)) (sym (as_it_is t facts.long)) ∙ h most_literals;
      known = λ q m fall. true_false (sym fall ∙ h q);
    })

-- A part that forces one literal alone is exhausted once that is learned.
pub lone_looked : {s : List ℕ} {i e : ℕ} {t trail : List ℕ} {n r : ℕ} → Formed s → Part s i e → Facts s t trail n →
    Forces s i e t r → {t' trail' : List ℕ} {n' : ℕ} → n' ≡ pick (fresh t r) (n + 1) n →
    t' ≡ pick (fresh t r) (set t (opposite r) 1) t → trail' ≡ pick (fresh t r) (set trail n (opposite r)) trail →
    Looked s i e t trail n t' trail' n'
lone_looked {s} {i} {e} {t} {r = r} sheet part facts lone {t'} a b c =
    let near = lone.near in
    let known = learned facts facts near (part.counts (set t r 1) lone.one) a b c in
    looked sheet part facts known.0 known.1
    (record {
      stands = fails_if (tree_fails t (stretch i e s)) (λ fall.
          let out = lone.only most_literals (ap (λ u. tree_fails u (stretch i e s)) (as_it_is t facts.long) ∙ fall) in
          absurd (omega arith));
      known = λ q m fall. ap (λ p. get_or t' (opposite p) 0) (lone.only q fall) ∙ known.2;
    })
