-- Where the children look alike, a rule that does not apply to the one node does not apply to the other: by one level down for
-- all families but two, and by two levels down for these.
use Rattle.std.specs.Prelude.{Bool, false, ◌&&◌, ◌||◌, not, ◌≡◌, ℕ, suc}
use Rattle.std.proofs.Math.Bool.{true}
use Rattle.std.proofs.Math.Option.{Option, none, some}
use Rattle.std.proofs.Math.Path.{refl}
use Rattle.std.proofs.Common.{sym, ap, ap₂, ◌∙◌}
use Rattle.std.proofs.Math.Dec.{eqb, leb, ltb}
use Rattle.model.specs.Base.{pick, only_if, first_of, then}
use Rattle.model.specs.Literal.{Literal, option}
use Rattle.model.specs.Forest.{Conn, and, or, root, at_least, Forest, lit, node, ◌⊕◌, size, first, after, literal_at, constant_at, literals_only, has_unit, mentions}
use Rattle.model.specs.Code.{conn_kind}
use Rattle.model.specs.Rules.{neutral, deciding, shares, groups, absorb, omit, unwrap, spread, lift, merge, factor, lower, drop_member}
use Rattle.model.specs.Rules.{decided, decide, renamed, rename, Family, absorbs, omits, unwraps, spreads, lifts, merges, factors, drops, decides, renames}
use Rattle.model.specs.Rules.{change, Row, row_of, turn, rewrite}
use Rattle.theory_forms.specs.Logic.{none_some, and_split, and_join}
use Rattle.locality.specs.Mentions.{both_ways}
use Rattle.locality.specs.Alike.{Alike, alike_size, alike_covers, alike_first, alike_after, alike_literal, alike_constant, alike_literals, alike_unit, alike_groups, alike_shares, Conjunctions, neither, each, alike_conjunction}

-- An answer that is missing wherever another one is.
pub data Fades {A : Type 0} : Option A → Option A → Type 0 where
  gone : {o : Option A} → Fades o none
  kept : {a b : A} → Fades (some a) (some b)

fades_none : {A : Type 0} {o p : Option A} → Fades o p → o ≡ none → p ≡ none
fades_none gone e = refl
fades_none kept e = none_some (sym e)

-- By a test that follows; of one value that is read by both; of any values.
fades_only : {A : Type 0} (t u : Bool) (x y : A) → (u ≡ true → t ≡ true) → Fades (only_if t x) (only_if u y)
unfolding only_if
fades_only t false x y h = gone
fades_only t true x y h = rw (h refl) kept

fades_same : {A : Type 0} (t u : Bool) (x y : A) → t ≡ u → Fades (only_if t x) (only_if u y)
fades_same t u x y e = fades_only t u x y (λ h. e ∙ h)

fades_then : {A B : Type 0} (o p : Option A) (f g : A → Option B) → o ≡ p → ((a : A) → Fades (f a) (g a)) → Fades (then o f) (then p g)
unfolding then
fades_then none p f g e h = rw (← e) gone
fades_then (some a) p f g e h = rw (← e) (h a)

-- Of a value and another one made of it; of one value that, where the second answer has it, the first has too.
pub fades_from :
    {A B : Type 0} (o p : Option A) (r : A → A) (f g : A → Option B) →
    p ≡ then o (λ a. some (r a)) →
    ((a : A) → Fades (f a) (g (r a))) →
    Fades (then o f) (then p g)
unfolding then
fades_from none p r f g e h = rw e gone
fades_from (some a) p r f g e h = rw e (h a)

pub fades_read :
    {A B : Type 0} (o p : Option A) (f g : A → Option B) (K : A → Type 0) →
    ((a : A) → p ≡ some a → (o ≡ some a) × K a) →
    ((a : A) → K a → Fades (f a) (g a)) →
    Fades (then o f) (then p g)
unfolding then
fades_read o none f g K r h = gone
fades_read o (some a) f g K r h = let s = r a refl in rw s.0 (h a s.1)

fades_made : {A B : Type 0} {o p : Option A} (f g : A → B) → Fades o p → Fades (then o (λ a. some (f a))) (then p (λ a. some (g a)))
unfolding then
fades_made f g gone = gone
fades_made f g kept = kept

-- Of the first of two answers, and of one that a test gives at once.
fades_first : {A : Type 0} {o p q r : Option A} → Fades o p → Fades q r → Fades (first_of o q) (first_of p r)
unfolding first_of
fades_first gone gone = gone
fades_first {o = none} gone kept = kept
fades_first {o = some a} gone kept = kept
fades_first kept y = kept

fades_pick : {A : Type 0} (t : Bool) (a b : A) {o p : Option A} → Fades o p → Fades (pick t (some a) o) (pick t (some b) p)
unfolding pick
fades_pick true a b y = kept
fades_pick false a b y = y

fades_when :
    {A B : Type 0} (t : Bool) (k m : A) (f : A → Option B) →
    Fades (f k) (f m) →
    Fades (then (only_if t k) f) (then (only_if t m) f)
unfolding then only_if
fades_when true k m f h = h
fades_when false k m f h = gone

fades_conjunction :
    {n : ℕ} {B : Type 0} {o p : Option Forest} (f g : Forest → Option B) →
    Conjunctions n o p →
    ((k m : Forest) → Alike n k m → Fades (f k) (g m)) →
    Fades (then o f) (then p g)
unfolding then
fades_conjunction f g neither h = gone
fades_conjunction f g (each {k = k} {m = m} x) h = h k m x

-- Family by family. One level down: rules that lift or factor look deeper, so what becomes of these is given.
module _ {n : ℕ} {k m : Forest} (x : Alike (suc n) k m) (c : Conn) (i j : ℕ) where
  constant_fades :
      (b : Conn) (g h : Forest) →
      Fades (only_if (eqb j 0 && constant_at b (after i k)) g) (only_if (eqb j 0 && constant_at b (after i m)) h)
  constant_fades b g h = fades_same _ _ g h (ap (λ t. eqb j 0 && t) (alike_constant b (alike_after i x)))

  spread_fades : Fades (spread c i j k) (spread c i j m)
  unfolding spread
  spread_fades =
      fades_then (literal_at (after i k)) (literal_at (after i m)) _ _ (alike_literal (alike_after i x)) (λ l.
      let v = option l in
      let others : (mentions v (first i m) || mentions v (after (suc i) m)) ≡ true → (mentions v (first i k) || mentions v (after (suc i) k)) ≡ true = both_ways (mentions v (first i m)) (mentions v (after (suc i) m)) (mentions v (first i k)) (mentions v (after (suc i) k)) (alike_covers (alike_first i x) v) (alike_covers (alike_after (suc i) x) v) in
      fades_only (eqb j 0 && (mentions v (first i k) || mentions v (after (suc i) k))) (eqb j 0 && (mentions v (first i m) || mentions v (after (suc i) m))) _ _ (λ e.
      let s = and_split (eqb j 0) _ e in and_join s.0 (others s.1)))

  merge_fades : Fades (merge c i j k) (merge c i j m)
  unfolding merge
  merge_fades =
      fades_conjunction _ _ (alike_conjunction (alike_after i x)) (λ a b y.
      fades_same _ _ _ _ (ap₂ (λ s t. eqb j 0 && s && t) (alike_literals (alike_first i x)) (alike_literals (alike_after (suc i) x))))

  -- Rules 16 and 17 look at the number of children alone.
  decided_fades : (b : Conn) → Fades (decided b k) (decided b m)
  unfolding decided
  decided_fades and = gone
  decided_fades or = gone
  decided_fades root = gone
  decided_fades (at_least a) = fades_pick (eqb a 0) _ _ (fades_same _ _ _ _ (ap (λ s. ltb s a) (alike_size x)))

  renamed_fades : (b : Conn) → Fades (renamed b k) (renamed b m)
  unfolding renamed
  renamed_fades and = gone
  renamed_fades or = gone
  renamed_fades root = gone
  renamed_fades (at_least a) = fades_pick (eqb a 1) _ _ (fades_same _ _ _ _ (ap (λ s. eqb a s) (alike_size x)))

  -- The test of rule 14, from the two parts of it that look deeper.
  pub factor_test :
      (a : Literal) (p q g h : Forest) →
      has_unit a p ≡ has_unit a q →
      shares a k ≡ shares a m →
      Fades (only_if (literals_only (first i k) && not (has_unit a p) && shares a k && leb 2 (groups k)) g) (only_if (literals_only (first i m) && not (has_unit a q) && shares a m && leb 2 (groups m)) h)
  factor_test a p q g h same_unit same_shares =
      fades_same _ _ g h
      (ap₂ (λ s t. s && t)
      (ap₂ (λ s t. s && t) (ap₂ (λ s t. s && not t) (alike_literals (alike_first i x)) same_unit) same_shares)
      (ap (leb 2) (alike_groups x)))

  module _ (lift_fades : Fades (lift c i j k) (lift c i j m)) (factor_fades : Fades (factor c i j k) (factor c i j m)) where
    change_fades : (w : Family) → Fades (change w c i j k) (change w c i j m)
    unfolding change absorb omit unwrap lower drop_member decide rename
    change_fades absorbs = constant_fades (deciding c) _ _
    change_fades omits = constant_fades (neutral c) _ _
    change_fades unwraps = fades_same _ _ _ _ (ap (λ s. eqb i 0 && eqb j 0 && eqb s 1) (alike_size x))
    change_fades spreads = spread_fades
    change_fades lifts = lift_fades
    change_fades merges = merge_fades
    change_fades factors = factor_fades
    change_fades drops = fades_first (constant_fades (neutral c) _ _) (constant_fades (deciding c) _ _)
    change_fades decides = fades_when (eqb i 0 && eqb j 0) k m (decided c) (decided_fades c)
    change_fades renames = fades_when (eqb i 0 && eqb j 0) k m (renamed c) (renamed_fades c)

    turn_fades : (w : Row) → Fades (turn w c i j k) (turn w c i j m)
    unfolding turn
    turn_fades w =
        rw (alike_size x) (fades_when (eqb w.kind (conn_kind c) && leb w.fewest (size m)) k m (change w.family c i j) (change_fades w.family))

    pub group_quiet : (r : ℕ) (f g : Forest) → rewrite r i j (node c k f) ≡ none → rewrite r i j (node c m g) ≡ none
    unfolding rewrite
    group_quiet r f g e =
        fades_none (fades_then (row_of r) (row_of r) _ _ refl (λ w. fades_made (λ a. a ⊕ f) (λ a. a ⊕ g) (turn_fades w))) e

-- Two levels down.
module _ {n : ℕ} {k m : Forest} (x : Alike (suc (suc n)) k m) (c : Conn) (i j : ℕ) where
  lift_fades : Fades (lift c i j k) (lift c i j m)
  unfolding lift
  lift_fades =
      fades_conjunction _ _ (alike_conjunction (alike_after i x)) (λ a b y.
      fades_then (literal_at (after j a)) (literal_at (after j b)) _ _ (alike_literal (alike_after j y)) (λ l. kept))

  factor_fades : Fades (factor c i j k) (factor c i j m)
  unfolding factor
  factor_fades =
      fades_conjunction _ _ (alike_conjunction (alike_after i x)) (λ a b y.
      fades_then (literal_at (after j a)) (literal_at (after j b)) _ _ (alike_literal (alike_after j y)) (λ l.
      factor_test x c i j l (first j a) (first j b) _ _ (alike_unit l (alike_first j y)) (alike_shares l x)))

-- The first trees of two forests look alike to the rules.
pub data Look : Forest → Forest → Type 0 where
  both_literals : {l b : Literal} {f g : Forest} → Look (lit l f) (lit b g)
  both_groups : {n : ℕ} {c : Conn} {k m f g : Forest} → Alike (suc (suc n)) k m → Look (node c k f) (node c m g)

pub look_quiet : {f g : Forest} → Look f g → (r i j : ℕ) → rewrite r i j f ≡ none → rewrite r i j g ≡ none
unfolding rewrite
look_quiet both_literals r i j e = refl
look_quiet (both_groups {c = c} {f = f} {g = g} x) r i j e =
    group_quiet x c i j (lift_fades x c i j) (factor_fades x c i j) r f g e
