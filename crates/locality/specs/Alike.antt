-- Forests that look alike down to a level: what rules look at is the same there, and below it stand as many trees that mention
-- no other options.
use Rattle.std.specs.Prelude.{true, ◌&&◌, ◌||◌, ◌≡◌}
use Rattle.std.proofs.Math.Option.{Option, none, some}
use Rattle.std.proofs.Math.Path.{refl, ap}
use Rattle.std.proofs.Common.{ap₂, arith, eqb-true}
use Prim.Native.Nat.{ℕ, zero, suc, ◌≤◌}
use Rattle.std.proofs.Math.Dec.{eqb}
use Rattle.model.specs.Literal.{Literal, option, same}
use Rattle.model.specs.Forest.{Conn, and, or, root, at_least, same_conn, Forest, nil, lit, node, size, first, after, literal_at, conjunction_at, constant_at, literals_only, has_unit, mentions}
use Rattle.model.specs.Rules.{shares, groups}
use Rattle.theory_forms.specs.Logic.{or_right}
use Rattle.locality.specs.Mentions.{Covers, both_ways, keep_first}
use Rattle.locality.specs.Differ.{Differ, to_literal, to_group, past_literal, past_group, inside}

pub data Alike : ℕ → Forest → Forest → Type 0 where
  no_trees : {n : ℕ} → Alike n nil nil
  one_literal : {n : ℕ} {l : Literal} {f g : Forest} → Alike n f g → Alike n (lit l f) (lit l g)
  groups_alike : {n : ℕ} {c : Conn} {k m f g : Forest} → Alike n k m → Alike (suc n) f g → Alike (suc n) (node c k f) (node c m g)
  deep_groups : {c b : Conn} {k m f g : Forest} → Covers k m → Alike zero f g → Alike zero (node c k f) (node b m g)
  deep_literal : {c : Conn} {l : Literal} {k f g : Forest} →
      mentions (option l) k ≡ true →
      Alike zero f g →
      Alike zero (node c k f) (lit l g)
  deep_constant : {c : Conn} {l : Literal} {f g : Forest} → Alike zero f g → Alike zero (lit l f) (node c nil g)

pub alike_self : (n : ℕ) (f : Forest) → Alike n f f
alike_self n nil = no_trees
alike_self n (lit l f) = one_literal (alike_self n f)
alike_self zero (node c k f) = deep_groups (λ v e. e) (alike_self zero f)
alike_self (suc n) (node c k f) = groups_alike (alike_self n k) (alike_self (suc n) f)

-- As many trees, and no other options.
pub alike_size : {n : ℕ} {f g : Forest} → Alike n f g → size f ≡ size g
unfolding size
alike_size no_trees = refl
alike_size (one_literal x) = ap suc (alike_size x)
alike_size (groups_alike y x) = ap suc (alike_size x)
alike_size (deep_groups h x) = ap suc (alike_size x)
alike_size (deep_literal e x) = ap suc (alike_size x)
alike_size (deep_constant x) = ap suc (alike_size x)

pub alike_covers : {n : ℕ} {f g : Forest} → Alike n f g → Covers f g
unfolding mentions
alike_covers no_trees v e = e
alike_covers (one_literal {l = l} {f = f} {g = g} x) v e = keep_first (eqb v (option l)) (mentions v g) (mentions v f) (alike_covers x v) e
alike_covers (groups_alike {k = k} {m = m} {f = f} {g = g} y x) v e =
    both_ways (mentions v m) (mentions v g) (mentions v k) (mentions v f) (alike_covers y v) (alike_covers x v) e
alike_covers (deep_groups {k = k} {m = m} {f = f} {g = g} h x) v e =
    both_ways (mentions v m) (mentions v g) (mentions v k) (mentions v f) (h v) (alike_covers x v) e
alike_covers (deep_literal {l = l} {k = k} {f = f} {g = g} h x) v e =
    both_ways (eqb v (option l)) (mentions v g) (mentions v k) (mentions v f) (λ s. rw (eqb-true v (option l) s) h) (alike_covers x v) e
alike_covers (deep_constant {l = l} x) v e = or_right (eqb v (option l)) (alike_covers x v e)

-- Cut after as many trees.
pub alike_first : (i : ℕ) {n : ℕ} {f g : Forest} → Alike n f g → Alike n (first i f) (first i g)
unfolding first
alike_first zero x = no_trees
alike_first (suc i) no_trees = no_trees
alike_first (suc i) (one_literal x) = one_literal (alike_first i x)
alike_first (suc i) (groups_alike y x) = groups_alike y (alike_first i x)
alike_first (suc i) (deep_groups h x) = deep_groups h (alike_first i x)
alike_first (suc i) (deep_literal e x) = deep_literal e (alike_first i x)
alike_first (suc i) (deep_constant x) = deep_constant (alike_first i x)

pub alike_after : (i : ℕ) {n : ℕ} {f g : Forest} → Alike n f g → Alike n (after i f) (after i g)
unfolding after
alike_after zero x = x
alike_after (suc i) no_trees = no_trees
alike_after (suc i) (one_literal x) = alike_after i x
alike_after (suc i) (groups_alike y x) = alike_after i x
alike_after (suc i) (deep_groups h x) = alike_after i x
alike_after (suc i) (deep_literal e x) = alike_after i x
alike_after (suc i) (deep_constant x) = alike_after i x

-- What the rules read of forests that look alike one level down.
module _ {n : ℕ} where
  pub alike_literal : {f g : Forest} → Alike (suc n) f g → literal_at f ≡ literal_at g
  unfolding literal_at
  alike_literal no_trees = refl
  alike_literal (one_literal x) = refl
  alike_literal (groups_alike y x) = refl

  pub alike_constant : (c : Conn) {f g : Forest} → Alike (suc n) f g → constant_at c f ≡ constant_at c g
  unfolding constant_at
  alike_constant c no_trees = refl
  alike_constant c (one_literal x) = refl
  alike_constant c (groups_alike {c = b} y x) = ap (λ s. same_conn c b && eqb s 0) (alike_size y)

  pub alike_literals : {f g : Forest} → Alike (suc n) f g → literals_only f ≡ literals_only g
  unfolding literals_only
  alike_literals no_trees = refl
  alike_literals (one_literal x) = alike_literals x
  alike_literals (groups_alike y x) = refl

  pub alike_unit : (a : Literal) {f g : Forest} → Alike (suc n) f g → has_unit a f ≡ has_unit a g
  unfolding has_unit
  alike_unit a no_trees = refl
  alike_unit a (one_literal {l = l} x) = ap (λ b. same a l || b) (alike_unit a x)
  alike_unit a (groups_alike y x) = alike_unit a x

  pub alike_groups : {f g : Forest} → Alike (suc n) f g → groups f ≡ groups g
  unfolding groups
  alike_groups no_trees = refl
  alike_groups (one_literal x) = alike_groups x
  alike_groups (groups_alike y x) = ap suc (alike_groups x)

-- Both are conjunctions, whose children look alike one level less, or neither is.
pub data Conjunctions (n : ℕ) : Option Forest → Option Forest → Type 0 where
  neither : Conjunctions n none none
  each : {k m : Forest} → Alike n k m → Conjunctions n (some k) (some m)

pub alike_conjunction : {n : ℕ} {f g : Forest} → Alike (suc n) f g → Conjunctions n (conjunction_at f) (conjunction_at g)
unfolding conjunction_at
alike_conjunction no_trees = neither
alike_conjunction (one_literal x) = neither
alike_conjunction (groups_alike {c = and} y x) = each y
alike_conjunction (groups_alike {c = or} y x) = neither
alike_conjunction (groups_alike {c = root} y x) = neither
alike_conjunction (groups_alike {c = at_least a} y x) = neither

-- Two levels down.
pub alike_shares : (a : Literal) {n : ℕ} {f g : Forest} → Alike (suc (suc n)) f g → shares a f ≡ shares a g
unfolding shares
alike_shares a no_trees = refl
alike_shares a (one_literal x) = alike_shares a x
alike_shares a (groups_alike {c = and} y x) = ap₂ ◌&&◌ (alike_unit a y) (alike_shares a x)
alike_shares a (groups_alike {c = or} y x) = refl
alike_shares a (groups_alike {c = root} y x) = refl
alike_shares a (groups_alike {c = at_least b} y x) = refl

-- Forests that differ in one tree look alike above it.
pub differ_alike : {t d : ℕ} {f g : Forest} (n : ℕ) → n ≤ d → Differ t d f g → Alike n f g
differ_alike zero h (to_literal {f = f} e) = deep_literal e (alike_self zero f)
differ_alike (suc n) h (to_literal e) = absurd (omega arith)
differ_alike zero h (to_group {f = f} s) = deep_groups s (alike_self zero f)
differ_alike (suc n) h (to_group s) = absurd (omega arith)
differ_alike n h (past_literal x) = one_literal (differ_alike n h x)
differ_alike zero h (past_group e x) = deep_groups (λ v m. m) (differ_alike zero h x)
differ_alike (suc n) h (past_group {k = k} e x) = groups_alike (alike_self n k) (differ_alike (suc n) h x)
differ_alike zero h (inside {f = f} x) = deep_groups (alike_covers (differ_alike zero (omega arith) x)) (alike_self zero f)
differ_alike (suc n) h (inside {f = f} x) = groups_alike (differ_alike n (omega arith) x) (alike_self (suc n) f)
