-- Two forests that differ in one tree: where it stands, how deep it lies, and what becomes of the difference where forests are
-- cut.
use Rattle.std.specs.Prelude.{true, false, ◌≡◌, refl, ℕ, zero, suc, ◌+◌, ◌<◌, length}
use Rattle.std.proofs.Common.{⊎_elim, sym, ap, arith, zero-add, eq-eqb, length-append}
use Rattle.model.specs.Literal.{Literal, option}
use Rattle.model.specs.Forest.{Conn, Forest, nil, lit, node, ◌⊕◌, size, first, after, mentions}
use Rattle.model.specs.Code.{encode}
use Rattle.theory_forms.specs.Logic.{or_left}
use Rattle.theory_forms.specs.Forests.{size_zero}
use Rattle.theory_rewriting.specs.Changes.{Change, change_node}
use Rattle.locality.specs.Mentions.{Covers, change_covers}

-- `Differ n d f g`: a tree of f, n nodes on and d levels down, is another one in g that mentions no other options.
pub data Differ : ℕ → ℕ → Forest → Forest → Type 0 where
  to_literal : {c : Conn} {k f : Forest} {l : Literal} → mentions (option l) k ≡ true → Differ zero zero (node c k f) (lit l f)
  to_group : {c b : Conn} {k m f : Forest} → Covers k m → Differ zero zero (node c k f) (node b m f)
  past_literal : {n d : ℕ} {l : Literal} {f g : Forest} → Differ n d f g → Differ (suc n) d (lit l f) (lit l g)
  past_group : {n t d : ℕ} {c : Conn} {k f g : Forest} →
      t ≡ length (encode k) + n →
      Differ n d f g →
      Differ (suc t) d (node c k f) (node c k g)
  inside : {n d : ℕ} {c : Conn} {k m f : Forest} → Differ n d k m → Differ (suc n) (suc d) (node c k f) (node c m f)

-- The difference stands at one of the nodes.
differ_within : {n d : ℕ} {f g : Forest} → Differ n d f g → n < length (encode f)
unfolding encode
differ_within (to_literal e) = omega arith
differ_within (to_group h) = omega arith
differ_within (past_literal x) = let r = differ_within x in omega arith
differ_within (past_group {k = k} {f = f} e x) = let r = differ_within x in omega (arith, length-append (encode k) (encode f))
differ_within (inside {k = k} {f = f} x) = let r = differ_within x in omega (arith, length-append (encode k) (encode f))

-- Two forests that differ, each cut in two: they differ in the first parts, or in the second ones.
pub data Cut (n d : ℕ) (a b v w : Forest) : Type 0 where
  early : n < length (encode a) → Differ n d a v → b ≡ w → Cut n d a b v w
  late : (m : ℕ) → n ≡ length (encode a) + m → a ≡ v → Differ m d b w → Cut n d a b v w

cut_literal : {n d : ℕ} {a b v w : Forest} (l : Literal) → Cut n d a b v w → Cut (suc n) d (lit l a) b (lit l v) w
unfolding encode
cut_literal l (early h x e) = early (omega arith) (past_literal x) e
cut_literal l (late m h e x) = late m (omega arith) (ap (lit l) e) x

cut_group :
    {n t d : ℕ} {a b v w : Forest} (c : Conn) (k : Forest) →
    t ≡ length (encode k) + n →
    Cut n d a b v w →
    Cut (suc t) d (node c k a) b (node c k v) w
unfolding encode
cut_group {a = a} c k s (early h x e) = early (omega (arith, length-append (encode k) (encode a))) (past_group s x) e
cut_group {a = a} c k s (late m h e x) = late m (omega (arith, length-append (encode k) (encode a))) (ap (node c k) e) x

pub cut_differ : (i : ℕ) {n d : ℕ} {f g : Forest} → Differ n d f g → Cut n d (first i f) (after i f) (first i g) (after i g)
unfolding first after encode
cut_differ zero {n} x = late n (sym (zero-add n)) refl x
cut_differ (suc i) (to_literal e) = early (omega arith) (to_literal e) refl
cut_differ (suc i) (to_group h) = early (omega arith) (to_group h) refl
cut_differ (suc i) (past_literal {l = l} x) = cut_literal l (cut_differ i x)
cut_differ (suc i) (past_group {c = c} {k = k} e x) = cut_group c k e (cut_differ i x)
cut_differ (suc i) (inside {k = k} {f = f} x) =
    let r = differ_within x in
    early (omega (arith, length-append (encode k) (encode (first i f)))) (inside x) refl

-- A rule makes two such forests, that differ in their first trees.
alone : (c : Conn) (k f : Forest) → size k ≡ 1 → Differ zero zero (node c k f) (k ⊕ f)
unfolding size ◌⊕◌ mentions
alone c nil f e = absurd (omega arith)
alone c (lit l k) f e =
    rw (size_zero k (omega arith)) (to_literal (or_left false (eq-eqb (option l) (option l) refl)))
alone c (node b m k) f e = rw (size_zero k (omega arith)) (to_group (λ v h. or_left false h))

pub change_differs : {c : Conn} {k g : Forest} → Change c k g → (f : Forest) → Differ zero zero (node c k f) (g ⊕ f)
unfolding ◌⊕◌ mentions
change_differs {c} {k} x f =
    ⊎_elim
    (λ w. rw w.2 (to_group (λ v h. change_covers x v (rw w.2 (or_left false h)))))
    (λ w. rw w.2 (alone c k f w.1))
    (change_node x)
