-- Hops over trees that stand one after another, by their sizes.
use Rattle.std.specs.Prelude.{List, [], ◌∷◌, ◌≡◌, refl, ℕ, zero, suc, ◌+◌, ◌-◌, ◌≤◌, ◌<◌, eqb, length, get_or, drop, replicate}
use Rattle.std.proofs.Common.{ap, ◌∙◌, zero-add, suc-add, arith, below_more, length-drop, drop-drop}
use Rattle.model.specs.Code.{kind, value, children}
use Rattle.theory_forms.specs.Logic.{pick_keeps}
use Rattle.theory_forms.specs.Scan.{is_literal}
use Rattle.theory_reading.specs.Spans.{arity, arity_none, span, span_none, span_over, span_more, span_step, span_within, child_at}
use Rattle.search_sizes.specs.SizeTables.{SizesOf}

-- Trees one after another take the sum of their numbers.
pub span_add : (p q : ℕ) (l : List ℕ) → span (p + q) l ≡ span p l + span q (drop (span p l) l)
span_add p q l = go p l
  where
    go : (p : ℕ) (l : List ℕ) → span (p + q) l ≡ span p l + span q (drop (span p l) l)
    go zero [] = rw (zero-add q, span_none [], zero-add (span q []))
    go zero (x ∷ l) = rw (zero-add q, span_none (x ∷ l), zero-add (span q (x ∷ l)))
    go (suc p) [] = rw (span_over (suc p + q), span_over (suc p), span_over q)
    go (suc p) (x ∷ l) =
        let turned : p + q + arity x ≡ p + arity x + q = omega arith in
        let n = span (p + arity x) l in
        rw (suc-add p q, span_more (p + q) x l, span_more p x l, turned, suc-add n (span q (drop n l))) (ap suc (go (p + arity x) l))

-- One tree further.
pub span_hop : (p i : ℕ) (s : List ℕ) → 0 < p → let n = i + span 1 (drop i s) in i + span p (drop i s) ≡ n + span (p - 1) (drop n s)
span_hop p i s h =
    let one : p ≡ 1 + (p - 1) = omega arith in
    let parts : span p (drop i s) ≡ span 1 (drop i s) + span (p - 1) (drop (span 1 (drop i s)) (drop i s)) =
    ap (λ k. span k (drop i s)) one ∙ span_add 1 (p - 1) (drop i s) in
    rw (parts, drop-drop (span 1 (drop i s)) i s) (omega arith)

-- A tree from its own number on: its head, then its children.
pub span_tree : (i : ℕ) (s : List ℕ) → i < length s → i + span 1 (drop i s) ≡ i + 1 + span (arity (get_or s i 0)) (drop (i + 1) s)
span_tree i s h =
    let none : 1 - 1 + arity (get_or s i 0) ≡ arity (get_or s i 0) = omega arith in
    span_step 1 i s (omega arith) h ∙ ap (λ k. i + 1 + span k (drop (i + 1) s)) none

-- A node of value 0 has no children, whatever its kind; a node without children is its tree.
pub no_children : (x : ℕ) → value x ≡ 0 → arity x ≡ 0
unfolding arity children
no_children x e =
    pick_keeps (λ k. k ≡ 0) (is_literal x) refl (rw e (pick_keeps (λ k. k ≡ 0) (eqb (kind x) 6) refl refl))

pub childless : (i : ℕ) (s : List ℕ) → i < length s → arity (get_or s i 0) ≡ 0 → i + span 1 (drop i s) ≡ i + 1
childless i s h e = span_tree i s h ∙ ap (λ k. i + 1 + span k (drop (i + 1) s)) e ∙ omega (arith, span_none (drop (i + 1) s))

-- A tree has a number at least, and lies within the list.
pub span_one : (i : ℕ) (s : List ℕ) → i < length s → (1 ≤ span 1 (drop i s)) × (i + span 1 (drop i s) ≤ length s)
span_one i s h =
    (omega (arith, span_tree i s h), omega (arith, span_within 1 (drop i s), length-drop i s))

-- Among zeros each stands alone.
pub span_zero : (n : ℕ) → 0 < n → span 1 (replicate n 0) ≡ 1
span_zero zero h = absurd (omega arith)
span_zero (suc n) h = rw (span_more 0 0 (replicate n 0), arity_none) (ap suc (span_none (replicate n 0)))

-- The children of the tree at a place begin after its head.
pub inner_at : (at j : ℕ) (l : List ℕ) → at + child_at j (drop at l) ≡ at + 1 + span j (drop (at + 1) l)
inner_at at j l = rw (drop-drop 1 at l) (omega arith)

-- Of the trees that stand one after another from a start on, those before tree i were passed over, each with a property, and tree i
-- begins at a place.
pub record Passed (P : ℕ → Type 0) (start : ℕ) (l : List ℕ) (i at : ℕ) : Type 0 where
  pub here : at ≡ start + span i (drop start l)
  pub before : (k : ℕ) → k < i → P k

pub passed_first : {P : ℕ → Type 0} {start : ℕ} {l : List ℕ} → Passed P start l 0 start
passed_first {P} {start} {l} = record { here = omega (arith, span_none (drop start l)); before = λ k h. absurd (omega arith) }

-- The size of the tree at a place, as a table tells it, and one tree more passed over.
module _ {l t : List ℕ} (sizes : SizesOf l t) {at n : ℕ} (inside : at < length l) (read : n ≡ get_or t at 0) where
  pub hop_size : n ≡ span 1 (drop at l)
  hop_size = read ∙ sizes.each at (omega arith) inside

  pub hop_within : at + n ≤ length l
  hop_within = omega (arith, hop_size, span_one at l inside)

  pub passed_more : {P : ℕ → Type 0} {start i : ℕ} → Passed P start l i at → P i → Passed P start l (i + 1) (at + n)
  passed_more {P} {start} {i} w p =
      let next : span (i + 1) (drop start l) ≡ span i (drop start l) + span 1 (drop (start + span i (drop start l)) l) =
      span_add i 1 (drop start l) ∙ ap (λ xs. span i (drop start l) + span 1 xs) (drop-drop (span i (drop start l)) start l) in
      record {
        here = omega (arith, w.here, hop_size ∙ ap (λ k. span 1 (drop k l)) w.here, next);
        before = below_more P i w.before p;
      }
