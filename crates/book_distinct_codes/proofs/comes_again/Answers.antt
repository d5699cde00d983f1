use mathlib.Core.Bool.{true, false}
use mathlib.Core.List.{List}
use mathlib.Core.Path.{◌≡◌, refl, sym, ◌∙◌}
use Prim.Native.Nat.{ℕ, ◌+◌, ◌<◌}
use native.Mathlib.Omega.{arith}
use lib.ListN.{get_or}
use Rattle.model.specs.Book.{same_code}
use Rattle.book_codes.specs.CodePlaces.{code_at}
use Rattle.book_codes.proofs.CodesFrom.{from_next}
use Rattle.book_distinct_codes.specs.Hashes.{comes_after, hash, Link, Walk}
use Rattle.book_distinct_codes.proofs.ComesAgain.{comes_more, comes_past}
use Rattle.book_distinct_codes.proofs.HashTables.{comes_next}
use Rattle.book_distinct_codes.proofs.comes_again.Invariants.{Walked}
use Rattle.book_distinct_codes.proofs.comes_again.Goals as goal

begun : {n : ℕ} {s : List ℕ} {i : ℕ} {next : List ℕ} {from : ℕ} → Walk n s i next from → Walked n s i from
begun {n} {s} {i} w =
    record { later = omega (arith, w.begun.on); alike = w.begun.alike; left = rw (← from_next n s i) (w.begun.passed (code_at s i) refl) }

module _ {n : ℕ} {s : List ℕ} {i : ℕ} {next : List ℕ} {from q : ℕ} (w : Walk n s i next from) (r : Walked n s i q) (l : q < n) where
  met : same_code (code_at s i) (code_at s q) ≡ true → comes_after n s i ≡ true
  met e = r.left ∙ comes_more n s (code_at s i) q l ∙ rw e

  link : Link n s (q + 1) (hash (code_at s q)) (get_or next q 0)
  link = w.links q (omega (arith, r.later)) l

  on : same_code (code_at s i) (code_at s q) ≡ false → {p : ℕ} → p ≡ get_or next q 0 → Walked n s i p
  on e {p} f =
      let k = rw (← f) at link in
      record {
        later = omega (arith, k.on, r.later);
        alike = λ m. k.alike m ∙ r.alike l;
        left = r.left ∙ comes_next n s (code_at s i) q p l (r.alike l) e k;
      }

pub loop-q-init : goal.loop-q-init
loop-q-init c = begun c.requires

pub returns-then-is_same : goal.returns-then-is_same
returns-then-is_same c =
    let m = c in
    let n = m in
    sym (met n.requires n.loop-q.invariant (omega arith) (sym m.is_same.ensures ∙ c.if-is_same.true))

pub loop-q-smaller : goal.loop-q-smaller
loop-q-smaller c =
    let n = c in
    let k = link n.requires n.loop-q.invariant (omega arith) in
    omega (arith, k.on, c.from-q.ensures)

pub loop-q-preserved : goal.loop-q-preserved
loop-q-preserved c =
    let m = c in
    let n = m in
    on n.requires n.loop-q.invariant (omega arith) (sym m.is_same.ensures ∙ c.if-is_same.false) c.from-q.ensures

pub returns : goal.returns
returns c =
    let n = c in
    let a = n.args in
    sym (n.loop-q.invariant.left ∙ comes_past a.n a.s.now (code_at a.s.now a.i) n.loop-q.q (omega arith))
